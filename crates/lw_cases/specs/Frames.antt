-- Worked cases.
-- Plans of framed windows that become active and inactive, and their reports.
use Rattle.std.specs.Prelude.{ℕ, true, List, [], ◌∷◌, ◌++◌, replicate, pos, neg_ℤ, Option, codes}
use Rattle.lw_calls.specs.declared.make.Kind.TheVariants.{Simple, Smart}
use Rattle.lw_calls.specs.declared.call.Call.TheVariants.{Close, ToFront, MoveBy, SizeBy, Activate, SetA, SetMode, SetMask}
use Rattle.lw_calls.specs.declared.call.Call.TheVariants.{ReadPixel, Clip, BeginRefresh, EndRefresh, SetTitle}
use Rattle.lw_calls.specs.declared.reply.Reply.{Reply}
use Rattle.lw_calls.specs.declared.group.Hold.TheVariants.{Slot}
use Rattle.lw_planes.specs.Bitmap.{pen_at}
use Rattle.lw_machine.specs.Layer.{Slot as LayerSlot, Unopened, Live, Closed}
use Rattle.lw_calls.specs.Plan.{Plan}
use Rattle.lw_calls.specs.Entries.{entries, only_order}
use Rattle.lw_machine.specs.History.{machine, replies_of}
use Rattle.lw_machine.specs.Finals.{opening_desk}
use Rattle.lw_cases.specs.Windows.{frame_widened}
use Rattle.lw_cases.specs.Plans.{text, one_task, further, grouped, with_glyph, create, open_window, fill}

-- Two windows of the least size, side by side, of which the first and then the second is made active. Then the first gets a
-- title, of whose glyph each second row has its left column.
abbrev pub second_activated : Plan
second_activated =
    with_glyph 66 (128 ∷ 0 ∷ 128 ∷ 0 ∷ 128 ∷ 0 ∷ 128 ∷ 0 ∷ [])
    (one_task 18 14 2 (codes "u" ∷ codes "v" ∷ []) (open_window 0 Smart 0 0 9 14 true 24 [] ∷
    open_window 1 Smart 9 0 9 14 true 24 [] ∷ Activate 0 ∷ Activate 1 ∷ SetTitle 0 (codes "B") ∷ []))

abbrev pub second_activated_report : List ℕ
second_activated_report =
    text (codes "order 5/0 0 0 0 0/planes 18 14 2/" ++ codes "plane 0/007fc000/007fc000/087fc000/007fc000/"
    ++ codes "087fc000/007fc000/087fc000/007fc000/087fc000/007fc000/007fc000/007bc000/007fc000/007fc000/"
    ++ codes "plane 1/ff800000/ff800000/f7800000/ff800000/f7800000/ff800000/f7800000/ff800000/f7800000/"
    ++ codes "ff800000/ff800000/f7800000/ff800000/ff800000/"
    ++ codes "visible u 1/0 0 8 13/visible v 1/9 0 17 13/damage u 0/damage v 0/"
    ++ codes "messages u 2/active/inactive/messages v 1/active/replies a 5/ok/ok/ok/ok/ok/done/")

-- and then the active one is closed
abbrev pub active_closed : Plan
active_closed = further second_activated (Close 1 ∷ [])

abbrev pub active_closed_report : List ℕ
active_closed_report =
    text (codes "order 6/0 0 0 0 0 0/planes 18 14 2/" ++ codes "plane 0/00000000/00000000/08000000/00000000/"
    ++ codes "08000000/00000000/08000000/00000000/08000000/00000000/00000000/00000000/00000000/00000000/"
    ++ codes "plane 1/ff800000/ff800000/f7800000/ff800000/f7800000/ff800000/f7800000/ff800000/f7800000/"
    ++ codes "ff800000/ff800000/f7800000/ff800000/ff800000/" ++ codes "visible u 1/0 0 8 13/damage u 0/"
    ++ codes "messages u 2/active/inactive/replies a 6/ok/ok/ok/ok/ok/ok/done/")

-- and then the other one is made active, twice
abbrev pub first_activated_again : Plan
first_activated_again = further active_closed (Activate 0 ∷ Activate 0 ∷ [])

abbrev pub first_activated_again_report : List ℕ
first_activated_again_report =
    text (codes "order 8/0 0 0 0 0 0 0 0/planes 18 14 2/" ++ codes "plane 0/ff800000/ff800000/f7800000/ff800000/"
    ++ codes "f7800000/ff800000/f7800000/ff800000/f7800000/ff800000/ff800000/f7800000/ff800000/ff800000/"
    ++ codes "plane 1/00000000/00000000/00000000/00000000/00000000/00000000/00000000/00000000/00000000/"
    ++ codes "00000000/00000000/00000000/00000000/00000000/" ++ codes "visible u 1/0 0 8 13/damage u 0/"
    ++ codes "messages u 3/active/inactive/active/replies a 8/ok/ok/ok/ok/ok/ok/ok/ok/done/")

-- A simple window, the inner pixel of which and eight pixels of its frame are covered. Two pixels of its frame are painted
-- over, and then it is uncovered: the frame is painted whole, and the inner pixel is damaged.
abbrev pub frame_uncovered : Plan
frame_uncovered =
    one_task 16 14 2 (codes "w" ∷ codes "c" ∷ []) (open_window 0 Simple 0 0 9 14 true 0 [] ∷ create 1 Smart 3 10 5 12 ∷
    fill 0 0 0 1 0 ∷ Close 1 ∷ [])

abbrev pub frame_uncovered_report : List ℕ
frame_uncovered_report =
    text (codes "order 4/0 0 0 0/planes 16 14 2/" ++ codes "plane 0/0000/0000/0000/0000/0000/0000/0000/0000/"
    ++ codes "0000/0000/0000/0000/0000/0000/" ++ codes "plane 1/ff80/ff80/ff80/ff80/ff80/ff80/ff80/ff80/"
    ++ codes "ff80/ff80/ff80/f780/ff80/ff80/" ++ codes "visible w 1/0 0 8 13/damage w 1/4 11 4 11/"
    ++ codes "messages w 0/replies a 4/ok/ok/ok/ok/done/")

-- the window that was made one column wider, which damaged a pixel of its old frame, made as narrow as before
abbrev pub frame_narrowed : Plan
frame_narrowed = further frame_widened (SizeBy 0 (neg_ℤ (pos 1)) (pos 0) ∷ [])

abbrev pub frame_narrowed_report : List ℕ
frame_narrowed_report =
    text (codes "order 3/0 0 0/planes 16 16 1/plane 0/0000/0000/0000/0000/0000/0000/0000/0000/0000/0000/0000/"
    ++ codes "0000/0000/0000/0000/0000/" ++ codes "visible w 1/0 0 8 13/damage w 0/messages w 0/replies a 3/ok/ok/ok/done/")

-- A window two pixels of whose frame are painted over, put in front and moved: nothing of its frame is painted again.
abbrev pub frame_painted_over : Plan
frame_painted_over =
    one_task 16 14 2 (codes "w" ∷ []) (open_window 0 Smart 0 0 9 14 true 0 [] ∷ fill 0 0 0 1 0 ∷ ToFront 0 ∷
    MoveBy 0 (pos 1) (pos 0) ∷ [])

abbrev pub frame_painted_over_report : List ℕ
frame_painted_over_report =
    text (codes "order 4/0 0 0 0/planes 16 14 2/" ++ codes "plane 0/6000/0000/0000/0000/0000/0000/0000/0000/"
    ++ codes "0000/0000/0000/0000/0000/0000/" ++ codes "plane 1/1fc0/7fc0/7fc0/7fc0/7fc0/7fc0/7fc0/7fc0/"
    ++ codes "7fc0/7fc0/7fc0/7bc0/7fc0/7fc0/" ++ codes "visible w 1/1 0 9 13/damage w 0/messages w 0/"
    ++ codes "replies a 4/ok/ok/ok/ok/done/")

-- then it gets the title that it has, while its clip region is empty and its mask has no planes
abbrev pub frame_painted_again : Plan
frame_painted_again = further frame_painted_over (Clip 0 0 ∷ SetMask 0 0 ∷ SetTitle 0 [] ∷ [])

abbrev pub frame_painted_again_report : List ℕ
frame_painted_again_report =
    text (codes "order 7/0 0 0 0 0 0 0/planes 16 14 2/" ++ codes "plane 0/0000/0000/0000/0000/0000/0000/0000/"
    ++ codes "0000/0000/0000/0000/0000/0000/0000/" ++ codes "plane 1/7fc0/7fc0/7fc0/7fc0/7fc0/7fc0/7fc0/"
    ++ codes "7fc0/7fc0/7fc0/7fc0/7bc0/7fc0/7fc0/" ++ codes "visible w 1/1 0 9 13/damage w 0/messages w 0/"
    ++ codes "replies a 7/ok/ok/ok/ok/none/ok/ok/done/")

-- a simple window that is covered in part, and gets a title
abbrev pub frame_covered : Plan
frame_covered =
    one_task 16 14 2 (codes "w" ∷ codes "c" ∷ []) (open_window 0 Simple 0 0 9 14 true 0 [] ∷ create 1 Smart 3 10 5 12 ∷
    SetTitle 0 [] ∷ [])

-- the pen at a pixel of a slot's bits, kept or not, at the end of a run
abbrev pub pen_in : LayerSlot → ℕ → ℕ → ℕ
pen_in Unopened x y = 0
pen_in (Live l) x y = pen_at l.bits x y
pen_in Closed x y = 0

abbrev pub pen_after : Plan → ℕ → ℕ → ℕ → ℕ
pen_after plan slot x y = pen_in ((machine (opening_desk plan []) (entries plan [] (only_order plan))).slot slot) x y

-- the active window at the end of a run
abbrev pub active_after : Plan → Option ℕ
active_after plan = (machine (opening_desk plan []) (entries plan [] (only_order plan))).active

-- the replies of a plan's one task
abbrev pub replies_to : Plan → List Reply
replies_to plan = replies_of (opening_desk plan []) 0 (entries plan [] (only_order plan))

-- The active window, a pixel of whose frame is painted over, is made active once more, and the pixel read.
abbrev pub activated_twice : Plan
activated_twice =
    one_task 16 14 2 (codes "w" ∷ []) (open_window 0 Smart 0 0 9 14 true 0 [] ∷ Activate 0 ∷ SetA 0 3 ∷ fill 0 0 0 0 0 ∷
    Activate 0 ∷ ReadPixel 0 (pos 0) (pos 0) ∷ [])

-- A title whose glyph has a pixel on the left in its first row and none in its second, under INVERSVID.
abbrev pub inverse_title : Plan
inverse_title =
    with_glyph 66 (128 ∷ 0 ∷ 0 ∷ 0 ∷ 0 ∷ 0 ∷ 0 ∷ 0 ∷ [])
    (one_task 16 14 2 (codes "w" ∷ []) (open_window 0 Smart 0 0 9 14 true 0 [] ∷ SetMode 0 4 ∷ SetTitle 0 (codes "B") ∷
    ReadPixel 0 (pos 4) (pos 2) ∷ ReadPixel 0 (pos 4) (pos 3) ∷ []))

-- A title of a full glyph within an update in which nothing is drawable, on a window with room for five of its columns.
abbrev pub updated_title : Plan
updated_title =
    with_glyph 66 (replicate 8 255)
    (grouped (one_task 16 14 2 (codes "w" ∷ []) (open_window 0 Smart 0 0 13 14 true 0 [] ∷ BeginRefresh 0 ∷
    SetTitle 0 (codes "B") ∷ EndRefresh 0 true ∷ ReadPixel 0 (pos 4) (pos 2) ∷ ReadPixel 0 (pos 8) (pos 9) ∷
    ReadPixel 0 (pos 9) (pos 9) ∷ [])) (record { first = 1; last = 3; hold = Slot 0 }))
