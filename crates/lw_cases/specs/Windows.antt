-- Worked cases.
-- Plans with windows, and their reports.
use Rattle.std.specs.Prelude.{ℕ, true, false, List, [], ◌∷◌, ◌++◌, replicate, pos, neg_ℤ, codes}
use Rattle.lw_calls.specs.declared.make.Kind.TheVariants.{Simple, Smart}
use Rattle.lw_calls.specs.declared.call.Call.TheVariants.{ToFront, MoveBy, SizeBy, SetBox, Activate, SetTitle, TakeMessage}
use Rattle.lw_calls.specs.Plan.{Plan}
use Rattle.lw_cases.specs.Plans.{text, one_task, further, with_glyph, create, open_window}

-- a window of which one pixel is covered, and then uncovered
abbrev pub asked_to_refresh : Plan
asked_to_refresh =
    one_task 16 4 1 (codes "b" ∷ codes "f" ∷ []) (open_window 0 Simple 0 0 4 4 false 1 [] ∷ create 1 Smart 3 3 6 3 ∷
    ToFront 0 ∷ [])

abbrev pub asked_to_refresh_report : List ℕ
asked_to_refresh_report =
    text (codes "order 3/0 0 0/planes 16 4 1/plane 0/0000/0000/0000/0000/visible b 1/0 0 3 3/visible f 1/4 3 6 3/"
    ++ codes "damage b 1/3 3 3 3/damage f 0/messages b 1/refresh/replies a 3/ok/ok/ok/done/")

-- and then covered again
abbrev pub covered_again : Plan
covered_again = further asked_to_refresh (ToFront 1 ∷ [])

abbrev pub covered_again_report : List ℕ
covered_again_report =
    text (codes "order 4/0 0 0 0/planes 16 4 1/plane 0/0000/0000/0000/0000/visible b 2/0 0 3 2/0 3 2 3/visible f 1/3 3 6 3/"
    ++ codes "damage b 0/damage f 0/messages b 1/refresh/replies a 4/ok/ok/ok/ok/done/")

-- and then uncovered again
abbrev pub uncovered_again : Plan
uncovered_again = further covered_again (ToFront 0 ∷ [])

abbrev pub uncovered_again_report : List ℕ
uncovered_again_report =
    text (codes "order 5/0 0 0 0 0/planes 16 4 1/plane 0/0000/0000/0000/0000/visible b 1/0 0 3 3/visible f 1/4 3 6 3/"
    ++ codes "damage b 1/3 3 3 3/damage f 0/messages b 1/refresh/replies a 5/ok/ok/ok/ok/ok/done/")

-- a window of the least size, whose title has one column of room, made active
abbrev pub active_title : Plan
active_title =
    with_glyph 66 (replicate 8 255)
    (one_task 16 16 1 (codes "w" ∷ []) (open_window 0 Smart 0 0 9 14 true 8 (codes "B") ∷ Activate 0 ∷ []))

abbrev pub active_title_report : List ℕ
active_title_report =
    text (codes "order 2/0 0/planes 16 16 1/plane 0/ff80/ff80/f780/f780/f780/f780/f780/f780/f780/f780/ff80/f780/"
    ++ codes "ff80/ff80/0000/0000/" ++ codes "visible w 1/0 0 8 13/damage w 0/messages w 1/active/replies a 2/ok/ok/done/")

-- a window of the least size, made one column wider
abbrev pub frame_widened : Plan
frame_widened =
    one_task 16 16 1 (codes "w" ∷ []) (open_window 0 Smart 0 0 9 14 true 0 [] ∷ SizeBy 0 (pos 1) (pos 0) ∷ [])

abbrev pub frame_widened_report : List ℕ
frame_widened_report =
    text (codes "order 2/0 0/planes 16 16 1/plane 0/0000/0000/0000/0000/0000/0000/0000/0000/0000/0000/0000/0000/"
    ++ codes "0000/0000/0000/0000/" ++ codes "visible w 1/0 0 9 13/damage w 1/5 11 5 11/messages w 0/replies a 2/ok/ok/done/")

-- and then narrower than a frame may be
abbrev pub frame_too_narrow : Plan
frame_too_narrow = further frame_widened (SizeBy 0 (neg_ℤ (pos 9)) (pos 0) ∷ [])

abbrev pub frame_too_narrow_report : List ℕ
frame_too_narrow_report =
    text (codes "order 3/0 0 0/planes 16 16 1/plane 0/0000/0000/0000/0000/0000/0000/0000/0000/0000/0000/0000/"
    ++ codes "0000/0000/0000/0000/0000/" ++ codes "visible w 1/0 0 9 13/damage w 1/5 11 5 11/messages w 0/"
    ++ codes "replies a 3/ok/ok/out-of-bounds/done/")

-- a window that gets another box, then is moved by nothing, and then takes its first message
abbrev pub box_told : Plan
box_told =
    one_task 16 1 1 (codes "w" ∷ []) (open_window 0 Smart 0 0 4 1 false 7 [] ∷ SetBox 0 (pos 2) (pos 0) (pos 5) (pos 1) ∷
    MoveBy 0 (pos 0) (pos 0) ∷ TakeMessage 0 ∷ [])

abbrev pub box_told_report : List ℕ
box_told_report =
    text (codes "order 4/0 0 0 0/planes 16 1 1/plane 0/0000/visible w 1/2 0 6 0/damage w 1/4 0 4 0/"
    ++ codes "messages w 2/change/refresh/replies a 4/ok/ok/ok/message newsize/done/")

-- two borderless windows, of which the one behind is made active and gets a title
abbrev pub activated_behind : Plan
activated_behind =
    one_task 16 1 1 (codes "u" ∷ codes "v" ∷ []) (open_window 0 Smart 0 0 4 1 false 24 [] ∷
    open_window 1 Smart 2 0 4 1 false 24 [] ∷ Activate 0 ∷ SetTitle 0 (codes "B") ∷ [])

abbrev pub activated_behind_report : List ℕ
activated_behind_report =
    text (codes "order 4/0 0 0 0/planes 16 1 1/plane 0/0000/visible u 1/0 0 1 0/visible v 1/2 0 5 0/damage u 0/damage v 0/"
    ++ codes "messages u 1/active/messages v 0/replies a 4/ok/ok/ok/ok/done/")
