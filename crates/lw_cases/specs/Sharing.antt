-- Worked cases.
-- Plans of two tasks on each other's windows, and their reports.
use Rattle.std.specs.Prelude.{ℕ, false, List, [], ◌∷◌, ◌++◌, replicate, pos, codes}
use Rattle.lw_calls.specs.declared.make.Kind.TheVariants.{Smart, SuperBitmap}
use Rattle.lw_calls.specs.declared.call.Call.TheVariants.{OpenWindow, Close, ToFront, ToBack, InFrontOf, SizeBy, SetBox}
use Rattle.lw_calls.specs.declared.call.Call.TheVariants.{Activate, SetA, SetB, SetMode, SetMask, At, WritePixel, ReadPixel}
use Rattle.lw_calls.specs.declared.call.Call.TheVariants.{DrawTo, Letters, SetRast, Clip, Unclip, Scroll}
use Rattle.lw_calls.specs.Plan.{Plan}
use Rattle.lw_cases.specs.Plans.{text, one_task, with_bitmap, with_second_task, box, open_window, fill, scroll_left, blit_row}
use Rattle.lw_cases.specs.Plans.{put_row}

-- The first task opens a window and one with a bitmap of its own. The second puts the window in front, behind and before the
-- other one, makes it wider, gives it a box and makes it active, and fills a pixel of the other one, which it then scrolls.
abbrev pub served_by_another : Plan
served_by_another =
    with_second_task (ToFront 0 ∷ ToBack 0 ∷ InFrontOf 0 1 ∷ SizeBy 0 (pos 1) (pos 0) ∷
    SetBox 0 (pos 1) (pos 0) (pos 5) (pos 1) ∷ Activate 0 ∷ fill 1 2 0 2 0 ∷ Scroll 1 (pos 2) (pos 0) ∷ []) []
    (one_task 16 1 1 (codes "w" ∷ codes "s" ∷ []) (open_window 0 Smart 0 0 4 1 false 8 [] ∷
    OpenWindow 1 (record (box SuperBitmap 8 0 4 1) { bits_w = 8; bits_h = 1 }) false false 0 [] ∷ []))

abbrev pub served_by_another_order : List ℕ
served_by_another_order = 0 ∷ 0 ∷ 1 ∷ 1 ∷ 1 ∷ 1 ∷ 1 ∷ 1 ∷ 1 ∷ 1 ∷ []

abbrev pub served_by_another_report : List ℕ
served_by_another_report =
    text (codes "order 10/0 0 1 1 1 1 1 1 1 1/planes 16 1 1/plane 0/0080/visible w 1/1 0 5 0/visible s 1/"
    ++ codes "8 0 11 0/damage w 1/4 0 4 0/damage s 0/" ++ codes "messages w 1/active/messages s 0/"
    ++ codes "replies a 2/ok/ok/replies b 8/ok/ok/ok/ok/ok/ok/ok/ok/done/")

-- The first task opens a window, and the second makes all drawing calls on it and takes its clip region away: it sets all to
-- pen 0, draws the first two pixels and scrolls them one column to the left, and fills the third from the first, and the
-- fourth from a bitmap.
abbrev pub drawn_by_another : Plan
drawn_by_another =
    with_bitmap (codes "dot") (record { width = 1; height = 1; depth = 1; rows = (1 ∷ []) ∷ [] })
    (with_second_task (SetRast 0 0 ∷ SetA 0 1 ∷ SetB 0 0 ∷ SetMode 0 1 ∷ SetMask 0 255 ∷ At 0 (pos 0) (pos 0) ∷
    WritePixel 0 (pos 0) (pos 0) ∷ ReadPixel 0 (pos 0) (pos 0) ∷ DrawTo 0 (pos 1) (pos 0) ∷ Letters 0 [] ∷
    scroll_left 0 1 0 0 3 0 ∷ blit_row 0 0 2 1 192 ∷ put_row (pos 0) 0 3 1 192 ∷ Clip 0 0 ∷ Unclip 0 ∷ []) []
    (one_task 16 1 1 (codes "w" ∷ []) (open_window 0 Smart 0 0 4 1 false 0 [] ∷ [])))

abbrev pub drawn_by_another_order : List ℕ
drawn_by_another_order = 0 ∷ replicate 15 1

abbrev pub drawn_by_another_report : List ℕ
drawn_by_another_report =
    text (codes "order 16/0 1 1 1 1 1 1 1 1 1 1 1 1 1 1 1/planes 16 1 1/plane 0/b000/visible w 1/0 0 3 0/"
    ++ codes "damage w 0/messages w 0/" ++ codes "replies a 1/ok/replies b 15/ok/ok/ok/ok/ok/ok/ok/pen 1/ok/"
    ++ codes "ok/ok/ok/ok/none/region 0/done/")

-- The second task opens a window, which the first is to close, and then closes it.
abbrev pub opened_by_the_second : Plan
opened_by_the_second =
    with_second_task (open_window 0 Smart 0 0 4 1 false 0 [] ∷ Close 0 ∷ []) [] (one_task 16 1 1 (codes "w" ∷ []) (Close 0 ∷ []))

abbrev pub opened_by_the_second_order : List ℕ
opened_by_the_second_order = 1 ∷ 0 ∷ 1 ∷ []

abbrev pub opened_by_the_second_report : List ℕ
opened_by_the_second_report = text (codes "order 3/1 0 1/planes 16 1 1/plane 0/0000/replies a 1/not-owner/"
    ++ codes "replies b 2/ok/ok/done/")
