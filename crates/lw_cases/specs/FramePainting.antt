-- Worked cases.
-- Plans of framed windows, parts of which are filled, and their reports.
use Rattle.std.specs.Prelude.{ℕ, true, false, List, [], ◌∷◌, ◌++◌, replicate, pos, neg_ℤ, Some, codes}
use Rattle.lw_calls.specs.declared.make.Kind.TheVariants.{Simple, Smart}
use Rattle.lw_calls.specs.declared.call.Call.TheVariants.{OpenWindow, Close, SizeBy, Activate, SetTitle}
use Rattle.lw_calls.specs.Plan.{Plan}
use Rattle.lw_cases.specs.Plans.{text, one_task, with_glyph, with_hooks, six_hooks, box, create, open_window, fill}

-- A window with a hook of pen 1 and two inner pixels side by side. It gets one row more, where two pixels of its old frame
-- become inner ones, and then one column less, where two of the four inner pixels become frame.
abbrev pub frame_resized : Plan
frame_resized =
    with_hooks six_hooks
    (one_task 16 15 2 (codes "w" ∷ []) (OpenWindow 0 (record (box Smart 0 0 10 14) { hook = Some 0 }) true false 0 [] ∷
    SizeBy 0 (pos 0) (pos 1) ∷ SizeBy 0 (neg_ℤ (pos 1)) (pos 0) ∷ []))

abbrev pub frame_resized_report : List ℕ
frame_resized_report =
    text (codes "order 3/0 0 0/planes 16 15 2/" ++ codes "plane 0/0000/0000/0000/0000/0000/0000/0000/0000/0000/"
    ++ codes "0000/0000/0800/0800/0000/0000/" ++ codes "plane 1/ff80/ff80/ff80/ff80/ff80/ff80/ff80/ff80/"
    ++ codes "ff80/ff80/ff80/f780/f780/ff80/ff80/" ++ codes "visible w 1/0 0 8 14/damage w 1/4 12 4 12/"
    ++ codes "messages w 0/replies a 3/ok/ok/ok/done/")

-- A simple window with a hook of the pens 1, 2 and 3. A pixel of its frame is covered and uncovered, two other ones are
-- painted over, and then its one inner pixel is covered and uncovered.
abbrev pub frame_and_inner_uncovered : Plan
frame_and_inner_uncovered =
    with_hooks six_hooks
    (one_task 16 14 2 (codes "w" ∷ codes "c" ∷ codes "d" ∷
    []) (OpenWindow 0 (record (box Simple 0 0 9 14) { hook = Some 4 }) true false 0 [] ∷ create 1 Smart 0 0 0 0 ∷
    Close 1 ∷ fill 0 1 0 2 0 ∷ create 2 Smart 4 11 4 11 ∷ Close 2 ∷ []))

abbrev pub frame_and_inner_uncovered_report : List ℕ
frame_and_inner_uncovered_report =
    text (codes "order 6/0 0 0 0 0 0/planes 16 14 2/" ++ codes "plane 0/6000/0000/0000/0000/0000/0000/0000/0000/"
    ++ codes "0000/0000/0000/0800/0000/0000/" ++ codes "plane 1/9f80/ff80/ff80/ff80/ff80/ff80/ff80/ff80/"
    ++ codes "ff80/ff80/ff80/ff80/ff80/ff80/" ++ codes "visible w 1/0 0 8 13/damage w 1/4 11 4 11/"
    ++ codes "messages w 0/replies a 6/ok/ok/ok/ok/ok/ok/done/")

-- Two windows, of which the first and then the second is made active. Then the second gets a title of two letters that are all
-- foreground, of which the second one shows one column.
abbrev pub activity_passed_on : Plan
activity_passed_on =
    with_glyph 66 (replicate 8 255)
    (one_task 26 14 1 (codes "u" ∷ codes "v" ∷ []) (open_window 0 Smart 0 0 9 14 true 0 [] ∷
    open_window 1 Smart 9 0 17 14 true 0 [] ∷ Activate 0 ∷ Activate 1 ∷ SetTitle 1 (codes "BB") ∷ []))

abbrev pub activity_passed_on_report : List ℕ
activity_passed_on_report =
    text (codes "order 5/0 0 0 0 0/planes 26 14 1/" ++ codes "plane 0/007fffc0/007fffc0/007803c0/007803c0/"
    ++ codes "007803c0/007803c0/007803c0/007803c0/007803c0/007803c0/007fffc0/007803c0/007fffc0/007fffc0/"
    ++ codes "visible u 1/0 0 8 13/visible v 1/9 0 25 13/damage u 0/damage v 0/messages u 0/messages v 0/"
    ++ codes "replies a 5/ok/ok/ok/ok/ok/done/")
