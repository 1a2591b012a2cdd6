-- Worked cases.
-- Plans that draw on new layers, and their reports.
use Rattle.std.specs.Prelude.{ℕ, true, false, List, [], ◌∷◌, ◌++◌, pos, Some, codes}
use Rattle.lw_calls.specs.declared.make.Kind.TheVariants.{Smart}
use Rattle.lw_calls.specs.declared.call.Call.TheVariants.{OpenWindow, SetA, At, ReadPixel, DrawTo, Letters, SetRast}
use Rattle.lw_machine.specs.Hook.{Hook}
use Rattle.lw_calls.specs.Plan.{Plan}
use Rattle.lw_cases.specs.Plans.{text, one_task, with_hooks, with_bitmap, solid, box, create, fill, put_row}
use Rattle.lw_cases.specs.Copying.{deep_row}
use Rattle.lw_cases.specs.Modes.{with_low_letter}

-- On a new layer of eight planes all pixels are set to pen 255, a line goes from the cursor to column 2, and a letter is drawn
-- from column 8 on, by the pens, the mode and the mask that are there.
abbrev pub new_layer_drawn : Plan
new_layer_drawn =
    with_low_letter (one_task 16 2 8 (codes "w" ∷ []) (create 0 Smart 0 0 15 1 ∷ SetRast 0 255 ∷ DrawTo 0 (pos 2) (pos 0) ∷
    At 0 (pos 8) (pos 0) ∷ Letters 0 (codes "A") ∷ []))

abbrev pub new_layer_drawn_report : List ℕ
new_layer_drawn_report =
    text (codes "order 5/0 0 0 0 0/planes 16 2 8/plane 0/ffcc/ff0f/plane 1/1f00/ff00/plane 2/1f00/ff00/plane 3/"
    ++ codes "1f00/ff00/plane 4/1f00/ff00/" ++ codes "plane 5/1f00/ff00/plane 6/1f00/ff00/plane 7/1f00/ff00/"
    ++ codes "visible w 1/0 0 15 1/damage w 0/" ++ codes "replies a 5/ok/ok/ok/ok/ok/done/")

-- a hook of pen 3
abbrev pub third_pen : List Hook
third_pen = solid 3 ∷ []

-- Pens that are read on a screen of one plane: what a hook of pen 3 filled of a new window, a pixel of its frame, whose pen is 2,
-- a fill with pen 6, all pixels set to pen 7, and pen 4 of a bitmap.
abbrev pub pens_read : Plan
pens_read =
    with_bitmap (codes "deep") deep_row
    (with_hooks third_pen
    (one_task 16 14 1 (codes "w" ∷ []) (OpenWindow 0 (record (box Smart 0 0 9 14) { hook = Some 0 }) true false 0 [] ∷
    ReadPixel 0 (pos 4) (pos 11) ∷ ReadPixel 0 (pos 0) (pos 0) ∷ SetA 0 6 ∷ fill 0 4 11 4 11 ∷
    ReadPixel 0 (pos 4) (pos 11) ∷ SetRast 0 7 ∷ ReadPixel 0 (pos 4) (pos 11) ∷ put_row (pos 0) 0 0 1 192 ∷
    ReadPixel 0 (pos 0) (pos 0) ∷ [])))

abbrev pub pens_read_report : List ℕ
pens_read_report =
    text (codes "order 10/0 0 0 0 0 0 0 0 0 0/planes 16 14 1/plane 0/7f80/ff80/ff80/ff80/ff80/ff80/ff80/ff80/"
    ++ codes "ff80/ff80/ff80/ff80/ff80/ff80/" ++ codes "visible w 1/0 0 8 13/damage w 0/messages w 0/"
    ++ codes "replies a 10/ok/pen 1/pen 0/ok/ok/pen 0/ok/pen 1/ok/pen 0/done/")
