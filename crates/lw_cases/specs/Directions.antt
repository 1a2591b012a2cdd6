-- Worked cases.
-- Plans that draw lines in all directions, and their reports.
use Rattle.std.specs.Prelude.{ℕ, List, [], ◌∷◌, ◌++◌, pos, neg_ℤ, codes}
use Rattle.lw_calls.specs.declared.make.Kind.TheVariants.{Smart}
use Rattle.lw_calls.specs.declared.call.Call.{Call}
use Rattle.lw_calls.specs.declared.call.Call.TheVariants.{At, DrawTo}
use Rattle.lw_calls.specs.Plan.{Plan}
use Rattle.lw_cases.specs.Plans.{text, one_task, create}

-- a line from one pixel to another, on the first layer
abbrev pub line : ℕ → ℕ → ℕ → ℕ → List Call → List Call
line x0 y0 x1 y1 calls = At 0 (pos x0) (pos y0) ∷ DrawTo 0 (pos x1) (pos y1) ∷ calls

-- Lines from one pixel by 4 columns and 2 rows to each of the four corners. The first step and the third lie in the middle
-- between two rows, and take the one that is farther from the start.
abbrev pub flat_lines : Plan
flat_lines =
    one_task 16 5 1 (codes "w" ∷ []) (create 0 Smart 0 0 8 4 ∷ line 4 2 8 4 (line 4 2 8 0 (line 4 2 0 4 (line 4 2 0 0 []))))

abbrev pub flat_lines_report : List ℕ
flat_lines_report =
    text (codes "order 9/0 0 0 0 0 0 0 0 0/planes 16 5 1/plane 0/c180/3600/0800/3600/c180/visible w 1/0 0 8 4/damage w 0/"
    ++ codes "replies a 9/ok/ok/ok/ok/ok/ok/ok/ok/ok/done/")

-- the same by 2 columns and 4 rows
abbrev pub steep_lines : Plan
steep_lines =
    one_task 16 9 1 (codes "w" ∷ []) (create 0 Smart 0 0 4 8 ∷ line 2 4 4 8 (line 2 4 0 8 (line 2 4 4 0 (line 2 4 0 0 []))))

abbrev pub steep_lines_report : List ℕ
steep_lines_report =
    text (codes "order 9/0 0 0 0 0 0 0 0 0/planes 16 9 1/plane 0/8800/8800/5000/5000/2000/5000/5000/8800/8800/"
    ++ codes "visible w 1/0 0 4 8/damage w 0/" ++ codes "replies a 9/ok/ok/ok/ok/ok/ok/ok/ok/ok/done/")

-- A line off the layer, one from its end into the layer, one of one pixel, and one from there by 2 columns and 7 rows, of
-- which three pixels lie on the layer.
abbrev pub lines_from_outside : Plan
lines_from_outside =
    one_task 16 3 1 (codes "w" ∷ []) (create 0 Smart 0 0 7 2 ∷ At 0 (neg_ℤ (pos 8)) (neg_ℤ (pos 8)) ∷
    DrawTo 0 (neg_ℤ (pos 1)) (neg_ℤ (pos 1)) ∷ DrawTo 0 (pos 2) (pos 2) ∷ line 5 0 5 0 (DrawTo 0 (pos 7) (pos 7) ∷ []))

abbrev pub lines_from_outside_report : List ℕ
lines_from_outside_report =
    text (codes "order 7/0 0 0 0 0 0 0/planes 16 3 1/plane 0/8400/4400/2200/visible w 1/0 0 7 2/damage w 0/"
    ++ codes "replies a 7/ok/ok/ok/ok/ok/ok/ok/done/")
