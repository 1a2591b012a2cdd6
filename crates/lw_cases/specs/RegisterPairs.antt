-- Worked cases.
-- A plan that joins full registers, and its report.
use Rattle.std.specs.Prelude.{ℕ, List, [], ◌∷◌, ◌++◌, codes}
use Rattle.lw_calls.specs.declared.operation.RectOp.TheVariants.{Or as OrRect, Clear as ClearRect}
use Rattle.lw_calls.specs.declared.operation.PairOp.TheVariants.{Or as OrPair, And as AndPair, Xor as XorPair}
use Rattle.lw_calls.specs.declared.call.Call.TheVariants.{RegRect, RegPair}
use Rattle.lw_calls.specs.Plan.{Plan}
use Rattle.lw_cases.specs.Plans.{text, further, rect}
use Rattle.lw_cases.specs.Registers.{filled_up}

-- To the register of 128 rectangles one of one pixel is joined, by or and by xor, which would make 129. Then it is met with one
-- that has all but the first pixel of its last row, which would make two bands of its last one.
abbrev pub joined_full : Plan
joined_full =
    further filled_up (RegRect OrRect 1 (rect 40 0 40 0) ∷ RegPair OrPair 1 0 ∷ RegPair XorPair 1 0 ∷
    RegRect OrRect 2 (rect 0 0 40 15) ∷ RegRect ClearRect 2 (rect 0 15 0 15) ∷ RegPair AndPair 2 0 ∷ [])

abbrev pub joined_full_report : List ℕ
joined_full_report =
    text (codes "order 31/0 0 0 0 0 0 0 0 0 0 0 0 0 0 0 0 0 0 0 0 0 0 0 0 0 0 0 0 0 0 0/planes 16 1 1/plane 0/0000/"
    ++ codes "replies a 31/ok/ok/ok/ok/ok/ok/ok/ok/ok/ok/ok/ok/ok/ok/ok/ok/ok/ok/ok/ok/ok/ok/ok/too-many-rects/ok/"
    ++ codes "ok/too-many-rects/too-many-rects/ok/ok/too-many-rects/done/")
