-- Worked cases.
-- Plans that join region registers and clip layers by them, and their reports.
use Rattle.std.specs.Prelude.{ℕ, ◌+◌, ◌*◌, List, [], ◌∷◌, ◌++◌, map, codes}
use Rattle.std.specs.List.{range_with_len}
use Rattle.lw_calls.specs.declared.operation.RectOp.TheVariants.{Or as OrRect, And as AndRect, Xor as XorRect, Clear as ClearRect}
use Rattle.lw_calls.specs.declared.operation.PairOp.TheVariants.{Or as OrPair, And as AndPair, Xor as XorPair}
use Rattle.lw_calls.specs.declared.make.Kind.TheVariants.{Smart}
use Rattle.lw_calls.specs.declared.call.Call.TheVariants.{RegRect, RegPair, RegClear, SetRast, Clip, Unclip}
use Rattle.lw_calls.specs.Plan.{Plan}
use Rattle.lw_cases.specs.Plans.{text, one_task, rect, create, fill}

-- a layer that is clipped by a register, which then changes and is installed once more
abbrev pub clipped : Plan
clipped =
    one_task 16 4 1 (codes "w" ∷ []) (create 0 Smart 0 0 15 3 ∷ RegRect OrRect 0 (rect 0 0 3 1) ∷
    RegRect OrRect 0 (rect 4 0 7 1) ∷ RegRect XorRect 0 (rect 2 1 5 2) ∷ Clip 0 0 ∷ SetRast 0 1 ∷
    RegRect OrRect 1 (rect 0 0 1 3) ∷ RegPair AndPair 1 0 ∷ Clip 0 0 ∷ Unclip 0 ∷ [])

abbrev pub clipped_report : List ℕ
clipped_report =
    text (codes "order 10/0 0 0 0 0 0 0 0 0 0/planes 16 4 1/plane 0/ff00/c300/3c00/0000/visible w 1/0 0 15 3/damage w 0/"
    ++ codes "replies a 10/ok/ok/ok/ok/none/ok/ok/ok/region 4 0 0 7 0 0 1 1 1 6 1 7 1 2 2 5 2/region 1 0 0 1 1/done/")

-- the same with a fill of the whole layer, which the clip region cuts too
abbrev pub clipped_fill : Plan
clipped_fill =
    one_task 16 4 1 (codes "w" ∷ []) (create 0 Smart 0 0 15 3 ∷ RegRect OrRect 0 (rect 0 0 3 1) ∷
    RegRect OrRect 0 (rect 4 0 7 1) ∷ RegRect XorRect 0 (rect 2 1 5 2) ∷ Clip 0 0 ∷ fill 0 0 0 15 3 ∷
    RegRect OrRect 1 (rect 0 0 1 3) ∷ RegPair AndPair 1 0 ∷ Clip 0 0 ∷ Unclip 0 ∷ [])

-- A register from which a column is taken, joined to another one, which receives the result, and then to itself by xor,
-- which empties it. Each of the three is told when it is replaced as the layer's clip region.
abbrev pub joined : Plan
joined =
    one_task 16 4 1 (codes "w" ∷ []) (create 0 Smart 0 0 15 3 ∷ RegRect OrRect 0 (rect 0 0 3 1) ∷
    RegRect XorRect 0 (rect 2 1 5 2) ∷ Clip 0 0 ∷ RegRect ClearRect 0 (rect 0 0 0 3) ∷ RegRect OrRect 1 (rect 4 0 5 1) ∷
    RegPair OrPair 0 1 ∷ Clip 0 1 ∷ Clip 0 0 ∷ RegPair XorPair 0 0 ∷ Clip 0 0 ∷ fill 0 0 0 15 3 ∷ Unclip 0 ∷
    fill 0 0 0 0 0 ∷ [])

abbrev pub joined_report : List ℕ
joined_report =
    text (codes "order 14/0 0 0 0 0 0 0 0 0 0 0 0 0 0/planes 16 4 1/plane 0/8000/0000/0000/0000/visible w 1/"
    ++ codes "0 0 15 3/damage w 0/" ++ codes "replies a 14/ok/ok/ok/none/ok/ok/ok/"
    ++ codes "region 4 0 0 3 0 0 1 1 1 4 1 5 1 2 2 5 2/"
    ++ codes "region 4 1 0 5 0 1 1 1 1 4 1 5 1 2 2 5 2/ok/region 4 1 0 3 0 1 1 1 1 4 1 5 1 2 2 5 2/ok/region 0/ok/done/")

-- What two registers have not in common, which stays as it is when it is joined to itself by or and by and; then met with a
-- rectangle; then emptied.
abbrev pub joined_to_itself : Plan
joined_to_itself =
    one_task 16 1 1 (codes "w" ∷ []) (create 0 Smart 0 0 15 0 ∷ RegRect OrRect 0 (rect 0 0 3 0) ∷
    RegRect OrRect 1 (rect 2 0 5 0) ∷ RegPair XorPair 0 1 ∷ Clip 0 1 ∷ RegPair OrPair 1 1 ∷ RegPair AndPair 1 1 ∷
    RegRect AndRect 1 (rect 1 0 4 3) ∷ Clip 0 1 ∷ RegClear 1 ∷ Clip 0 1 ∷ Unclip 0 ∷ [])

abbrev pub joined_to_itself_report : List ℕ
joined_to_itself_report =
    text (codes "order 12/0 0 0 0 0 0 0 0 0 0 0 0/planes 16 1 1/plane 0/0000/visible w 1/0 0 15 0/damage w 0/"
    ++ codes "replies a 12/ok/ok/ok/ok/none/ok/ok/ok/region 2 0 0 1 0 4 0 5 0/ok/region 2 1 0 1 0 4 0 4 0/region 0/done/")

-- Sixteen stripes, of which seven rows are taken out, are 8 bands of 16 rectangles. One rectangle more is refused, and one that
-- is there already isn't.
abbrev pub filled_up : Plan
filled_up =
    one_task 16 1 1 [] (map (λ i. RegRect OrRect 0 (rect (2 * i) 0 (2 * i) 15)) (range_with_len 0 16)
    ++ map (λ i. RegRect ClearRect 0 (rect 0 (2 * i + 1) 40 (2 * i + 1))) (range_with_len 0 7)
    ++ RegRect OrRect 0 (rect 40 0 40 0) ∷ RegRect OrRect 0 (rect 30 14 30 15) ∷ [])

abbrev pub filled_up_report : List ℕ
filled_up_report =
    text (codes "order 25/0 0 0 0 0 0 0 0 0 0 0 0 0 0 0 0 0 0 0 0 0 0 0 0 0/planes 16 1 1/plane 0/0000/"
    ++ codes "replies a 25/ok/ok/ok/ok/ok/ok/ok/ok/ok/ok/ok/ok/ok/ok/ok/ok/ok/ok/ok/ok/ok/ok/ok/too-many-rects/ok/done/")
