-- Worked cases.
-- Plans that arrange layers, and their reports.
use Rattle.std.specs.Prelude.{ℕ, List, [], ◌∷◌, ◌++◌, pos, neg_ℤ, codes}
use Rattle.lw_calls.specs.declared.operation.RectOp.TheVariants.{Or as OrRect}
use Rattle.lw_calls.specs.declared.make.Kind.TheVariants.{Simple, Smart}
use Rattle.lw_calls.specs.declared.call.Call.TheVariants.{RegRect, ToFront, MoveBy, SizeBy, Which, At, DrawTo, Clip}
use Rattle.lw_calls.specs.Plan.{Plan}
use Rattle.lw_cases.specs.Plans.{text, one_task, rect, create, fill}

-- a simple layer of which another covers three columns, moved one column to the left
abbrev pub simple_move : Plan
simple_move =
    one_task 16 2 1 (codes "s" ∷ codes "c" ∷ []) (create 0 Simple 1 0 6 1 ∷ create 1 Smart 4 0 9 1 ∷ fill 0 0 0 5 1 ∷
    MoveBy 0 (neg_ℤ (pos 1)) (pos 0) ∷ [])

abbrev pub simple_move_report : List ℕ
simple_move_report =
    text (codes "order 4/0 0 0 0/planes 16 2 1/plane 0/e000/e000/visible s 1/0 0 3 1/visible c 1/4 0 9 1/"
    ++ codes "damage s 1/3 0 3 1/damage c 0/replies a 4/ok/ok/ok/ok/done/")

-- looks at a place of two layers, of which now one and now the other is in front, and at a place without a layer
abbrev pub which_in_front : Plan
which_in_front =
    one_task 16 1 1 (codes "a" ∷ codes "b" ∷ []) (create 0 Smart 0 0 3 0 ∷ create 1 Smart 0 0 3 0 ∷ fill 0 1 0 2 0 ∷
    Which (pos 1) (pos 0) ∷ ToFront 0 ∷ Which (pos 1) (pos 0) ∷ Which (pos 4) (pos 0) ∷ [])

abbrev pub which_in_front_report : List ℕ
which_in_front_report =
    text (codes "order 7/0 0 0 0 0 0 0/planes 16 1 1/plane 0/6000/visible a 1/0 0 3 0/visible b 0/damage a 0/damage b 0/"
    ++ codes "replies a 7/ok/ok/ok/layer b/ok/layer a/none/done/")

-- A layer of which the last two columns are its clip region, and the cursor stands in its last one. It is made a column wider
-- and put in front, and a line is drawn back from the cursor to its second column.
abbrev pub drawn_after_arrangements : Plan
drawn_after_arrangements =
    one_task 16 2 1 (codes "w" ∷ []) (create 0 Smart 0 0 3 1 ∷ RegRect OrRect 0 (rect 2 0 3 1) ∷ Clip 0 0 ∷
    At 0 (pos 3) (pos 0) ∷ SizeBy 0 (pos 1) (pos 0) ∷ ToFront 0 ∷ DrawTo 0 (pos 1) (pos 0) ∷ [])

abbrev pub drawn_after_arrangements_report : List ℕ
drawn_after_arrangements_report =
    text (codes "order 7/0 0 0 0 0 0 0/planes 16 2 1/plane 0/3000/0000/visible w 1/0 0 4 1/damage w 1/4 0 4 1/"
    ++ codes "replies a 7/ok/ok/none/ok/ok/ok/ok/done/")
