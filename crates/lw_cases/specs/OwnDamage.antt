-- Worked cases.
-- A plan in which much is done beside a layer's damage that doesn't change it.
use Rattle.std.specs.Prelude.{ℕ, true, false, List, [], ◌∷◌, codes}
use Rattle.lw_calls.specs.declared.operation.RectOp.TheVariants.{Or as OrRect}
use Rattle.lw_calls.specs.declared.make.Kind.TheVariants.{Simple, Smart}
use Rattle.lw_calls.specs.declared.call.Call.TheVariants.{RegRect, Close, Clip, BeginRefresh, EndRefresh}
use Rattle.lw_calls.specs.declared.group.Hold.TheVariants.{Slot}
use Rattle.lw_calls.specs.Plan.{Plan}
use Rattle.lw_cases.specs.Plans.{one_task, grouped, with_second_task, rect, create, open_window, scroll_left}

-- The last two columns of a simple window and the first two of another simple layer are covered and uncovered. The other
-- layer is scrolled and refreshed in full. The second task is to refresh the window, which it may not. Then the window
-- is clipped to its last two columns and scrolled one column to the left.
abbrev pub damage_beside : Plan
damage_beside =
    with_second_task (BeginRefresh 0 ∷ EndRefresh 0 true ∷ []) (record { first = 0; last = 1; hold = Slot 0 } ∷ [])
    (grouped (one_task 16 1 1 (codes "w" ∷ codes "x" ∷ codes "c" ∷ []) (open_window 0 Simple 0 0 4 1 false 0 [] ∷
    create 1 Simple 4 0 7 0 ∷ create 2 Smart 2 0 5 0 ∷ Close 2 ∷ scroll_left 1 1 0 0 3 0 ∷ BeginRefresh 1 ∷
    EndRefresh 1 true ∷ RegRect OrRect 0 (rect 2 0 3 0) ∷ Clip 0 0 ∷ scroll_left 0 1 0 0 3 0 ∷ [])) (record {
      first = 5;
      last = 6;
      hold = Slot 1;
    }))

-- the second task's calls come before the clip region
abbrev pub damage_beside_order : List ℕ
damage_beside_order = 0 ∷ 0 ∷ 0 ∷ 0 ∷ 0 ∷ 0 ∷ 0 ∷ 1 ∷ 1 ∷ 0 ∷ 0 ∷ 0 ∷ []
