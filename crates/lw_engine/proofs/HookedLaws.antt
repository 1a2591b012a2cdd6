-- What is seen of a slot's layer doesn't depend on its hook.
use Rattle.std.proofs.Common.{◌≡◌, Option, refl}
use Rattle.lw_machine.specs.Hook.{Hook}
use Rattle.lw_machine.specs.Finals.{damage_set}
use Rattle.lw_layer.specs.View.{State, CellView, hooked}
use Rattle.lw_layer.specs.View as view
use Rattle.lw_stack.specs.Stack.{Stack}
use Rattle.lw_region.specs.Bands.{bands}
use Rattle.lw_final_state.specs.Shown.{top_set, seen_as, seen_in}

pub seen_hooked : (v : Stack) (h : Option Hook) (c : CellView) → seen_in v c ≡ seen_in v (hooked h c)
unfolding damage_set
seen_hooked v h c = by_state c.state
  where
    by_state : (s : State) → seen_as s (bands (top_set v c.number)) c.live ≡ seen_as s (bands (top_set v c.number)) (hooked h c).live
    by_state view.Unopened = refl
    by_state view.Live = refl
    by_state view.Closed = refl
