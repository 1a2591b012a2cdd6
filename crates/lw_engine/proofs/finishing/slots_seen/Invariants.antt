use Rattle.std.proofs.Common.{◌≡◌, map}
use Rattle.std.specs.List.{range_with_len}
use Rattle.lw_final_state.specs.Shown.{seen_in}
use Rattle.lw_engine.specs.Desks.{cell_at}
use Rattle.lw_engine.proofs.finishing.slots_seen.Given as goal

abbrev pub invariant-loop-slot : goal.invariant-loop-slot
invariant-loop-slot g l = l.all.items ≡ map (λ s. seen_in l.info (cell_at l.slots s)) (range_with_len 0 l.slot-index)
