use Rattle.std.proofs.Common.{◌≡◌, ℕ, ◌<◌, ◌==◌, false, get_or}
use Rattle.lw_engine.specs.Slots.{nothing_ready}
use Rattle.lw_engine.proofs.all_layers.give_to.Given as goal

abbrev pub invariant-loop-place : goal.invariant-loop-place
invariant-loop-place g l =
    (l.ready ≡ l.initial.ready) × ((k : ℕ) → k < l.place → ((get_or l.initial.ready k nothing_ready).slot == l.slot) ≡ false)
