use Rattle.std.proofs.Common.{◌≡◌, ◌≤◌, None, replicate}
use Rattle.std.specs.Vec.{vec_len, vec_capacity}
use Rattle.lw_engine.proofs.all_layers.no_looks.Given as goal

abbrev pub invariant-loop-slot : goal.invariant-loop-slot
invariant-loop-slot l = (l.looks.items ≡ replicate l._slot None) × (vec_len l.looks ≡ l._slot) × (l.count ≤ vec_capacity l.looks)
