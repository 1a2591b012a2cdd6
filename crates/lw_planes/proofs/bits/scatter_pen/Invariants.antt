use Rattle.std.proofs.Common.{◌≡◌, ◌≢◌, ℕ, ◌+◌, ◌*◌, ◌<◌}
use Rattle.std.specs.Int.{bit_at}
use Rattle.lw_planes.specs.Row.{row_bit}
use Rattle.lw_planes.proofs.bits.scatter_pen.Given as goal

abbrev pub invariant-loop-plane : goal.invariant-loop-plane
invariant-loop-plane l =
    ((k : ℕ) → k < l.plane → row_bit l.bytes (l.place + k * l.step) ≡ bit_at l.pen k) ×
    ((i : ℕ) → ((k : ℕ) → k < l.plane → i ≢ l.place + k * l.step) → row_bit l.bytes i ≡ row_bit l.initial.bytes i)
