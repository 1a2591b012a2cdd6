use Rattle.std.proofs.Common.{◌≡◌, ℕ, ◌*◌, ◌<◌, length, drop, pos, ◌+ℤ◌}
use Rattle.lw_planes.specs.Row.{row_bit}
use Rattle.lw_buffers.proofs.LookupLaws.{bit_over, kept_over}
use Rattle.lw_buffers.proofs.copying.copy_over.Given as goal

abbrev pub invariant-loop-index : goal.invariant-loop-index
invariant-loop-index l =
    ((i : ℕ) → i < 8 * length l.initial.bits
    → row_bit l.bits i ≡ bit_over (drop l.index l.rects) (drop l.index l.buffers) l.plane (l.x +ℤ pos i) l.y (row_bit l.initial.bits i))
    × ((i : ℕ) → i < 8 * length l.initial.bits
    → row_bit l.kept i ≡ kept_over (drop l.index l.rects) (l.x +ℤ pos i) l.y (row_bit l.initial.kept i))
