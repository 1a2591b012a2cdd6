use Rattle.std.proofs.Common.{◌≡◌, ℕ, ◌*◌, ◌<◌, length, drop, pos, ◌+ℤ◌}
use Rattle.lw_planes.specs.Row.{row_bit}
use Rattle.lw_strips.specs.Strips.{rects_of, planes_of}
use Rattle.lw_buffers.proofs.LookupLaws.{bit_over, kept_over}
use Rattle.lw_buffers.proofs.copying.copy_strips.Given as goal

abbrev pub invariant-loop-index : goal.invariant-loop-index
invariant-loop-index l =
    ((i : ℕ) → i < 8 * length l.initial.bits
    → row_bit l.bits i ≡ bit_over (rects_of (drop l.index l.strips)) (planes_of (drop l.index l.strips)) l.plane (l.x +ℤ pos i) l.y (row_bit l.initial.bits i))
    × ((i : ℕ) → i < 8 * length l.initial.bits
    → row_bit l.kept i ≡ kept_over (rects_of (drop l.index l.strips)) (l.x +ℤ pos i) l.y (row_bit l.initial.kept i))
