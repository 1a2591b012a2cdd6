use Rattle.std.proofs.Common.{◌≡◌, ◌+◌, ◌*◌}
use Rattle.lw_planes.specs.Pen.{pen_of}
use Rattle.lw_planes.specs.Row.{row_bit}
use Rattle.lw_planes.proofs.bits.gathered_pen.Given as goal

abbrev pub invariant-loop-plane : goal.invariant-loop-plane
invariant-loop-plane l = l.pen ≡ pen_of l.plane (λ k. row_bit l.bytes (l.place + k * l.step))
