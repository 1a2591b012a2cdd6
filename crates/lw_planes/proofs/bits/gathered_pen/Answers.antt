use Rattle.std.proofs.Common.{◌+◌, ◌*◌, ◌<◌, sym, arith}
use Rattle.lw_planes.specs.Row.{row_bit}
use Rattle.lw_planes.proofs.RowLaws.{row_bit_lt}
use Rattle.lw_planes.proofs.BitLaws.{pen_of_none, gathered_more, gathered_fits}
use Rattle.lw_planes.proofs.bits.gathered_pen.Goals as goal

pub loop-plane-init : goal.loop-plane-init
loop-plane-init c = sym (pen_of_none _)

pub overflow_add-pen : goal.overflow_add-pen
overflow_add-pen c =
    let low : c.loop-plane.plane < 8 = omega arith in
    let small = gathered_fits c.loop-plane.plane c.loop-plane.pen c.bit.result (λ k. row_bit c.args.bytes.now (c.args.place + k * c.args.step)) low (λ k. row_bit_lt _ _) c.loop-plane.invariant c.bit.ensures in
    omega (arith, small)

pub loop-plane-preserved : goal.loop-plane-preserved
loop-plane-preserved c =
    let low : c.loop-plane.plane < 8 = omega arith in
    gathered_more c.loop-plane.plane c.loop-plane.pen c.bit.result (λ k. row_bit c.args.bytes.now (c.args.place + k * c.args.step)) low (λ k. row_bit_lt _ _) c.loop-plane.invariant c.bit.ensures
