use Rattle.lw_planes.specs.Row.{row_bit}
use Rattle.lw_planes.proofs.BitLaws.{bit_tested, scattered_more, scattered_others}
use Rattle.lw_planes.proofs.bits.scatter_pen.Goals as goal

pub loop-plane-preserved : goal.loop-plane-preserved
loop-plane-preserved c = (
  scattered_more c.loop-plane.plane c.args.place c.args.step c.args.pen _ (λ i. row_bit c.loop-plane.bytes i) (λ i. row_bit c.set_bit.new.bytes i) c.requires.apart (bit_tested c.args.pen c.loop-plane.plane) c.loop-plane.invariant.0 c.set_bit.ensures,
  scattered_others c.loop-plane.plane c.args.place c.args.step _ (λ i. row_bit c.args.bytes.now i) (λ i. row_bit c.loop-plane.bytes i) (λ i. row_bit c.set_bit.new.bytes i) c.loop-plane.invariant.1 c.set_bit.ensures,
)
