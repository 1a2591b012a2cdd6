use Rattle.lw_planes.specs.Row.{bit_of}
use Rattle.lw_planes.proofs.BitLaws.{row_bit_set}
use Rattle.lw_planes.proofs.bits.set_bit.Goals as goal

pub returns : goal.returns
returns c = λ i. row_bit_set c.args.bytes.now c.args.place c.with_bit.result (bit_of c.args.bit) i c.requires c.with_bit.ensures
