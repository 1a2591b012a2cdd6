use Rattle.lw_kernels.proofs.SpanLaws.{masked_bit}
use Rattle.lw_kernels.proofs.spans.put_masked.Goals as goal

pub returns : goal.returns
returns c = λ p. masked_bit c.args.bytes.now c.args.index c.args.mask c.args.value c.picked.result p c.requires c.picked.ensures
