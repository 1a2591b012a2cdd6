use Rattle.lw_buffers.proofs.LookupLaws.{cleared_bit}
use Rattle.lw_layer.proofs.copying.clear.Goals as goal

pub returns : goal.returns
returns c = record {
  pens = λ i. cleared_bit c.fill.new.self _ i (c.fill.ensures.after (λ b e. e));
  there = λ i. cleared_bit c.fill-2.new.self _ i (c.fill-2.ensures.after (λ b e. e));
}
