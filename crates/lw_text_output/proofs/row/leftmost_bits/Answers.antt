use Rattle.std.proofs.Common.{arith}
use Rattle.lw_text_output.proofs.Padded.{leftmost_bits_whole, leftmost_bits_masked}
use Rattle.lw_text_output.proofs.row.leftmost_bits.Goals as goal

pub returns-then-kept-lt8 : goal.returns-then-kept-lt8
returns-then-kept-lt8 c = leftmost_bits_masked c.args.kept c.args.byte (omega arith) c.if-kept-lt8.true

pub returns-else-kept-lt8 : goal.returns-else-kept-lt8
returns-else-kept-lt8 c = leftmost_bits_whole c.args.kept c.args.byte (omega arith) c.if-kept-lt8.false
