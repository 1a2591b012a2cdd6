use Rattle.std.proofs.Common.{rules}
use Rattle.lw_kernels.proofs.WordLaws.{word_read}
use Rattle.lw_kernels.proofs.words.word_of.Goals as goal

pub returns : goal.returns
returns c = λ j low. word_read c.from_le_bytes.result c.args.bytes j (search rules) (search rules) c.from_le_bytes.ensures low
