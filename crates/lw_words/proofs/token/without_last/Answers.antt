use Rattle.lw_words.proofs.Numbers.{front_of}
use Rattle.lw_words.proofs.token.without_last.Goals as goal

pub returns : goal.returns
returns c = front_of c.args.bytes.now
