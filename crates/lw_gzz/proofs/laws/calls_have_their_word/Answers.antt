use Rattle.lw_gzz.proofs.Spelling.{exact}
use Rattle.lw_gzz.proofs.laws.calls_have_their_word.Goals as goal

pub returns : goal.returns
returns c = exact
