use Rattle.std.proofs.Common.{length}
use Rattle.lw_words.proofs.verbs.+verb_in.Given as goal

abbrev pub decreases-verb_in : goal.decreases-verb_in
decreases-verb_in l = length l.verbs.now
