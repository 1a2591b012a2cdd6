use Rattle.lw_grammar.proofs.ScriptOutcome.{outcome_refused, refused_outcome}
use Rattle.lw_grammar.proofs.laws.reading_fails_at_first_bad_lines.Goals as goal

pub returns : goal.returns
returns c = λ s bytes n reason. (refused_outcome s bytes n reason, outcome_refused s bytes n reason)
