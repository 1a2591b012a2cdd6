use Rattle.lw_grammar.proofs.ScriptOutcome.{outcome_spells, spells_outcome}
use Rattle.lw_grammar.proofs.laws.reading_gives_spelled_inputs.Goals as goal

pub returns : goal.returns
returns c = λ s bytes input. (outcome_spells s bytes input, spells_outcome s bytes input)
