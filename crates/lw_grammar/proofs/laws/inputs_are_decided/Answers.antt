use Rattle.lw_grammar.proofs.ScriptOutcome.{input_decided}
use Rattle.lw_grammar.proofs.laws.inputs_are_decided.Goals as goal

pub returns : goal.returns
returns c = input_decided
