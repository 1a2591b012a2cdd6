use Rattle.lw_grammar.proofs.ScriptRunnable.{spelled_runnable}
use Rattle.lw_grammar.proofs.laws.spelled_inputs_are_runnable.Goals as goal

pub returns : goal.returns
returns c = spelled_runnable
