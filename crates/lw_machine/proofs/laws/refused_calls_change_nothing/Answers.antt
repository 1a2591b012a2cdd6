use Rattle.lw_machine.proofs.Refused.{refused_unchanged}
use Rattle.lw_machine.proofs.laws.refused_calls_change_nothing.Goals as goal

pub returns : goal.returns
returns c = refused_unchanged
