use Rattle.lw_changes.proofs.Refusals.{refused_leaves}
use Rattle.lw_changes.proofs.laws.refusals_leave_the_desk.Goals as goal

pub returns : goal.returns
returns c = refused_leaves
