use Rattle.lw_arrange.proofs.SameLaws.{same_bounds_list}
use Rattle.lw_arrange.proofs.desktop.are_same.Goals as goal

pub returns : goal.returns
returns c = λ so. same_bounds_list c.args.before.now c.args.after.now c.eq.result c.eq.ensures so
