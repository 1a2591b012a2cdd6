-- One call under all locks.
use Rattle.lw_calls.specs.declared.group.Hold.TheVariants.{All as AllSlots}
use Rattle.lw_locks.proofs.Running.{once_called, once_not_called}
use Rattle.lw_locks.proofs.desk.Desk.once_under_all.Goals as goal

pub returns-in_err-under_all : goal.returns-in_err-under_all
returns-in_err-under_all g c =
    once_not_called g.N.Opening.desk AllSlots c.args.pass.now c.under_all.new.pass c.args.call.now c.from_ref-one.result.now c.in_ok-answers.answers.items c.under_all.new.answers.items c.from_ref-one.ensures.value
    c.in_err-under_all.field-0.0 c.from_residual-in_err-under_all.result c.from_residual-in_err-under_all.ensures.0 c.in_err-under_all.ensures

pub returns : goal.returns
returns g c =
    once_called g.N.Opening.desk AllSlots c.args.pass.now c.under_all.new.pass c.args.call.now c.from_ref-one.result.now c.in_ok-answers.answers.items c.under_all.new.answers.items c.from_ref-one.ensures.value
    tt c.pop.new.self.items c.in-Some.answer c.in-Some.ensures.items c.in_ok-under_all.ensures
