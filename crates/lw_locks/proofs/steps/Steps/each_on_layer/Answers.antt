-- Calls made one after another.
use Rattle.std.proofs.Common.{refl, ◌∙◌}
use Rattle.lw_locks.proofs.Running.{going_none, going_more, going_failed}
use Rattle.lw_locks.proofs.steps.Steps.each_on_layer.Goals as goal

pub loop-call-init : goal.loop-call-init
loop-call-init g c = (going_none g.N.Opening.desk c.args.holder.now c.args.calls.now c.args.answers.now.items, c.requires.cell, refl, refl)

pub returns-in_err-answer-clause-stepped : goal.returns-in_err-answer-clause-stepped
returns-in_err-answer-clause-stepped g c =
    let l = c.loop-call in
    going_failed g.N.Opening.desk c.args.holder.now l.holder c.args.calls.now c.args.answers.now.items l.answers.items l.call-index l.invariant.0 c.on_layer.new.holder c.call-item.result c.in_err-answer.field-0.0 c.from_residual.result c.in_err-answer.ensures.stepped c.loop-call-test.true c.from_residual.ensures.0

pub loop-call-preserved : goal.loop-call-preserved
loop-call-preserved g c =
    let l = c.loop-call in
    let e = c.in_ok-answer.ensures in
    (going_more g.N.Opening.desk c.args.holder.now l.holder c.args.calls.now c.args.answers.now.items l.answers.items l.call-index l.invariant.0 c.on_layer.new.holder c.push_reserved.new.self.items c.call-item.result c.in_ok-answer.answer e.stepped c.loop-call-test.true c.call-item.is c.push_reserved.ensures.items, e.cell, e.number ∙ l.invariant.2, c.push_reserved.ensures.capacity ∙ l.invariant.3)
