use Rattle.lw_layer_calls.proofs.RegisterSteps.{rect_step, steps_of}
use Rattle.lw_layer_calls.proofs.registers.join_rect.Goals as goal

pub returns-clause-step : goal.returns-clause-step
returns-clause-step c =
    let a = c.args in
    let f = c.join_rect.ensures in
    steps_of a.regs.now c.join_rect.new.self _ _ c.join_rect.result _ f.reply f.regions (rect_step a.regs.now a.op a.reg a.rect.now f.before c.requires)
