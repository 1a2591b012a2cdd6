use Rattle.lw_layer_calls.proofs.RegisterSteps.{pair_step, steps_of}
use Rattle.lw_layer_calls.proofs.registers.join_pair.Goals as goal

pub returns-clause-step : goal.returns-clause-step
returns-clause-step c =
    let a = c.args in
    let f = c.join_pair.ensures in
    steps_of a.regs.now c.join_pair.new.self _ _ c.join_pair.result _ f.reply f.regions (pair_step a.regs.now a.op a.source a.into f.before c.requires.source c.requires.into)
