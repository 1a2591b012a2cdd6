use Rattle.std.proofs.Common.{sym}
use Rattle.lw_runs.proofs.PartsLaws.{look_step}
use Rattle.lw_runs.proofs.parts.Parts.step.Goals as goal

pub on_layer-requires-clause-numbers : goal.on_layer-requires-clause-numbers
on_layer-requires-clause-numbers g c κs within = λ s k got. (c.requires.desk.1.layers.cells s k got).0

pub on_layers-requires-clause-numbers : goal.on_layers-requires-clause-numbers
on_layers-requires-clause-numbers g c κs within = λ s k got. (c.requires.desk.1.layers.cells s k got).0

pub returns-in-OnInfo-clause-step : goal.returns-in-OnInfo-clause-step
returns-in-OnInfo-clause-step g c =
    let e = g.E.Engine in
    let a = c.args in
    let p = a.self.now in
    look_step e.relations (e.sizes a.engine.now) (e.assets a.engine.now) p.info p.cells.items p.registers.items a.task a.call.now c.look.result (sym (c.in-OnInfo.ensures {u = tt})) c.look.ensures.step
