use Rattle.std.proofs.Common.{◌∙◌, ap}
use Rattle.std.proofs.lemmas.Result.{on_err_weaker}
use Rattle.lw_layer.specs.View.{LiveView}
use Rattle.lw_layer_calls.proofs.OneLayerLaws.{not_open, lent_step}
use Rattle.lw_layer_calls.proofs.one_layer.on_layer.Goals as goal

pub returns-in_default-layer_mut-clause-step : goal.returns-in_default-layer_mut-clause-step
returns-in_default-layer_mut-clause-step c = not_open c.args.task c.args.cell.now c.args.regs.now c.args.assets.now c.args.call.now c.requires.class c.in_default-layer_mut.ensures.layer

pub returns-clause-step : goal.returns-clause-step
returns-clause-step c =
    lent_step c.on_open.result c.args.task c.args.cell.now c.in-Some.layer.now c.on_open.new.layer c.args.regs.now c.args.assets.now c.args.call.now c.requires.class c.in-Some.ensures.layer.0 c.in-Some.ensures.layer.1 c.on_open.ensures.step

pub returns-clause-unchanged : goal.returns-clause-unchanged
returns-clause-unchanged c =
    on_err_weaker c.on_open.result (λ kept. ap (λ (k : LiveView). record c.args.cell.now { live = k }) (kept ∙ c.in-Some.ensures.layer.1)) c.on_open.ensures.unchanged
