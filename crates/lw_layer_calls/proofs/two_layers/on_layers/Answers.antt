use Rattle.lw_layer_calls.proofs.BlittingLaws.{source_not_open, target_not_open, between_step}
use Rattle.lw_layer_calls.proofs.two_layers.on_layers.Goals as goal

pub returns-in_default-layer-clause-step : goal.returns-in_default-layer-clause-step
returns-in_default-layer-clause-step c = source_not_open c.args.source.now c.args.to.now c.args.call.now c.requires.class c.in_default-layer.ensures

pub returns-in_default-layer_mut-clause-step : goal.returns-in_default-layer_mut-clause-step
returns-in_default-layer_mut-clause-step c = target_not_open c.args.source.now c.args.to.now c.args.call.now c.requires.class c.in_default-layer_mut.ensures.layer

pub returns-clause-step : goal.returns-clause-step
returns-clause-step c =
    between_step c.args.source.now c.args.to.now c.in-Some.from.now c.in-Some-layer_mut.layer.now c.between.new.to c.args.call.now c.in-Blit.source c.in-Blit.slot c.in-Blit.area c.requires.class c.in-Blit.is
    c.in-Some.ensures.0 c.in-Some-layer_mut.ensures.layer.0 c.in-Some.ensures.1 c.in-Some-layer_mut.ensures.layer.1 c.between.ensures
