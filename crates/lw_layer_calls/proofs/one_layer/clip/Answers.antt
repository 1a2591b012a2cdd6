use Rattle.std.proofs.Common.{◌∙◌, sym, ap}
use Rattle.lw_machine.specs.Step.{clip_answer}
use Rattle.lw_layer_calls.proofs.OneLayerLaws.{clip_in_update, clip_step}
use Rattle.lw_layer_calls.proofs.one_layer.clip.Goals as goal

pub returns-then-look-clause-step : goal.returns-then-look-clause-step
returns-then-look-clause-step c =
    λ task slot assets d part registers handed.
    clip_in_update task slot c.args.layer.now c.args.reg (sym c.look.ensures.look.updating ∙ c.if-look.true) d part

pub returns-clause-step : goal.returns-clause-step
returns-clause-step c =
    λ task slot.
    clip_step slot c.args.layer.now c.set_clip.new.self c.args.regs.now c.args.reg c.in_ok-region.region c.answer.result c.requires
    (sym c.look.ensures.look.updating ∙ c.if-look.false) (c.in_ok-region.ensures {u = tt} ∙ c.region.ensures.value)
    (c.answer.ensures ∙ ap clip_answer c.set_clip.ensures.former) c.set_clip.ensures.layer task
