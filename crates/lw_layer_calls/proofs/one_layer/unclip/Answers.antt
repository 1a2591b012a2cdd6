use Rattle.std.proofs.Common.{◌∙◌, sym, ap}
use Rattle.lw_machine.specs.Step.{clip_answer}
use Rattle.lw_layer_calls.proofs.OneLayerLaws.{unclip_in_update, unclip_step}
use Rattle.lw_layer_calls.proofs.one_layer.unclip.Goals as goal

pub returns-then-look : goal.returns-then-look
returns-then-look c = λ slot. unclip_in_update slot c.args.layer.now (sym c.look.ensures.look.updating ∙ c.if-look.true)

pub returns : goal.returns
returns c =
    λ slot.
    unclip_step slot c.args.layer.now c.set_clip.new.self c.answer.result (sym c.look.ensures.look.updating ∙ c.if-look.false)
    (c.answer.ensures ∙ ap clip_answer c.set_clip.ensures.former) c.set_clip.ensures.layer
