use Rattle.std.proofs.Common.{◌∙◌, refl, ap}
use Rattle.lw_calls.specs.declared.call.Call.TheVariants.{TakeMessage}
use Rattle.lw_calls.specs.declared.reply.Reply.TheVariants.{NotWindow, NotOwner}
use Rattle.lw_layer_calls.specs.Windows.{got}
use Rattle.lw_layer_calls.proofs.WindowLaws.{by_owner, window_refused, is_own, is_anothers, message_step}
use Rattle.lw_layer_calls.proofs.windows.take_message.Goals as goal

pub returns-in_default : goal.returns-in_default
returns-in_default c =
    λ slot.
    window_refused c.args.task slot c.args.layer.now c.look-look.result (TakeMessage slot) NotWindow refl (λ d. refl) c.look-look.ensures.look
    (ap (by_owner c.args.task) c.in_default.is)

pub returns-then-owner-task : goal.returns-then-owner-task
returns-then-owner-task c =
    λ slot.
    window_refused c.args.task slot c.args.layer.now c.look-look.result (TakeMessage slot) NotOwner refl (λ d. refl) c.look-look.ensures.look
    (is_anothers c.args.task c.in-Some.owner _ c.in-Some.is c.if-owner-task.true)

pub returns : goal.returns
returns c =
    λ slot.
    message_step c.args.task slot c.args.layer.now c.take_message.new.self c.look-look.result c.take_message.new.self.room c.in-Some.owner c.answer.result c.look-look.ensures.look c.in-Some.is
    (is_own c.args.task c.in-Some.owner _ c.in-Some.is c.if-owner-task.false)
    (c.answer.ensures ∙ ap got c.take_message.ensures.oldest) c.take_message.ensures.layer
