use Rattle.std.proofs.Common.{take, ◌∙◌, refl, ap}
use Rattle.lw_calls.specs.declared.call.Call.TheVariants.{SetTitle}
use Rattle.lw_calls.specs.declared.reply.Reply.TheVariants.{NotWindow, NotOwner}
use Rattle.lw_layer_calls.proofs.WindowLaws.{by_owner, window_refused, is_own, is_anothers, owned_window, painted_window, few, title_made, title_step}
use Rattle.lw_layer_calls.proofs.windows.title.Goals as goal

pub returns-in_default-clause-step : goal.returns-in_default-clause-step
returns-in_default-clause-step c =
    λ slot regs d part registers handed.
    window_refused c.args.task slot c.args.layer.now c.look-look.result (SetTitle slot c.args.text.now) NotWindow refl (λ e. refl) c.look-look.ensures.look
    (ap (by_owner c.args.task) c.in_default.is) d part

pub returns-then-owner-task-clause-step : goal.returns-then-owner-task-clause-step
returns-then-owner-task-clause-step c =
    λ slot regs d part registers handed.
    window_refused c.args.task slot c.args.layer.now c.look-look.result (SetTitle slot c.args.text.now) NotOwner refl (λ e. refl) c.look-look.ensures.look
    (is_anothers c.args.task c.in-Some.owner _ c.in-Some.is c.if-owner-task.true) d part

pub repaint-requires-clause-few : goal.repaint-requires-clause-few
repaint-requires-clause-few c = few c.args.text.now c.in_ok-shown.shown (c.in_ok-shown.ensures {u = tt} ∙ (c.beginning.ensures ∙ ap (take 256) c.bytes-2.ensures))

pub set_title-requires : goal.set_title-requires
set_title-requires c =
    painted_window c.args.assets.now.glyphs c.args.layer.now c.repaint.new.layer c.in_ok-shown.shown c.look-look.result.framed c.look-look.result.active c.repaint.ensures
    (owned_window c.args.layer.now c.look-look.result c.in-Some.owner c.look-look.ensures.look c.in-Some.is)

pub returns-clause-step : goal.returns-clause-step
returns-clause-step c =
    let live = c.args.layer.now in
    let look = c.look-look.result in
    title_step c.args.task live c.set_title.new.self look c.args.assets.now c.args.text.now c.look-look.ensures.look
    (is_own c.args.task c.in-Some.owner _ c.in-Some.is c.if-owner-task.false)
    (title_made c.args.assets.now.glyphs live c.repaint.new.layer c.set_title.new.self look c.args.text.now c.in_ok-copy.copy c.in_ok-shown.shown c.look-look.ensures.look
    (owned_window live look c.in-Some.owner c.look-look.ensures.look c.in-Some.is) c.look-look.ensures.sound.bits.sizes.columns.1
    (c.in_ok-copy.ensures {u = tt} ∙ c.bytes.ensures) (c.in_ok-shown.ensures {u = tt} ∙ (c.beginning.ensures ∙ ap (take 256) c.bytes-2.ensures)) c.repaint.ensures c.set_title.ensures.layer)
