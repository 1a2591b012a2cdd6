use Rattle.std.proofs.Common.{◌≡◌, Option, option_map, IfOk, ◌∙◌, sym, ap, subst}
use Rattle.std.proofs.lemmas.Result.{IfOk-weaker}
use Rattle.lw_machine.specs.Hook.{Hook}
use Rattle.lw_calls.specs.declared.touch.CallClass.TheVariants.{OnLayer}
use Rattle.lw_calls.specs.Touches.{class_of}
use Rattle.lw_layer.specs.View.{CellView, hooked}
use Rattle.lw_layer_calls.specs.Parts.{IsLayerStep}
use Rattle.lw_engine.proofs.HookLaws.{hooked_step}
use Rattle.lw_engine.proofs.slot.Slot.on_layer.Goals as goal

pub returns-clause-step : goal.returns-clause-step
returns-clause-step g c =
    let a = c.args in
    let cell = c.deref_mut.result.now in
    let h : Option Hook = option_map g.B.Backfill.hook c.self.inside.held in
    let seen : hooked h cell ≡ a.self.now = ap (hooked h) c.deref_mut.ensures.value ∙ c.self.view_is in
    let new = c.on_layer.new.cell in
    let Class : CellView → Type 0 = λ v. class_of a.call.now ≡ OnLayer v.number in
    let Step : CellView → Type 0 = λ v. IfOk c.on_layer.result (λ r. IsLayerStep a.task v a.regs.now a.assets.now a.call.now r (hooked h new)) in
    subst Step seen
    (IfOk-weaker c.on_layer.result (λ r. IsLayerStep a.task cell a.regs.now a.assets.now a.call.now r new) (λ r. IsLayerStep a.task (hooked h cell) a.regs.now a.assets.now a.call.now r (hooked h new))
    (λ r step. hooked_step h a.task cell new a.regs.now a.assets.now a.call.now r (subst Class (sym seen) c.requires.class) c.on_layer.ensures.number step) c.on_layer.ensures.step)
