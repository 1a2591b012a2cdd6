use Rattle.std.proofs.Common.{◌≡◌, Option, option_map, ◌∙◌, sym, ap, subst}
use Rattle.lw_machine.specs.Hook.{Hook}
use Rattle.lw_calls.specs.declared.touch.CallClass.TheVariants.{OnLayers}
use Rattle.lw_calls.specs.Touches.{class_of}
use Rattle.lw_layer.specs.View.{CellView, hooked}
use Rattle.lw_layer_calls.specs.Parts.{IsPairStep}
use Rattle.lw_engine.proofs.HookLaws.{hooked_pair}
use Rattle.lw_engine.proofs.slot.Slot.with_source.Goals as goal

pub returns-clause-step : goal.returns-clause-step
returns-clause-step g c =
    let a = c.args in
    let to = c.deref_mut.result.now in
    let from = c.deref.result.now in
    let h : Option Hook = option_map g.B.Backfill.hook c.self.inside.held in
    let k : Option Hook = option_map g.B.Backfill.hook c.source.inside.held in
    let to_seen : hooked h to ≡ a.self.now = ap (hooked h) c.deref_mut.ensures.value ∙ c.self.view_is in
    let from_seen : hooked k from ≡ a.source.now = ap (hooked k) c.deref.ensures ∙ c.source.view_is in
    let new = c.on_layers.new.to in
    let First : CellView → Type 0 = λ v. class_of a.call.now ≡ OnLayers v.number to.number in
    let Second : CellView → Type 0 = λ v. class_of a.call.now ≡ OnLayers a.source.now.number v.number in
    let Step : CellView → Type 0 = λ v. IsPairStep (hooked k from) v a.call.now c.on_layers.result (hooked h new) in
    let From : CellView → Type 0 = λ v. IsPairStep v a.self.now a.call.now c.on_layers.result (hooked h new) in
    subst From from_seen
    (subst Step to_seen
    (hooked_pair k h from to new a.call.now c.on_layers.result (subst First (sym from_seen) (subst Second (sym to_seen) c.requires.class)) c.on_layers.ensures.number c.on_layers.ensures.step))
