use Rattle.std.proofs.Common.{Option, option_map, ◌≡◌, ◌∙◌, ap, subst}
use Rattle.lw_machine.specs.Hook.{Hook}
use Rattle.lw_layer.specs.View.{CellView, hooked}
use Rattle.lw_engine.specs.Owners.{AreStripsOf}
use Rattle.lw_engine.proofs.FinishedScreen.{strips_lent}
use Rattle.lw_engine.proofs.slot.Slot.strips.Goals as goal

pub returns-in-Some : goal.returns-in-Some
returns-in-Some g c =
    let cell = c.deref.result.now in
    let h : Option Hook = option_map g.B.Backfill.hook c.self.inside.held in
    let seen : hooked h cell ≡ c.args.self.now = ap (hooked h) c.deref.ensures ∙ c.self.view_is in
    let P : CellView → Type 0 = λ v. AreStripsOf v c.strips.result.now in
    subst P seen
    (strips_lent h cell c.in-Some.layer.now c.strips.result.now c.visible.result.now c.in-Some.ensures.0 c.in-Some.ensures.1 c.strips.ensures.rects
    c.visible.ensures.value c.visible.ensures.canonical c.strips.ensures.pens)
