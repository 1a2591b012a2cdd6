use Rattle.std.proofs.Common.{◌≡◌, Option, option_map, ◌∙◌, sym, ap, subst}
use Rattle.lw_machine.specs.Hook.{Hook}
use Rattle.lw_layer.specs.View.{State, CellView, hooked, with_live}
use Rattle.lw_layer.specs.View as view
use Rattle.lw_engine.specs.Slots.{IsStill, followed}
use Rattle.lw_engine.proofs.FollowLaws.{followed_hooked, slot_changed, idle_stays}
use Rattle.lw_engine.proofs.slot.Slot.stay.Goals as goal

pub returns-in_default : goal.returns-in_default
returns-in_default g c =
    λ to is.
    let h : Option Hook = option_map g.B.Backfill.hook c.self.inside.held in
    let seen : hooked h c.deref_mut.result.now ≡ c.args.self.now = ap (hooked h) c.deref_mut.ensures.value ∙ c.self.view_is in
    let idle : c.args.self.now.state ≡ view.Live → ⊥ =
    λ live. (c.in_default.ensures {u = tt}).layer (ap (λ (v : CellView). v.state) seen ∙ live)
    in
    seen ∙ sym (idle_stays c.args.assets.now.glyphs c.args.self.now to c.args.window.now c.args.self.now.state idle is)

pub returns : goal.returns
returns g c =
    λ to is.
    let cell = c.deref_mut.result.now in
    let s = c.args.self.now in
    let glyphs = c.args.assets.now.glyphs in
    let w = c.args.window.now in
    let h : Option Hook = option_map g.B.Backfill.hook c.self.inside.held in
    let seen : hooked h cell ≡ c.args.self.now = ap (hooked h) c.deref_mut.ensures.value ∙ c.self.view_is in
    let P : State → Type 0 = λ t. IsStill glyphs s to w t in
    let live : s.state ≡ view.Live = sym (ap (λ (v : CellView). v.state) seen) ∙ c.in-Some.ensures.layer.0 in
    let still : P view.Live = subst P live is in
    slot_changed (followed glyphs w still.1) h cell c.in-Some.layer.now c.follow.new.layer (followed_hooked h glyphs w still.1) c.in-Some.ensures.layer.1 (c.follow.ensures still.1 still.2)
    ∙ (ap (with_live (followed glyphs w still.1)) seen ∙ sym still.3)
