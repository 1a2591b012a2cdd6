use Rattle.std.proofs.Common.{◌≡◌, Option, option_map, ◌∙◌, refl, sym, ap, subst}
use Rattle.lw_machine.specs.Hook.{Hook}
use Rattle.lw_machine.specs.Paint.{with_pens}
use Rattle.lw_layer.specs.View.{LiveView, CellView, hooked, with_live}
use Rattle.lw_layer.specs.View as view
use Rattle.lw_reveal.specs.Changed.{carried_to}
use Rattle.lw_reveal.specs.Changes.{IsChange}
use Rattle.lw_engine.specs.Slots.{bare, hook_in, filled_as, followed}
use Rattle.lw_engine.proofs.SettlingLaws.{bare_cell}
use Rattle.lw_engine.proofs.FollowLaws.{followed_hooked, slot_filled, room_same}
use Rattle.lw_engine.proofs.slot.Slot.change.Goals as goal

pub turn_into-requires : goal.turn_into-requires
turn_into-requires g c =
    let cell = c.deref_mut-cell.result.now in
    let seen : hooked (option_map g.B.Backfill.hook c.self.inside.held) cell ≡ c.args.self.now = ap (hooked (option_map g.B.Backfill.hook c.self.inside.held)) c.deref_mut-cell.ensures.value ∙ c.self.view_is in
    let k = c.args.change.value in
    let same : cell ≡ bare c.args.self.now = bare_cell cell c.look.ensures.sound c.look.ensures.idle ∙ ap bare seen in
    let Live : CellView → Type 0 = λ v. v.state ≡ view.Live in
    let Made : CellView → Type 0 = λ v. IsChange v.live k in
    (with_live (λ v. carried_to k.bounds k.parts.visible v) cell, (subst Live (sym seen) c.requires.live, subst Made (sym same) c.requires.change, refl))

pub unreachable-requires : goal.unreachable-requires
unreachable-requires g c =
    let cell = c.deref_mut-cell.result.now in
    let seen : hooked (option_map g.B.Backfill.hook c.self.inside.held) cell ≡ c.args.self.now = ap (hooked (option_map g.B.Backfill.hook c.self.inside.held)) c.deref_mut-cell.ensures.value ∙ c.self.view_is in
    let k = c.args.change.value in
    let same : cell ≡ bare c.args.self.now = bare_cell cell c.look.ensures.sound c.look.ensures.idle ∙ ap bare seen in
    let Live : CellView → Type 0 = λ v. v.state ≡ view.Live in
    let Made : CellView → Type 0 = λ v. IsChange v.live k in
    let live = subst Live (sym seen) c.requires.live in
    (c.in_default.ensures {u = tt}).layer
    (ap (λ (v : CellView). v.state) (c.turn_into.ensures (with_live (λ v. carried_to k.bounds k.parts.visible v) cell) (live, subst Made (sym same) c.requires.change, refl)) ∙ live)

pub follow-requires : goal.follow-requires
unfolding with_pens
follow-requires g c =
    let cell = c.deref_mut-cell.result.now in
    let seen : hooked (option_map g.B.Backfill.hook c.self.inside.held) cell ≡ c.args.self.now = ap (hooked (option_map g.B.Backfill.hook c.self.inside.held)) c.deref_mut-cell.ensures.value ∙ c.self.view_is in
    let s = c.args.self.now in
    let k = c.args.change.value in
    let before : Option Hook = option_map g.B.Backfill.hook c.self.inside.held in
    let made : CellView → CellView = λ v. with_live (λ u. carried_to k.bounds k.parts.visible u) v in
    let same : cell ≡ bare s = bare_cell cell c.look.ensures.sound c.look.ensures.idle ∙ ap bare seen in
    let Live : CellView → Type 0 = λ v. v.state ≡ view.Live in
    let Made : CellView → Type 0 = λ v. IsChange v.live k in
    let lent : c.in-Some.layer.now ≡ (made (bare s)).live =
    c.in-Some.ensures.layer.1
    ∙ ap (λ (v : CellView). v.live) (c.turn_into.ensures (made cell) (subst Live (sym seen) c.requires.live, subst Made (sym same) c.requires.change, refl) ∙ ap made same)
    in
    let filled = c.fill_gained.ensures ∙ ap (filled_as before c.args.gained.now) lent in
    room_same 5 s c.fill_gained.new.layer c.requires.live (ap (λ (v : LiveView). v.room) filled) (ap (λ (v : LiveView). v.layer.window) filled) c.requires.room

pub returns : goal.returns
returns g c =
    λ q done.
    let cell = c.deref_mut-cell.result.now in
    let seen : hooked (option_map g.B.Backfill.hook c.self.inside.held) cell ≡ c.args.self.now = ap (hooked (option_map g.B.Backfill.hook c.self.inside.held)) c.deref_mut-cell.ensures.value ∙ c.self.view_is in
    let s = c.args.self.now in
    let k = c.args.change.value in
    let glyphs = c.args.assets.now.glyphs in
    let w = c.args.window.now in
    let gained = c.args.gained.now in
    let before : Option Hook = option_map g.B.Backfill.hook c.self.inside.held in
    let held : Option Hook = option_map g.B.Backfill.hook c.fill_gained.new.held in
    let made : CellView → CellView = λ v. with_live (λ u. carried_to k.bounds k.parts.visible u) v in
    let same : cell ≡ bare s = bare_cell cell c.look.ensures.sound c.look.ensures.idle ∙ ap bare seen in
    let Live : CellView → Type 0 = λ v. v.state ≡ view.Live in
    let Made : CellView → Type 0 = λ v. IsChange v.live k in
    let settled : Option Hook → LiveView → LiveView = λ h v. followed glyphs w q (filled_as h gained v) in
    slot_filled (followed glyphs w q) before held gained c.turn_into.new.cell c.in-Some.layer.now c.fill_gained.new.layer c.follow.new.layer
    (followed_hooked held glyphs w q) c.in-Some.ensures.layer.1 c.fill_gained.ensures (c.follow.ensures q done)
    ∙ (ap (with_live (settled before)) (c.turn_into.ensures (made cell) (subst Live (sym seen) c.requires.live, subst Made (sym same) c.requires.change, refl) ∙ ap made same)
    ∙ ap (λ h. with_live (settled h) (made (bare s))) (ap hook_in seen))
