use Rattle.std.proofs.Common.{◌≡◌, false, option_map, ◌∙◌, refl, sym, ap, subst}
use Rattle.lw_layer.specs.View.{CellView, hooked, with_live}
use Rattle.lw_layer.specs.View as view
use Rattle.lw_layer.specs.Drafts.{live_view}
use Rattle.lw_frames.specs.Framing.{with_own_frame}
use Rattle.lw_engine.specs.Slots.{filled_as}
use Rattle.lw_engine.proofs.FollowLaws.{own_hooked, slot_filled}
use Rattle.lw_engine.proofs.slot.Slot.open.Goals as goal

pub returns : goal.returns
returns g c =
    let cell = c.deref_mut-cell.result.now in
    let seen : hooked (option_map g.B.Backfill.hook c.self.inside.held) cell ≡ c.args.self.now = ap (hooked (option_map g.B.Backfill.hook c.self.inside.held)) c.deref_mut-cell.ensures.value ∙ c.self.view_is in
    let glyphs = c.args.assets.now.glyphs in
    let taken = option_map g.B.Backfill.hook c.args.taken in
    let held = option_map g.B.Backfill.hook c.fill_gained.new.held in
    let made : CellView → CellView = λ v. record { number = v.number; state = view.Live; live = live_view c.args.draft.value } in
    let Idle : CellView → Type 0 = λ v. v.state ≡ view.Live → ⊥ in
    slot_filled (with_own_frame glyphs false) taken held c.args.gained.now c.turn_into.new.cell c.in-Some.layer.now c.fill_gained.new.layer c.paint_own_frame.new.layer
    (own_hooked held glyphs false) c.in-Some.ensures.layer.1 c.fill_gained.ensures c.paint_own_frame.ensures
    ∙ ap (with_live (λ k. with_own_frame glyphs false (filled_as taken c.args.gained.now k)))
    (c.turn_into.ensures (made cell) (subst Idle (sym seen) c.requires.idle, c.requires.draft, refl) ∙ ap made seen)
