use Rattle.std.proofs.Common.{◌≡◌, true, false, [], ◌||◌, Option, Some, option_map, is_some, ◌∙◌, refl, sym, ap, subst}
use Rattle.lw_region.specs.Rectangle.{Rectangle}
use Rattle.lw_machine.specs.Hook.{Hook}
use Rattle.lw_machine.specs.Layer.{is_framed}
use Rattle.lw_layer.specs.View.{CellView, hooked}
use Rattle.lw_layer.specs.View as view
use Rattle.lw_layer.specs.Drafts.{no_layer}
use Rattle.lw_layer.specs.StandsFor.{IsSound}
use Rattle.lw_stack.specs.Stack.{bounds_at}
use Rattle.lw_arrange.specs.Prepared.{cell_after, MayPrepare}
use Rattle.lw_arrange.specs.Made.{IsPrepared}
use Rattle.lw_arrange.specs.Exchanged.{HasPieces}
use Rattle.lw_arrange.specs.Filled.{AreGained}
use Rattle.lw_engine.specs.Slots.{bare, hook_in, asked_hook, IsWindowAfter}
use Rattle.lw_engine.proofs.SettlingLaws.{bare_cell, ready_settled}
use Rattle.lw_engine.proofs.FillingLaws.{filled_right}
use Rattle.lw_engine.proofs.slot.Slot.prepare.Goals as goal

pub pixels_gained-requires-clause-may : goal.pixels_gained-requires-clause-may
pixels_gained-requires-clause-may g c =
    let cell = c.deref-cell.result.now in
    let seen : hooked (option_map g.B.Backfill.hook c.self.inside.held) cell ≡ c.args.self.now = ap (hooked (option_map g.B.Backfill.hook c.self.inside.held)) c.deref-cell.ensures ∙ c.self.view_is in
    let same : cell ≡ bare c.args.self.now = bare_cell cell c.look.ensures.sound c.look.ensures.idle ∙ ap bare seen in
    let May : CellView → Type 0 = λ v. MayPrepare c.args.arrangement.now v in
    subst May (sym same) c.requires.may.prepare

pub window_after-window-requires-clause-may : goal.window_after-window-requires-clause-may
window_after-window-requires-clause-may g c =
    let cell = c.deref-cell.result.now in
    let seen : hooked (option_map g.B.Backfill.hook c.self.inside.held) cell ≡ c.args.self.now = ap (hooked (option_map g.B.Backfill.hook c.self.inside.held)) c.deref-cell.ensures ∙ c.self.view_is in
    let same : cell ≡ bare c.args.self.now = bare_cell cell c.look.ensures.sound c.look.ensures.idle ∙ ap bare seen in
    let May : CellView → Type 0 = λ v. MayPrepare c.args.arrangement.now v in
    subst May (sym same) c.requires.may.prepare

pub returns : goal.returns
returns g c =
    let a = c.args.arrangement.now in
    let shelf = c.args.shelf.now in
    let s : CellView = c.args.self.now in
    let cell : CellView = c.deref-cell.result.now in
    let seen : hooked (option_map g.B.Backfill.hook c.self.inside.held) cell ≡ s = ap (hooked (option_map g.B.Backfill.hook c.self.inside.held)) c.deref-cell.ensures ∙ c.self.view_is in
    let p = c.in_ok-prepared.prepared.becomes in
    let found = c.in_ok-gained.gained in
    let final = c.pixels_filled-gained.result in
    let w = c.window_after-window.result in
    let same : cell ≡ bare s = bare_cell cell c.look.ensures.sound c.look.ensures.idle ∙ ap bare seen in
    let Made : CellView → Type 0 = λ v. IsPrepared v (cell_after a v) p in
    let Pieces : CellView → Type 0 =
    λ v. HasPieces v.number a.stack.sizes.depth a.pieces c.in_ok-prepared.prepared.exchange.lost.items c.in_ok-prepared.prepared.exchange.gained.items in
    let Sound : CellView → Type 0 = λ v. v.state ≡ view.Live → IsSound v.live in
    let Idle : CellView → Type 0 = λ v. (v.state ≡ view.Live → ⊥) → v.live ≡ no_layer in
    let Hook_gains : CellView → Type 0 = λ v. c.has_hook-hooked.result ≡ true → AreGained v (cell_after a v) found in
    let Frame_gains : CellView → Type 0 = λ v. v.state ≡ view.Live → is_framed v.live.layer.window ≡ true → AreGained v (cell_after a v) found in
    let None_gained : CellView → Type 0 = λ v. c.has_hook-hooked.result ≡ false → is_framed v.live.layer.window ≡ false → found ≡ [] in
    let After : CellView → Type 0 =
    λ v. v.state ≡ view.Live → (h : Option Hook) (r : Rectangle) → bounds_at a.stack.bounds v.number ≡ Some r → IsWindowAfter a (hooked h v) r w in
    let sound = subst Sound same c.look.ensures.sound in
    let told = c.in_ok-gained.ensures {u = tt} in
    let after : s.state ≡ view.Live → (r : Rectangle) → bounds_at a.stack.bounds s.number ≡ Some r → IsWindowAfter a s r w =
    λ live r bounds. subst After same c.window_after-window.ensures live (hook_in s) r bounds
    in
    record {
      settled = λ glyphs.
          ready_settled glyphs a shelf s p final w c.requires.may sound (subst Made same (c.in_ok-prepared.ensures {u = tt}).becomes)
          (filled_right a shelf s found final c.has_hook-hooked.result w.change.sized c.requires.may sound (subst Idle same c.look.ensures.idle)
          c.rects.ensures.canonical c.pixels_filled-gained.ensures
          (c.has_hook-hooked.ensures ∙ ap (λ q. is_some (hook_in s) || is_some (asked_hook shelf q s.number)) c.call.ensures) (subst Hook_gains same told.hook) (subst Frame_gains same told.frame)
          (subst None_gained same told.none) (λ live r bounds. (after live r bounds).done.sized))
          after;
      slot = c.slot.ensures ∙ ap (λ (v : CellView). v.number) seen;
      untaken = refl;
      pieces = subst Pieces same (c.in_ok-prepared.ensures {u = tt}).pieces;
    }
