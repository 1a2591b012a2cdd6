use Rattle.std.proofs.Common.{◌≡◌, ℕ, Bool, true, false, not, Option, Some, None, option_map, is_some, ◌∙◌, refl, sym, ap, subst}
use mathlib.Core.Bool.{beq}
use Rattle.std.proofs.lemmas.Bool.{false≢true}
use Rattle.lw_machine.specs.Desk.{is_the}
use Rattle.lw_machine.specs.Layer.{Window}
use Rattle.lw_layer.specs.View.{CellView, hooked}
use Rattle.lw_layer.specs.Looks.{owner_of}
use Rattle.lw_layer.specs.StandsFor.{IsSound}
use Rattle.lw_arrange.specs.Areas.{IsShownUnlessExchanged, IsUnaffected}
use Rattle.lw_engine.specs.Slots.{bare}
use Rattle.lw_engine.proofs.SettlingLaws.{bare_cell, slot_left}
use Rattle.lw_engine.proofs.WindowLaws.{look_of}
use Rattle.lw_engine.proofs.slot.Slot.is_left.Goals as goal

-- a layer without an owner is no window
plain : (o : Option Window) (k : Option ℕ) → k ≡ owner_of o → is_some k ≡ false → o ≡ None
plain None k is none = refl
plain (Some w) k is none = absurd (false≢true (sym none ∙ ap is_some is))

same_flag : (s t : Bool) → not (beq s t) ≡ false → s ≡ t
same_flag true true is = refl
same_flag true false is = is
same_flag false true is = sym is
same_flag false false is = refl

pub is_unaffected-requires : goal.is_unaffected-requires
is_unaffected-requires g c =
    let cell = c.deref-cell.result.now in
    let h = option_map g.B.Backfill.hook c.self.inside.held in
    let seen : hooked h cell ≡ c.args.self.now = ap (hooked h) c.deref-cell.ensures ∙ c.self.view_is in
    let same : cell ≡ bare c.args.self.now = bare_cell cell c.look.ensures.sound c.look.ensures.idle ∙ ap bare seen in
    let P : CellView → Type 0 = λ v. IsShownUnlessExchanged c.args.arrangement.now v in
    subst P (sym same) c.requires.unexchanged

pub returns : goal.returns
returns g c =
    λ yes.
    let a = c.args.arrangement.now in
    let s = c.args.self.now in
    let cell = c.deref-cell.result.now in
    let h = option_map g.B.Backfill.hook c.self.inside.held in
    let seen : hooked h cell ≡ s = ap (hooked h) c.deref-cell.ensures ∙ c.self.view_is in
    let same : cell ≡ bare s = bare_cell cell c.look.ensures.sound c.look.ensures.idle ∙ ap bare seen in
    let stays = c.is_unaffected.ensures.0 yes in
    let look = look_of cell c.in-Some.look stays.live c.in-Some.ensures.look in
    let Sound : CellView → Type 0 = λ v. IsSound v.live in
    let Plain : CellView → Type 0 = λ v. v.live.layer.window ≡ None in
    let Active : CellView → Type 0 = λ v. v.live.active ≡ is_the a.stack.active v.number in
    slot_left a s (subst Sound same (c.look.ensures.sound stays.live)) (subst (IsUnaffected a) same stays)
    (subst Plain same (plain cell.live.layer.window c.in-Some.look.owner look.owner (sym c.is_some.ensures ∙ c.if-is_some.false)))
    (subst Active same
    (sym look.active
    ∙ (same_flag c.in-Some.look.active c.is_slot.result c.if-look-is_slot.false
    ∙ (c.is_slot.ensures ∙ (ap (λ o. is_the o c.slot.result) c.active.ensures ∙ ap (is_the a.stack.active) c.slot.ensures)))))
