use Rattle.std.proofs.Common.{◌≡◌, ◌<◌, ◌∙◌, ap, sym, subst, length, set, to_z, of_z, w32}
use Rattle.std.proofs.lemmas.Int.{to_z-of_z}
use Rattle.lw_screens.specs.Display.{Display, display, first_with, dragged, with_top}
use Rattle.lw_screens.specs.Bands.{bands_from}
use Rattle.lw_screens.proofs.Changes.{kept_dragged}
use Rattle.lw_screens.proofs.screens.Screens.drag.Goals as goal

pub invariant_of-self : goal.invariant_of-self
invariant_of-self c =
    let f = c.self.inside in
    let d = display f.height f.screens.items f.order.items in
    let s = c.index-screen.result.now in
    let screens = set c.in_ok-screens.screens.items c.args.number c.dragged.result in
    let dy : to_z w32 (of_z w32 c.args.dy) ≡ c.args.dy = to_z-of_z w32 c.args.dy c.ranges.dy in
    kept_dragged d c.args.number c.args.dy c.in_ok-screens.screens.items s c.dragged.result c.in_ok-bands.bands.items c.self.invariant.display
    (subst (λ (e : Display). c.args.number < length e.screens) (sym c.self.view_is) c.requires) (c.in_ok-screens.ensures.items ∙ c.deref.ensures.value) c.index-screen.ensures
    (c.dragged.ensures ∙ ap (λ z. with_top s (dragged f.height s.top z)) dy)
    (c.in_ok-bands.ensures ∙ (ap (λ ss. bands_from (first_with ss c.deref-3.result.now) 0 f.height) c.deref-2.ensures.value
    ∙ ap (λ o. bands_from (first_with screens o) 0 f.height) c.deref-3.ensures.value))
