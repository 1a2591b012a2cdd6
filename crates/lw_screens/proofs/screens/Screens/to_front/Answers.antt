use Rattle.std.proofs.Common.{◌<◌, ◌∙◌, ◌∷◌, ap, sym, subst, length}
use Rattle.std.specs.List.{All}
use Rattle.lw_machine.specs.Arrangement.{without}
use Rattle.lw_screens.specs.Display.{Display}
use Rattle.lw_screens.proofs.Changes.{first_numbers}
use Rattle.lw_screens.proofs.screens.Screens.to_front.Goals as goal

pub reorder-requires : goal.reorder-requires
reorder-requires c =
    let f = c.self.inside in
    let there = subst (λ (e : Display). c.args.number < length e.screens) (sym c.self.view_is) c.requires in
    let all = first_numbers c.args.number (length f.screens.items) f.order.items there c.self.invariant.display.order in
    let is = c.in_ok-order.ensures ∙ ap (λ o. c.args.number ∷ without c.args.number o) c.deref.ensures.value in
    subst (λ (e : Display). All (λ j. j < length e.screens) c.in_ok-order.order.items) c.self.view_is
    (subst (λ o. All (λ j. j < length f.screens.items) o) (sym is) all)
