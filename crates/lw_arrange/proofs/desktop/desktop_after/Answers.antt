use Rattle.std.proofs.Common.{not, ◌&&◌, sym, ap, ◌∙◌}
use Rattle.std.specs.Option.{is_some}
use Rattle.lw_region.specs.Bands.{covers}
use Rattle.std.proofs.lemmas.Bool.{false≢true}
use Rattle.lw_region.proofs.Canonical.{covers_nil}
use Rattle.lw_stack.specs.Stack.{first_at}
use Rattle.lw_arrange.proofs.DesktopLaws.{bare_elsewhere, bare_stays}
use Rattle.lw_arrange.proofs.desktop.desktop_after.Goals as goal

pub remade-requires-clause-inside : goal.remade-requires-clause-inside
remade-requires-clause-inside c = λ x y has.
    absurd (false≢true (sym (ap (λ l. covers l x y) c.new-nothing.ensures ∙ covers_nil x y) ∙ has))

pub remade-requires-clause-bare : goal.remade-requires-clause-bare
remade-requires-clause-bare c = λ x y off.
    bare_stays c.args.info.now c.args.arrangement.now.stack x y c.sizes.ensures.stack c.sizes-2.ensures.planned.stack c.requires.sizes
    (sym c.all_bounds.ensures ∙ (c.are_same.ensures c.if-are_same.true ∙ c.all_bounds-2.ensures))

pub remade-requires-clause-rest : goal.remade-requires-clause-rest
remade-requires-clause-rest c = λ x y.
    let none = ap (λ l. covers l x y) c.new-nothing.ensures ∙ covers_nil x y in
    let v = c.args.arrangement.now.stack in
    none ∙ sym (ap (λ b. b && not (is_some (first_at v.bounds v.front_to_back x y))) none)

pub remade-requires-2-clause-bare : goal.remade-requires-2-clause-bare
remade-requires-2-clause-bare c = λ x y off.
    bare_elsewhere c.args.info.now c.args.arrangement.now.stack x y c.requires.sizes
    (λ s. c.requires.area.elsewhere s x y (sym (ap (λ l. covers l x y) c.area.ensures) ∙ off))
