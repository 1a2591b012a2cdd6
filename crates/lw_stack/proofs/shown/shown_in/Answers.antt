use Rattle.std.proofs.Common.{◌==◌, [], ◌≡◌, not, ◌&&◌, true, List, ℕ, ℤ, length, drop, get_or, take, sym, ap, subst, ◌∙◌}
use Rattle.std.proofs.lemmas.Bool.{eqb-true}
use Rattle.std.proofs.lemmas.List.{take_more, take-append-drop, nil_from_length}
use Rattle.lw_region.specs.Bands.{covers}
use Rattle.lw_stack.specs.Stack.{AreShownIn}
use Rattle.lw_stack.proofs.FirstLaws.{some_at}
use Rattle.lw_stack.proofs.AreaLaws.{none_passed_in, layer_passed_in, nothing_left, none_left}
use Rattle.lw_stack.proofs.shown.shown_in.Goals as goal

pub loop-slot-init : goal.loop-slot-init
loop-slot-init c =
    none_passed_in c.args.area.now c.args.bounds.now c.in_ok-rest.rest c.new-sets.result.items c.in_ok-rest.ensures
    c.new-sets.ensures.many c.new-sets.ensures.none

pub loop-slot-preserved : goal.loop-slot-preserved
loop-slot-preserved c =
    let order = c.args.order.now in
    let i = c.loop-slot.slot-index in
    let done = c.in_ok-show_in.ensures in
    rw (take_more order i 0 c.loop-slot-test.true)
    (layer_passed_in c.args.area.now c.args.bounds.now (take i order) (get_or order i 0) c.loop-slot.rest c.show_in.new.rest
    c.loop-slot.sets.items c.show_in.new.sets.items c.loop-slot.invariant done.many done.rest done.sets)

pub returns-then-is_empty-clause-sets : goal.returns-then-is_empty-clause-sets
returns-then-is_empty-clause-sets c =
    let area = c.args.area.now in
    let bounds = c.args.bounds.now in
    let order = c.args.order.now in
    let i = c.loop-slot.slot-index in
    let rest = c.loop-slot.rest in
    let sets = c.loop-slot.sets.items in
    let none : (length rest == 0) ≡ true =
    ap (λ l. length l == 0) (sym c.rects.ensures.value) ∙ (sym c.is_empty.ensures ∙ c.if-is_empty.true) in
    let empty : rest ≡ [] = nil_from_length rest (eqb-true (length rest) 0 none) in
    subst (λ slots. AreShownIn area bounds slots sets) (take-append-drop i order)
    (nothing_left area bounds (take i order) (drop i order) rest sets c.loop-slot.invariant empty)

pub returns-then-is_empty-clause-rest : goal.returns-then-is_empty-clause-rest
returns-then-is_empty-clause-rest c =
    let area = c.args.area.now in
    let bounds = c.args.bounds.now in
    let order = c.args.order.now in
    let i = c.loop-slot.slot-index in
    let rest = c.loop-slot.rest in
    let none : (length rest == 0) ≡ true =
    ap (λ l. length l == 0) (sym c.rects.ensures.value) ∙ (sym c.is_empty.ensures ∙ c.if-is_empty.true) in
    let empty : rest ≡ [] = nil_from_length rest (eqb-true (length rest) 0 none) in
    let P : List ℕ → Type 0 = λ slots. (x y : ℤ) → covers rest x y ≡ (covers area x y && not (some_at bounds slots x y)) in
    subst P (take-append-drop i order)
    (none_left area bounds (take i order) (drop i order) rest c.loop-slot.sets.items c.loop-slot.invariant empty)
