use Rattle.std.proofs.Common.{rules, [], refl, sym, ap, subst, ◌∙◌, take, length, true, false}
use Rattle.lw_calls.specs.Orders.{keeps_groups, is_complete, IsBadPlace}
use Rattle.lw_calls.proofs.OrderReading.{kept_first, kept_length, keeps_step, kept_step, keeps_whole, made_as_kept, bad_here}
use Rattle.lw_calls.proofs.OrderReading.{bad_at_end}
use Rattle.std.proofs.lemmas.Bool.{and_from}
use Rattle.lw_calls.proofs.orders.bad_place.Goals as goal

pub loop-place-init : goal.loop-place-init
loop-place-init c = record { kept = kept_first c.args.plan.now c.in_ok-states.states.items (search rules); keeps = refl }

pub makes_next-requires : goal.makes_next-requires
makes_next-requires c =
    ap length c.deref_mut.ensures.value ∙ kept_length c.args.plan.now _ c.loop-place.states.items c.loop-place.invariant.kept

pub returns-then-not-makes_next-clause-bad : goal.returns-then-not-makes_next-clause-bad
returns-then-not-makes_next-clause-bad c = λ k is. subst (IsBadPlace c.args.plan.now c.args.order.now) (search rules)
    (bad_here c.args.plan.now c.sizes.ensures.plan c.args.order.now c.loop-place.place (search rules) c.loop-place.invariant.keeps
    (keeps_step c.args.plan.now c.args.order.now c.tasks-numbers.result.now c.loop-place.place false c.tasks-numbers.ensures
    c.loop-place-test.true c.loop-place.invariant.keeps
    (sym c.if-not-makes_next.true ∙
    c.makes_next.ensures.may (take c.loop-place.place c.args.order.now)
    (c.deref_mut.ensures.value ∙ c.loop-place.invariant.kept))))

pub loop-place-preserved : goal.loop-place-preserved
loop-place-preserved c = record {
  kept = kept_step c.args.plan.now c.args.order.now c.tasks-numbers.result.now c.loop-place.place c.loop-place.states.items
      c.makes_next.new.states c.loop-place.states.len c.tasks-numbers.ensures c.loop-place-test.true
      (sym c.deref_mut.ensures.len ∙
      (ap length c.deref_mut.ensures.value ∙
      kept_length c.args.plan.now _ c.loop-place.states.items c.loop-place.invariant.kept))
      (c.makes_next.ensures.made (take c.loop-place.place c.args.order.now)
      (c.deref_mut.ensures.value ∙ c.loop-place.invariant.kept) c.if-not-makes_next.false);
  keeps = keeps_step c.args.plan.now c.args.order.now c.tasks-numbers.result.now c.loop-place.place true c.tasks-numbers.ensures
      c.loop-place-test.true c.loop-place.invariant.keeps
      (sym c.if-not-makes_next.false ∙
      c.makes_next.ensures.may (take c.loop-place.place c.args.order.now)
      (c.deref_mut.ensures.value ∙ c.loop-place.invariant.kept));
}

pub all_made-requires : goal.all_made-requires
all_made-requires c =
    ap length c.deref.ensures.value ∙ kept_length c.args.plan.now _ c.loop-place.states.items c.loop-place.invariant.kept

pub returns-then-all_made-clause-legal : goal.returns-then-all_made-clause-legal
returns-then-all_made-clause-legal c = λ is.
    let whole =
    keeps_whole c.args.order.now c.tasks-numbers.result.now c.loop-place.place c.tasks-numbers.ensures
    c.loop-place-test.false in
    and_from _ _ (ap (keeps_groups c.args.plan.now []) (sym whole) ∙ c.loop-place.invariant.keeps)
    (ap (is_complete c.args.plan.now) (sym whole) ∙
    (sym (made_as_kept c.args.plan.now (take c.loop-place.place c.args.order.now) c.deref.result.now
    (c.deref.ensures.value ∙ c.loop-place.invariant.kept)) ∙ (sym c.all_made.ensures ∙ c.if-all_made.true)))

pub returns-clause-bad : goal.returns-clause-bad
returns-clause-bad c = λ k is.
    let whole =
    keeps_whole c.args.order.now c.tasks-numbers.result.now c.loop-place.place c.tasks-numbers.ensures
    c.loop-place-test.false in
    subst (IsBadPlace c.args.plan.now c.args.order.now) (sym (ap length c.tasks-numbers.ensures) ∙ search rules)
    (bad_at_end c.args.plan.now c.sizes.ensures.plan c.args.order.now
    (ap (keeps_groups c.args.plan.now []) (sym whole) ∙ c.loop-place.invariant.keeps)
    (ap (is_complete c.args.plan.now) (sym whole) ∙
    (sym (made_as_kept c.args.plan.now (take c.loop-place.place c.args.order.now) c.deref.result.now
    (c.deref.ensures.value ∙ c.loop-place.invariant.kept)) ∙ (sym c.all_made.ensures ∙ c.if-all_made.false))))
