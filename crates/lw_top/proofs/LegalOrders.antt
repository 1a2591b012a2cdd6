-- In a legal order each task's calls stand once, and in their order; and a plan of one task has one legal order.
use Rattle.std.proofs.Common.{◌≡◌, ℕ, zero, suc, ◌<◌, ◌==◌, true, List, [], ◌∷◌, ◌++◌, length, map, replicate, Option, Some, refl, sym, ap, subst, inl, inr, ◌∙◌, arith}
use Rattle.std.specs.List.{slice_get}
use Rattle.std.proofs.lemmas.Bool.{eqb-true, and_parts, cases_lt}
use Rattle.lw_calls.specs.declared.call.Call.{Call}
use Rattle.lw_calls.specs.declared.entry.Entry.{Entry}
use Rattle.lw_calls.specs.Plan.{Plan, IsPlan, task_calls}
use Rattle.lw_calls.specs.Entries.{count_of, next_entry, entries, only_order}
use Rattle.lw_calls.specs.Orders.{occurrences, may_come, keeps_groups, is_complete, is_legal, Begins}
use Rattle.lw_calls.proofs.OrdersComplete.{all_below, call_there, begins}
use Rattle.lw_apart.proofs.TaskOrders.{AreAlike, alike_more, none_there, calls_of_task}
use Rattle.lw_top.specs.Run.{CallsStandOnce, OneTaskHasOneOrder}

-- each number that keeps the groups stands for a step
each_stands : (plan : Plan) (past : List Entry) (ns order : List ℕ) → AreAlike past ns → keeps_groups plan ns order ≡ true → map (λ (e : Entry). e.task) (entries plan past order) ≡ order
each_stands plan past ns [] alike keeps = refl
each_stands plan past ns (u ∷ order) alike keeps =
    let n : ℕ = count_of u past in
    let parts = and_parts (may_come plan ns u (slice_get (task_calls plan u) (occurrences u ns))) (keeps_groups plan (ns ++ u ∷ []) order) keeps in
    let there = call_there plan ns u (slice_get (task_calls plan u) (occurrences u ns)) parts.0 in
    let e : Entry = record { task = u; seq = n; call = there.0 } in
    let next : next_entry u n (slice_get (task_calls plan u) n) ≡ e ∷ [] = ap (next_entry u n) (ap (slice_get (task_calls plan u)) (sym (alike u)) ∙ there.1) in
    ap (λ l. map (λ (x : Entry). x.task) (l ++ entries plan (past ++ l) order)) next ∙ ap (λ l. u ∷ l) (each_stands plan (past ++ e ∷ []) (ns ++ u ∷ []) order (alike_more past ns u n there.0 alike) parts.1)

pub calls_stand_once : CallsStandOnce
calls_stand_once plan order ok legal = record {
  each = each_stands plan [] [] order (λ u. refl) (and_parts (keeps_groups plan [] order) (is_complete plan order) legal).0;
  calls = calls_of_task plan order ok legal;
}

-- a task with a call is one of the plan's
pub is_of_plan : (plan : Plan) (u k : ℕ) (c : Call) → slice_get (task_calls plan u) k ≡ Some c → u < length plan.calls
is_of_plan plan u k c got = elim (cases_lt u (length plan.calls)) [ inl low ↦ low | inr high ↦ absurd (nothing (ap (λ cs. slice_get cs k) (sym (none_there plan.calls u high)) ∙ got)) ]
  where
    nothing : ◌≡◌ {A = Option Call} (slice_get [] k) (Some c) → ⊥
    nothing h = cc

-- numbers that keep the groups of a plan of one task are all 0
module _ (plan : Plan) (ok : IsPlan plan) (one : plan.sizes.tasks ≡ 1) where
  is_first : (u k : ℕ) (c : Call) → slice_get (task_calls plan u) k ≡ Some c → u ≡ 0
  is_first u k c got =
      let lists = ok.lists in
      let low = is_of_plan plan u k c got in
      omega (arith, low, lists, one)

  zeros : (ns order : List ℕ) → keeps_groups plan ns order ≡ true → order ≡ replicate (length order) 0
  zeros ns [] keeps = refl
  zeros ns (u ∷ order) keeps =
      let parts = and_parts (may_come plan ns u (slice_get (task_calls plan u) (occurrences u ns))) (keeps_groups plan (ns ++ u ∷ []) order) keeps in
      let there = call_there plan ns u (slice_get (task_calls plan u) (occurrences u ns)) parts.0 in
      ap (λ v. v ∷ order) (is_first u (occurrences u ns) there.0 there.1) ∙ ap (λ l. 0 ∷ l) (zeros (ns ++ u ∷ []) order parts.1)

zeros_counted : (n : ℕ) → occurrences 0 (replicate n 0) ≡ n
zeros_counted zero = refl
zeros_counted (suc n) = let rest = zeros_counted n in omega (arith, rest)

only_legal : (plan : Plan) → IsPlan plan → plan.sizes.tasks ≡ 1 → (order : List ℕ) → is_legal plan order ≡ true → order ≡ only_order plan
only_legal plan ok one order legal =
    let parts = and_parts (keeps_groups plan [] order) (is_complete plan order) legal in
    let are : order ≡ replicate (length order) 0 = zeros plan ok one [] order parts.0 in
    let first : 0 < plan.sizes.tasks = omega (arith, one) in
    let many = eqb-true (occurrences 0 order) (length (task_calls plan 0)) (all_below (λ u. occurrences u order == length (task_calls plan u)) plan.sizes.tasks 0 parts.1 first) in
    let long : length order ≡ length (task_calls plan 0) = sym (ap (occurrences 0) are ∙ zeros_counted (length order)) ∙ many in
    are ∙ ap (λ n. replicate n 0) long

-- some order is legal, since no numbers begin one, and it is the only one
pub one_order : OneTaskHasOneOrder
one_order plan ok one =
    let some : Begins plan [] = begins plan ok [] refl in
    record { legal = subst (λ o. is_legal plan o ≡ true) (only_legal plan ok one some.0 some.1) some.1; only = only_legal plan ok one }
