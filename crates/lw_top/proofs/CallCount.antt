-- A legal order has a number for each call of its plan, each below 16.
use Rattle.std.proofs.Common.{◌≡◌, ℕ, zero, suc, ◌+◌, ◌*◌, ◌<◌, ◌≤◌, ◌==◌, Bool, true, false, cond, List, [], ◌∷◌, ◌++◌, length, take, slice_index_or, ◌^◌, inl, inr, refl, ap, ◌∙◌, arith, mul-le-mul}
use Rattle.std.specs.List.{AllByRecursion, slice_get, sum_by}
use Rattle.std.proofs.lemmas.Bool.{eqb-true, eqb-false, and_parts, cases_lt}
use Rattle.std.proofs.lemmas.List.{take_all}
use Rattle.std.proofs.lemmas.List.Sums.{sum_by_more, sum_by-le}
use Rattle.lw_calls.specs.declared.call.Call.{Call}
use Rattle.lw_calls.specs.Plan.{Plan, IsPlan, task_calls}
use Rattle.lw_calls.specs.Orders.{occurrences, may_come, keeps_groups, is_complete, is_legal}
use Rattle.lw_calls.specs.Limits.{limits_of}
use Rattle.lw_calls.proofs.OrdersComplete.{all_below, call_there}
use Rattle.lw_calls.proofs.LimitLaws.{calls_at_most}
use Rattle.lw_report_order.specs.OrderSection.{AreTasks}
use Rattle.lw_top.specs.Audit.{call_count}
use Rattle.lw_top.proofs.LegalOrders.{is_of_plan}

-- a list without a number
abbrev without : ℕ → List ℕ → List ℕ
without n [] = []
without n (x ∷ xs) = cond (x == n) (without n xs) (x ∷ without n xs)

without_length : (n : ℕ) (xs : List ℕ) → length xs ≡ occurrences n xs + length (without n xs)
without_length n [] = refl
without_length n (x ∷ xs) = step (x == n) (without_length n xs)
  where
    step : (b : Bool) → length xs ≡ occurrences n xs + length (without n xs) → suc (length xs) ≡ (cond b 1 0 + occurrences n xs) + length (cond b (without n xs) (x ∷ without n xs))
    step true h = omega (arith, h)
    step false h = omega (arith, h)

without_occurs : (n t : ℕ) (xs : List ℕ) → t < n → occurrences t (without n xs) ≡ occurrences t xs
without_occurs n t [] low = refl
without_occurs n t (x ∷ xs) low = step (x == n) refl (without_occurs n t xs low)
  where
    other : (b : Bool) → (x == t) ≡ b → x ≡ n → cond b 1 0 ≡ zero
    other true e same = absurd (let is = eqb-true x t e in omega (arith, is, same, low))
    other false e same = refl

    step : (b : Bool) → (x == n) ≡ b → occurrences t (without n xs) ≡ occurrences t xs → occurrences t (cond b (without n xs) (x ∷ without n xs)) ≡ cond (x == t) 1 0 + occurrences t xs
    step true e h = let none = other (x == t) refl (eqb-true x n e) in omega (arith, h, none)
    step false e h = ap (λ n. cond (x == t) 1 0 + n) h

-- numbers below a bound
abbrev pub AreBelow : ℕ → List ℕ → Type 0
AreBelow n [] = Unit {0}
AreBelow n (x ∷ xs) = (x < n) × AreBelow n xs

without_below : (n : ℕ) (xs : List ℕ) → AreBelow (suc n) xs → AreBelow n (without n xs)
without_below n [] h = tt
without_below n (x ∷ xs) h = step (x == n) refl (without_below n xs h.1)
  where
    step : (b : Bool) → (x == n) ≡ b → AreBelow n (without n xs) → AreBelow n (cond b (without n xs) (x ∷ without n xs))
    step true e rest = rest
    step false e rest = (other (eqb-false x n e) h.0, rest)
      where
        other : (x ≡ n → ⊥) → x < suc n → x < n
        other apart low = elim (cases_lt x n) [ inl below ↦ below | inr high ↦ absurd (apart (omega (arith, high, low))) ]

-- numbers of which each stands as often as its list is long are as many as all lists have elements
counted : (n : ℕ) (lists : List (List Call)) (xs : List ℕ) → n ≤ length lists → AreBelow n xs → ((t : ℕ) → t < n → occurrences t xs ≡ length (slice_index_or lists t [])) → length xs ≡ sum_by (λ calls. length calls) (take n lists)
counted zero lists [] within h each = refl
counted zero lists (x ∷ xs) within h each = absurd (let low = h.0 in omega (arith, low))
counted (suc n) lists xs within h each =
    let rest : length (without n xs) ≡ sum_by (λ calls. length calls) (take n lists) = counted n lists (without n xs) (omega (arith, within)) (without_below n xs h) (λ t low. without_occurs n t xs low ∙ each t (omega (arith, low))) in
    let all = without_length n xs in
    let last = each n (omega arith) in
    let next : suc n ≡ n + 1 = omega arith in
    let more : sum_by (λ calls. length calls) (take (suc n) lists) ≡ sum_by (λ calls. length calls) (take n lists) + length (slice_index_or lists n []) = ap (λ k. sum_by (λ calls. length calls) (take k lists)) next ∙ sum_by_more (λ calls. length calls) lists n [] (omega (arith, within)) in
    omega (arith, rest, all, last, more)

-- the numbers of a legal order are those of the plan's tasks
below : (plan : Plan) → IsPlan plan → (ns order : List ℕ) → keeps_groups plan ns order ≡ true → AreBelow plan.sizes.tasks order
below plan ok ns [] keeps = tt
below plan ok ns (u ∷ order) keeps =
    let parts = and_parts (may_come plan ns u (slice_get (task_calls plan u) (occurrences u ns))) (keeps_groups plan (ns ++ u ∷ []) order) keeps in
    let there = call_there plan ns u (slice_get (task_calls plan u) (occurrences u ns)) parts.0 in
    let low = is_of_plan plan u (occurrences u ns) there.0 there.1 in
    let lists = ok.lists in
    (omega (arith, low, lists), below plan ok (ns ++ u ∷ []) order parts.1)

small : (n : ℕ) (xs : List ℕ) → n ≤ 16 → AreBelow n xs → AllByRecursion (λ t. t < 16) xs
small n [] few h = tt
small n (x ∷ xs) few h = (let low = h.0 in omega (arith, low, few), small n xs few h.1)

-- A legal order has as many numbers as the plan has calls.
pub legal_tasks : (plan : Plan) (order : List ℕ) → IsPlan plan → is_legal plan order ≡ true → AreTasks (call_count plan) order
legal_tasks plan order ok legal =
    let parts = and_parts (keeps_groups plan [] order) (is_complete plan order) legal in
    let lists = ok.lists in
    let low = below plan ok [] order parts.0 in
    let all : take plan.sizes.tasks plan.calls ≡ plan.calls = take_all plan.sizes.tasks plan.calls (omega (arith, lists)) in
    record {
      many = counted plan.sizes.tasks plan.calls order (omega (arith, lists)) low (λ t few. eqb-true (occurrences t order) (length (task_calls plan t)) (all_below (λ u. occurrences u order == length (task_calls plan u)) plan.sizes.tasks t parts.1 few)) ∙ ap (sum_by (λ calls. length calls)) all;
      below = small plan.sizes.tasks order ok.limits.tasks low;
    }

-- and these are few
pub few_calls : (plan : Plan) → IsPlan plan → call_count plan ≤ plan.sizes.tasks * 16384
few_calls plan ok =
    let limit = (limits_of plan.sizes.version).calls in
    let most = sum_by-le (λ calls. length calls) limit plan.calls ok.few in
    let each : length plan.calls * limit ≤ length plan.calls * 16384 = mul-le-mul (omega arith) (calls_at_most plan.sizes.version) in
    let lists = ok.lists in
    omega (arith, most, each, lists)

pub order_short : (plan : Plan) (order : List ℕ) → IsPlan plan → is_legal plan order ≡ true → length order < 2 ^ 64
order_short plan order ok legal =
    let all = (legal_tasks plan order ok legal).many in
    let most = few_calls plan ok in
    let few = ok.limits.tasks in
    omega (arith, all, most, few)
