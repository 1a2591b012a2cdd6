-- A past that keeps the groups can be completed to a legal order, so it begins one.
use Rattle.std.proofs.Common.{◌≡◌, ℕ, zero, suc, ◌+◌, ◌-◌, ◌<◌, ◌≤◌, ◌==◌, ◌⊎◌, inl, inr, Bool, true, false, cond, not, ◌&&◌}
use Rattle.std.proofs.Common.{◌||◌, nat_lt, if◌then◌else◌, List, [], ◌∷◌, ◌++◌, length, Option, Some, None, refl, sym, ap, subst}
use Rattle.std.proofs.Common.{◌∙◌, rules, arith}
use Rattle.std.specs.List.{list_all, range_with_len, slice_get}
use Rattle.lw_calls.specs.declared.call.Call.{Call}
use Rattle.lw_calls.specs.declared.touch.Touch.{Touch}
use Rattle.lw_calls.specs.declared.group.Hold.{Hold}
use Rattle.lw_calls.specs.Touches.{slots_of, touches_info, touch_of}
use Rattle.lw_calls.specs.Plan.{Plan, IsPlan, task_calls, task_groups}
use Rattle.lw_calls.specs.Orders.{occurrences, keeps_off, may_come, keeps_groups, is_complete, Begins}
use Rattle.lw_calls.proofs.OrderGroups.{hold_at, meets_some, inside, any_as_hold, none_at_first, more_within, next_inside}
use Rattle.lw_calls.proofs.OrderGroups.{last_inside, clash, clash_sym, meets_inside}
use Rattle.std.proofs.lemmas.Bool.{true≢false, false≢true, ltb-true, ltb-false, eqb-true, eqb-false, eq-eqb, ne_eqb, and_parts}
use Rattle.std.proofs.lemmas.Bool.{and_from}
use Rattle.std.proofs.lemmas.List.{append_assoc, append-nil}
use Rattle.std.proofs.Math.Bool.{and_assoc}
use Rattle.std.proofs.lemmas.Option.{slice_get_within}

-- one number more at a list's end
occurs_more : (t u : ℕ) (past : List ℕ) → occurrences t (past ++ u ∷ []) ≡ occurrences t past + (if u == t then 1 else 0)
occurs_more t u [] = omega arith
occurs_more t u (x ∷ past) =
    let rest = occurs_more t u past in
    ap (λ n. (if x == t then 1 else 0) + n) rest ∙ omega arith

pub occurs_again : (t : ℕ) (past : List ℕ) → occurrences t (past ++ t ∷ []) ≡ occurrences t past + 1
occurs_again t past = occurs_more t t past ∙ ap (λ b. occurrences t past + cond b 1 0) (eq-eqb t t refl)

pub occurs_as_before : (t u : ℕ) (past : List ℕ) → (u ≡ t → ⊥) → occurrences t (past ++ u ∷ []) ≡ occurrences t past
occurs_as_before t u past other =
    let same : occurrences t (past ++ u ∷ []) ≡ occurrences t past + 0 =
    occurs_more t u past ∙ ap (λ b. occurrences t past + cond b 1 0) (ne_eqb u t other) in
    omega arith

-- a test of the numbers of a range
all_from : (p : ℕ → Bool) (a n u : ℕ) → list_all p (range_with_len a n) ≡ true → a ≤ u → u < a + n → p u ≡ true
all_from p a zero u all low high = absurd (omega arith)
all_from p a (suc n) u all low high =
    step (a == u) refl (λ above. all_from p (a + 1) n u (and_parts (p a) _ all).1 above (omega arith))
  where
    step : (b : Bool) → (a == u) ≡ b → (a + 1 ≤ u → p u ≡ true) → p u ≡ true
    step true e on = ap p (sym (eqb-true a u e)) ∙ (and_parts (p a) _ all).0
    step false e on = on (further (nat_lt a u) refl)
      where
        further : (b : Bool) → nat_lt a u ≡ b → a + 1 ≤ u
        further true below =
            let is = ltb-true a u below in
            omega arith
        further false at =
            let is = ltb-false a u at in
            absurd (eqb-false a u e (omega arith))

pub all_below : (p : ℕ → Bool) (n u : ℕ) → list_all p (range_with_len 0 n) ≡ true → u < n → p u ≡ true
all_below p n u all low = all_from p 0 n u all (omega arith) (omega arith)

all_range_from : (p : ℕ → Bool) (a n : ℕ) → ((u : ℕ) → a ≤ u → u < a + n → p u ≡ true) → list_all p (range_with_len a n) ≡ true
all_range_from p a zero each = refl
all_range_from p a (suc n) each =
    and_from _ _ (each a (omega arith) (omega arith))
    (all_range_from p (a + 1) n (λ u low high. each u (omega arith) (omega arith)))

pub all_range : (p : ℕ → Bool) (n : ℕ) → ((u : ℕ) → u < n → p u ≡ true) → list_all p (range_with_len 0 n) ≡ true
all_range p n each = all_range_from p 0 n (λ u low high. each u (omega arith))

-- a number that passes a test, or there is none below n
find_below : (p : ℕ → Bool) (n : ℕ) → ((t : ℕ) × (t < n) × (p t ≡ true)) ⊎ ((t : ℕ) → t < n → p t ≡ false)
find_below p zero = inr (λ t low. absurd (omega arith))
find_below p (suc n) = step (p n) refl (find_below p n)
  where
    last : p n ≡ false → ((t : ℕ) → t < n → p t ≡ false) → (t : ℕ) → t < suc n → p t ≡ false
    last e none t low = pick (nat_lt t n) refl
      where
        pick : (b : Bool) → nat_lt t n ≡ b → p t ≡ false
        pick true below = none t (ltb-true t n below)
        pick false at =
            let high = ltb-false t n at in
            let same : t ≡ n = omega arith in
            ap p same ∙ e

    step : (b : Bool) → p n ≡ b → ((t : ℕ) × (t < n) × (p t ≡ true)) ⊎ ((t : ℕ) → t < n → p t ≡ false)
        → ((t : ℕ) × (t < suc n) × (p t ≡ true)) ⊎ ((t : ℕ) → t < suc n → p t ≡ false)
    step true e found = inl (n, omega arith, e)
    step false e (inl found) =
        let low = found.1 in
        inl (found.0, omega arith, found.2)
    step false e (inr none) = inr (last e none)

-- what the group holds that a task is within after the past
abbrev pub hold_of : Plan → List ℕ → ℕ → Option Hold
hold_of plan past t = hold_at (occurrences t past) (task_groups plan t)

-- No task made more calls than it has, and no two tasks are within groups that hold something in common.
pub record Good (plan : Plan) (past : List ℕ) : Type 0 where
  pub few : (t : ℕ) → occurrences t past ≤ length (task_calls plan t)
  pub apart : (t u : ℕ) → t < plan.sizes.tasks → u < plan.sizes.tasks → (t ≡ u → ⊥) → (h k : Hold) → hold_of plan past t ≡ Some h
      → hold_of plan past u ≡ Some k → clash h k ≡ false

-- nothing was done before the first call
pub good_first : (plan : Plan) → Good plan []
good_first plan = record {
  few = λ t. omega arith;
  apart = λ t u low high other h k at there. absurd (none h (sym at ∙ none_at_first (task_groups plan t)));
}
  where
    none : (h : Hold) → Some h ≡ None → ⊥
    none h e = search rules

-- a call that may come is kept off by no other task
kept_off_by_none : (plan : Plan) (past : List ℕ) (t : ℕ) (c : Call) (u : ℕ) → may_come plan past t (Some c) ≡ true
    → u < plan.sizes.tasks → (u ≡ t → ⊥) → keeps_off plan past (touch_of t c) u ≡ false
kept_off_by_none plan past t c u may low other =
    step (u == t) (keeps_off plan past (touch_of t c) u) (ne_eqb u t other)
    (all_below (λ t2. (t2 == t) || not (keeps_off plan past (touch_of t c) t2)) plan.sizes.tasks u may low)
  where
    step : (a b : Bool) → a ≡ false → (a || not b) ≡ true → b ≡ false
    step true b e h = absurd (true≢false e)
    step false true e h = absurd (false≢true h)
    step false false e h = refl

-- the converse
comes_if_free : (plan : Plan) (past : List ℕ) (t : ℕ) (c : Call)
    → ((u : ℕ) → u < plan.sizes.tasks → (u ≡ t → ⊥) → keeps_off plan past (touch_of t c) u ≡ false)
    → may_come plan past t (Some c) ≡ true
comes_if_free plan past t c free =
    all_range (λ u. (u == t) || not (keeps_off plan past (touch_of t c) u)) plan.sizes.tasks
    (λ u low. step (u == t) refl (keeps_off plan past (touch_of t c) u) (free u low))
  where
    step : {u : ℕ} (a : Bool) → (u == t) ≡ a → (b : Bool) → ((u ≡ t → ⊥) → b ≡ false) → (a || not b) ≡ true
    step true e b off = refl
    step {u} false e b off = ap not (off (eqb-false u t e))

-- what keeps a call off, by the hold that a task is within
pub off_by_hold : (plan : Plan) → IsPlan plan → (past : List ℕ) (touch : Touch) (u : ℕ)
    → keeps_off plan past touch u ≡ meets_some touch (hold_of plan past u)
off_by_hold plan ok past touch u = any_as_hold (task_calls plan u) (task_groups plan u) (occurrences u past) touch (ok.groups u)

-- a call inside a group that may come touches nothing that another task's group holds
apart_from_call : (plan : Plan) → IsPlan plan → (past : List ℕ) (t : ℕ) (c : Call) (u : ℕ) (h k : Hold)
    → may_come plan past t (Some c) ≡ true → u < plan.sizes.tasks → (u ≡ t → ⊥) → inside h (slots_of c) ≡ true
    → hold_of plan past u ≡ Some k → clash h k ≡ false
apart_from_call plan ok past t c u h k may low other in_h at =
    sym (meets_inside h k t (touches_info c) (slots_of c) in_h) ∙
    (ap (meets_some (touch_of t c)) (sym at) ∙
    (sym (off_by_hold plan ok past (touch_of t c) u) ∙ kept_off_by_none plan past t c u may low other))

-- after a call of its own, and after one of another task
hold_again : (plan : Plan) (past : List ℕ) (t : ℕ)
    → hold_of plan (past ++ t ∷ []) t ≡ hold_at (occurrences t past + 1) (task_groups plan t)
hold_again plan past t = ap (λ n. hold_at n (task_groups plan t)) (occurs_again t past)

hold_as_before : (plan : Plan) (past : List ℕ) (t u : ℕ) → (t ≡ u → ⊥) → hold_of plan (past ++ t ∷ []) u ≡ hold_of plan past u
hold_as_before plan past t u other = ap (λ n. hold_at n (task_groups plan u)) (occurs_as_before u t past other)

-- a call that may come leaves what is good good
pub good_more : (plan : Plan) → IsPlan plan → (past : List ℕ) (t : ℕ) (c : Call) → Good plan past
    → slice_get (task_calls plan t) (occurrences t past) ≡ Some c → may_come plan past t (Some c) ≡ true
    → Good plan (past ++ t ∷ [])
good_more plan ok past t c good at may = record {
  few = λ u. few u (t == u) refl;
  apart = λ u v low high other h k held there. apart u v low high other h k held there (t == u) refl (t == v) refl;
}
  where
    few : (u : ℕ) (b : Bool) → (t == u) ≡ b → occurrences u (past ++ t ∷ []) ≤ length (task_calls plan u)
    few u true e =
        let same = eqb-true t u e in
        subst (λ u. occurrences u (past ++ t ∷ []) ≤ length (task_calls plan u)) same
        (let more = occurs_again t past in
        let within = slice_get_within (task_calls plan t) (occurrences t past) c at in
        omega arith)
    few u false e =
        let same = occurs_as_before u t past (eqb-false t u e) in
        let low = good.few u in
        omega arith

    begun : (u : ℕ) (h : Hold) → t ≡ u → hold_of plan (past ++ t ∷ []) u ≡ Some h → inside h (slots_of c) ≡ true
    begun u h same held =
        let held_t : hold_of plan (past ++ t ∷ []) t ≡ Some h = ap (hold_of plan (past ++ t ∷ [])) same ∙ held in
        last_inside (task_calls plan t) (task_groups plan t) (occurrences t past) h c (ok.groups t)
        (sym (hold_again plan past t) ∙ held_t) at

    apart : (u v : ℕ) → u < plan.sizes.tasks → v < plan.sizes.tasks → (u ≡ v → ⊥) → (h k : Hold)
        → hold_of plan (past ++ t ∷ []) u ≡ Some h → hold_of plan (past ++ t ∷ []) v ≡ Some k
        → (a : Bool) → (t == u) ≡ a → (b : Bool) → (t == v) ≡ b → clash h k ≡ false
    apart u v low high other h k held there true e true d = absurd (other (sym (eqb-true t u e) ∙ eqb-true t v d))
    apart u v low high other h k held there true e false d =
        apart_from_call plan ok past t c v h k may high (λ same. eqb-false t v d (sym same)) (begun u h (eqb-true t u e) held)
        (sym (hold_as_before plan past t v (eqb-false t v d)) ∙ there)
    apart u v low high other h k held there false e true d =
        clash_sym h k ∙
        apart_from_call plan ok past t c u k h may low (λ same. eqb-false t u e (sym same)) (begun v k (eqb-true t v d) there)
        (sym (hold_as_before plan past t u (eqb-false t u e)) ∙ held)
    apart u v low high other h k held there false e false d =
        good.apart u v low high other h k (sym (hold_as_before plan past t u (eqb-false t u e)) ∙ held)
        (sym (hold_as_before plan past t v (eqb-false t v d)) ∙ there)

-- numbers that keep the groups leave what is good good
pub good_after : (plan : Plan) → IsPlan plan → (numbers past : List ℕ) → Good plan past → keeps_groups plan past numbers ≡ true
    → Good plan (past ++ numbers)
good_after plan ok [] past good keeps = subst (Good plan) (sym (append-nil past)) good
good_after plan ok (t ∷ ts) past good keeps =
    subst (Good plan) (append_assoc past (t ∷ []) ts)
    (good_after plan ok ts (past ++ t ∷ [])
    (step (slice_get (task_calls plan t) (occurrences t past)) refl
    (and_parts (may_come plan past t (slice_get (task_calls plan t) (occurrences t past))) _ keeps).0)
    (and_parts (may_come plan past t (slice_get (task_calls plan t) (occurrences t past))) _ keeps).1)
  where
    step : (o : Option Call) → slice_get (task_calls plan t) (occurrences t past) ≡ o → may_come plan past t o ≡ true
        → Good plan (past ++ t ∷ [])
    step None e may = absurd (false≢true may)
    step (Some c) e may = good_more plan ok past t c good e may

-- how many calls the tasks below n have left
abbrev left : Plan → List ℕ → ℕ → ℕ
left plan past zero = 0
left plan past (suc n) = (length (task_calls plan n) - occurrences n past) + left plan past n

left_as_before : (plan : Plan) (past : List ℕ) (t n : ℕ) → n ≤ t → left plan (past ++ t ∷ []) n ≡ left plan past n
left_as_before plan past t zero low = refl
left_as_before plan past t (suc n) low =
    let same = occurs_as_before n t past (λ e. omega (arith, e)) in
    ap (λ k. (length (task_calls plan n) - k) + left plan (past ++ t ∷ []) n) same ∙
    ap (λ k. (length (task_calls plan n) - occurrences n past) + k) (left_as_before plan past t n (omega arith))

-- a call of one of them leaves one less
left_falls : (plan : Plan) (past : List ℕ) (t n : ℕ) → t < n → occurrences t past < length (task_calls plan t)
    → left plan (past ++ t ∷ []) n + 1 ≡ left plan past n
left_falls plan past t zero low more = absurd (omega arith)
left_falls plan past t (suc n) low more = step (t == n) refl (λ below. left_falls plan past t n below more)
  where
    at_last : t ≡ n → ((length (task_calls plan n) - occurrences n (past ++ t ∷ [])) + left plan (past ++ t ∷ []) n) + 1 ≡
        (length (task_calls plan n) - occurrences n past) + left plan past n
    at_last same =
        subst (λ n. ((length (task_calls plan n) - occurrences n (past ++ t ∷ [])) + left plan (past ++ t ∷ []) n) + 1
        ≡ (length (task_calls plan n) - occurrences n past) + left plan past n) same
        (let again = occurs_again t past in
        let others = left_as_before plan past t t (omega arith) in
        omega arith)

    below : (b : Bool) → nat_lt t n ≡ b → (t ≡ n → ⊥) → t < n
    below true is other = ltb-true t n is
    below false is other =
        let high = ltb-false t n is in
        absurd (other (omega arith))

    step : (b : Bool) → (t == n) ≡ b → (t < n → left plan (past ++ t ∷ []) n + 1 ≡ left plan past n)
        → ((length (task_calls plan n) - occurrences n (past ++ t ∷ [])) + left plan (past ++ t ∷ []) n) + 1
        ≡ (length (task_calls plan n) - occurrences n past) + left plan past n
    step true e on = at_last (eqb-true t n e)
    step false e on =
        let same = occurs_as_before n t past (eqb-false t n e) in
        let falls = on (below (nat_lt t n) refl (eqb-false t n e)) in
        omega arith

-- a task whose next call may come
record Next (plan : Plan) (past : List ℕ) : Type 0 where
  pub task : ℕ
  pub low : task < plan.sizes.tasks
  pub call : Call
  pub is : slice_get (task_calls plan task) (occurrences task past) ≡ Some call
  pub may : may_come plan past task (Some call) ≡ true

-- the next call of a task that has one left
call_left : (plan : Plan) (past : List ℕ) (t : ℕ) → occurrences t past < length (task_calls plan t)
    → (c : Call) × (slice_get (task_calls plan t) (occurrences t past) ≡ Some c)
call_left plan past t low = got (task_calls plan t) (occurrences t past) low
  where
    got : (calls : List Call) (i : ℕ) → i < length calls → (c : Call) × (slice_get calls i ≡ Some c)
    got [] i low = absurd (omega arith)
    got (c ∷ cs) zero low = (c, refl)
    got (c ∷ cs) (suc i) low = got cs i (omega arith)

-- a task within a group may make its next call
next_within : (plan : Plan) → IsPlan plan → (past : List ℕ) (t : ℕ) (h : Hold) → Good plan past → t < plan.sizes.tasks
    → hold_of plan past t ≡ Some h → Next plan past
next_within plan ok past t h good low at =
    let next =
    call_left plan past t (more_within (task_calls plan t) (task_groups plan t) (occurrences t past) h (ok.groups t) at) in
    let in_h = next_inside (task_calls plan t) (task_groups plan t) (occurrences t past) h next.0 (ok.groups t) at next.1 in
    record {
      task = t;
      low = low;
      call = next.0;
      is = next.1;
      may = comes_if_free plan past t next.0
          (λ u high other. off_by_hold plan ok past (touch_of t next.0) u ∙
          step next.0 in_h u high other (hold_of plan past u) refl);
    }
  where
    step : (c : Call) → inside h (slots_of c) ≡ true → (u : ℕ) → u < plan.sizes.tasks → (u ≡ t → ⊥) → (o : Option Hold)
        → hold_of plan past u ≡ o → meets_some (touch_of t c) o ≡ false
    step c in_h u high other None e = refl
    step c in_h u high other (Some k) e =
        meets_inside h k t (touches_info c) (slots_of c) in_h ∙ good.apart t u low high (λ same. other (sym same)) h k at e

abbrev is_held_at : Option Hold → Bool
is_held_at None = false
is_held_at (Some h) = true

-- while no task is within a group, each may make its next call
next_free : (plan : Plan) → IsPlan plan → (past : List ℕ) (t : ℕ) → t < plan.sizes.tasks
    → occurrences t past < length (task_calls plan t)
    → ((u : ℕ) → u < plan.sizes.tasks → is_held_at (hold_of plan past u) ≡ false) → Next plan past
next_free plan ok past t low more none =
    let next = call_left plan past t more in
    record {
      task = t;
      low = low;
      call = next.0;
      is = next.1;
      may = comes_if_free plan past t next.0
          (λ u high other. off_by_hold plan ok past (touch_of t next.0) u ∙
          step (touch_of t next.0) (hold_of plan past u) (none u high));
    }
  where
    step : (touch : Touch) (o : Option Hold) → is_held_at o ≡ false → meets_some touch o ≡ false
    step touch None e = refl
    step touch (Some h) e = absurd (true≢false e)

-- some task may make its next call, or all calls were made
next_or_done : (plan : Plan) → IsPlan plan → (past : List ℕ) → Good plan past → Next plan past ⊎ (is_complete plan past ≡ true)
next_or_done plan ok past good = first (find_below (λ t. is_held_at (hold_of plan past t)) plan.sizes.tasks)
  where
    all_made : ((t : ℕ) → t < plan.sizes.tasks → nat_lt (occurrences t past) (length (task_calls plan t)) ≡ false)
        → is_complete plan past ≡ true
    all_made none = all_range (λ t. occurrences t past == length (task_calls plan t)) plan.sizes.tasks (λ t low.
        let high = ltb-false (occurrences t past) (length (task_calls plan t)) (none t low) in
        let few = good.few t in
        eq-eqb (occurrences t past) (length (task_calls plan t)) (omega arith))

    second : ((u : ℕ) → u < plan.sizes.tasks → is_held_at (hold_of plan past u) ≡ false)
        → ((t : ℕ) × (t < plan.sizes.tasks) × (nat_lt (occurrences t past) (length (task_calls plan t)) ≡ true)) ⊎
        ((t : ℕ) → t < plan.sizes.tasks → nat_lt (occurrences t past) (length (task_calls plan t)) ≡ false)
        → Next plan past ⊎ (is_complete plan past ≡ true)
    second none (inl found) = inl (next_free plan ok past found.0 found.1 (ltb-true _ _ found.2) none)
    second none (inr made) = inr (all_made made)

    held : (t : ℕ) → t < plan.sizes.tasks → (o : Option Hold) → hold_of plan past t ≡ o → is_held_at o ≡ true → Next plan past
    held t low None e is = absurd (false≢true is)
    held t low (Some h) e is = next_within plan ok past t h good low e

    first : ((t : ℕ) × (t < plan.sizes.tasks) × (is_held_at (hold_of plan past t) ≡ true)) ⊎
        ((t : ℕ) → t < plan.sizes.tasks → is_held_at (hold_of plan past t) ≡ false)
        → Next plan past ⊎ (is_complete plan past ≡ true)
    first (inl found) = inl (held found.0 found.1 (hold_of plan past found.0) refl found.2)
    first (inr none) = second none (find_below (λ t. nat_lt (occurrences t past) (length (task_calls plan t))) plan.sizes.tasks)

-- calls that complete a past
record Completed (plan : Plan) (past : List ℕ) : Type 0 where
  pub rest : List ℕ
  pub keeps : keeps_groups plan past rest ≡ true
  pub whole : is_complete plan (past ++ rest) ≡ true

-- The law: a good past can be completed, by so many calls as are left.
completed : (plan : Plan) → IsPlan plan → (count : ℕ) (past : List ℕ) → Good plan past → left plan past plan.sizes.tasks ≡ count
    → Completed plan past
completed plan ok zero past good is = step (next_or_done plan ok past good)
  where
    step : Next plan past ⊎ (is_complete plan past ≡ true) → Completed plan past
    step (inr done) = record { rest = []; keeps = refl; whole = ap (is_complete plan) (append-nil past) ∙ done }
    step (inl next) =
        let falls = left_falls plan past next.task plan.sizes.tasks next.low (slice_get_within _ _ next.call next.is) in
        absurd (omega arith)
completed plan ok (suc count) past good is = step (next_or_done plan ok past good) (completed plan ok count)
  where
    step : Next plan past ⊎ (is_complete plan past ≡ true)
        → ((now : List ℕ) → Good plan now → left plan now plan.sizes.tasks ≡ count → Completed plan now) → Completed plan past
    step (inr done) on = record { rest = []; keeps = refl; whole = ap (is_complete plan) (append-nil past) ∙ done }
    step (inl next) on =
        let falls = left_falls plan past next.task plan.sizes.tasks next.low (slice_get_within _ _ next.call next.is) in
        let more = on (past ++ next.task ∷ []) (good_more plan ok past next.task next.call good next.is next.may) (omega arith) in
        record {
          rest = next.task ∷ more.rest;
          keeps = and_from _ _ (ap (may_come plan past next.task) next.is ∙ next.may) more.keeps;
          whole = ap (is_complete plan) (sym (append_assoc past (next.task ∷ []) more.rest)) ∙ more.whole;
        }

-- a call that may come is there
pub call_there : (plan : Plan) (past : List ℕ) (t : ℕ) (o : Option Call) → may_come plan past t o ≡ true
    → (c : Call) × (o ≡ Some c)
call_there plan past t None h = absurd (false≢true h)
call_there plan past t (Some c) h = (c, refl)

-- numbers that keep the groups after a past, and then more
pub keeps_append : (plan : Plan) (past xs ys : List ℕ)
    → keeps_groups plan past (xs ++ ys) ≡ (keeps_groups plan past xs && keeps_groups plan (past ++ xs) ys)
keeps_append plan past [] ys = ap (λ p. keeps_groups plan p ys) (sym (append-nil past))
keeps_append plan past (t ∷ ts) ys =
    ap (λ b. may_come plan past t (slice_get (task_calls plan t) (occurrences t past)) && b)
    (keeps_append plan (past ++ t ∷ []) ts ys ∙
    ap (λ p. keeps_groups plan (past ++ t ∷ []) ts && keeps_groups plan p ys) (append_assoc past (t ∷ []) ts)) ∙
    sym (and_assoc (may_come plan past t (slice_get (task_calls plan t) (occurrences t past)))
    (keeps_groups plan (past ++ t ∷ []) ts) (keeps_groups plan (past ++ t ∷ ts) ys))

-- Numbers that keep the groups begin a legal order.
pub begins : (plan : Plan) → IsPlan plan → (numbers : List ℕ) → keeps_groups plan [] numbers ≡ true → Begins plan numbers
begins plan ok numbers keeps =
    let more =
    completed plan ok (left plan numbers plan.sizes.tasks) numbers
    (good_after plan ok numbers [] (good_first plan) keeps) refl in
    (more.rest, and_from _ _ (keeps_append plan [] numbers more.rest ∙ and_from _ _ keeps more.keeps) more.whole)
