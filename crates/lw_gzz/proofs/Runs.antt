-- In every run of a plan whose pairs are kept apart they stay together.
use Rattle.std.proofs.Common.{◌≡◌, ℕ, zero, suc, ◌+◌, ◌<◌, ◌≤◌, ◌==◌, Bool, true, false, not, ◌&&◌, ◌||◌, List, [], ◌∷◌, ◌++◌}
use Rattle.std.proofs.Common.{length, All, Contains, slice_index_or, Some, refl, sym, ap, subst, ◌∙◌, ◌⊎◌, inl, inr, ⊎_elim}
use Rattle.std.proofs.Common.{arith}
use Rattle.std.specs.List.{list_all, list_any, slice_get}
use Rattle.std.proofs.lemmas.Bool.{and_parts, both_ways, false_from_ne_true, not-true, eqb-true, eqb-false, cases_lt, ltb-true}
use Rattle.std.proofs.lemmas.Bool.{leb-true, false≢true}
use Rattle.std.proofs.lemmas.List.Elements.{All-contains, All-from_get_or}
use Rattle.std.proofs.lemmas.List.Folds.{list_any_at}
use Rattle.lw_calls.specs.declared.sizes.Sizes.{Sizes}
use Rattle.lw_calls.specs.declared.pair.Pair.{Pair}
use Rattle.lw_calls.specs.declared.call.Call.{Call}
use Rattle.lw_calls.specs.declared.group.Group.{Group}
use Rattle.lw_calls.specs.declared.group.Hold.{Hold}
use Rattle.lw_calls.specs.declared.group.Hold.TheVariants.{All as AllLayers}
use Rattle.lw_calls.specs.Limits.{may_leave_screen}
use Rattle.lw_calls.specs.Plan.{Plan, IsPlan, task_calls, task_groups, group_fits}
use Rattle.lw_calls.specs.Touches.{touch_of, is_arrangement}
use Rattle.lw_calls.specs.Orders.{occurrences, meets, is_open, keeps_off, may_come}
use Rattle.lw_calls.specs.Entries.{entries}
use Rattle.lw_calls.proofs.OrderGroups.{has_order, ends_within, not_begun}
use Rattle.lw_calls.proofs.OrdersComplete.{occurs_again, occurs_as_before, all_below}
use Rattle.lw_machine.specs.Hook.{Hook}
use Rattle.lw_machine.specs.Desk.{Desk}
use Rattle.lw_machine.specs.Step.{after}
use Rattle.lw_machine.specs.History.{machine}
use Rattle.lw_machine.specs.Finals.{opening_desk}
use Rattle.lw_machine.proofs.ReachedSound.{after_sizes}
use Rattle.lw_gzz.specs.Words.{expansion}
use Rattle.lw_gzz.specs.Together.{IsPaired, may_part, after_all, HasPairBox}
use Rattle.lw_gzz.specs.Apart.{IsPairGroup, IsInPairGroup, IsApart, IsOutside, PairsStayTogether}
use Rattle.lw_gzz.proofs.Pairs.{others_keep, paired_swapped}
use Rattle.lw_gzz.proofs.Between.{between, calls_swapped}
use Rattle.lw_gzz.proofs.Groups.{groups_keep}
use Rattle.lw_gzz.proofs.PairGroups.{left, next_left, none_left, fits_at, same_group, open_at, opens_now, first_call, all_arrange}
use Rattle.lw_gzz.proofs.PairGroups.{one_or_disjoint}
use Rattle.lw_gzz.proofs.Starts.{at_each_start}

-- a list of which nothing passes a test has no element that does
any_none : {X : Type 0} (test : X → Bool) (xs : List X) (x : X) → list_any test xs ≡ false → Contains xs x → test x ≡ false
any_none test xs x none has =
    false_from_ne_true (test x) (λ is. both_ways _ none (list_any_at test xs has.0 x has.1 (ap test has.2 ∙ is)))

-- a task that has calls is one of the plan's
task_there : (lists : List (List Call)) (t n : ℕ) → n < length (slice_index_or lists t []) → t < length lists
task_there [] t n h = absurd (omega (arith, h))
task_there (cs ∷ lists) zero n h = omega arith
task_there (cs ∷ lists) (suc t) n h = let low = task_there lists t n h in omega (arith, low)

-- Within a group that stands for a word: what is left of its calls leaves each pair paired, and no other task is within another
-- one.
record IsWithin (plan : Plan) (past : List ℕ) (d : Desk) : Type 0 where
  task : ℕ
  group : Group
  stands : IsPairGroup plan task group
  low : group.first < occurrences task past
  high : occurrences task past ≤ group.last
  arrange : list_all is_arrangement (left (task_calls plan task) group (occurrences task past)) ≡ true
  ends : All (IsPaired (after_all d task (left (task_calls plan task) group (occurrences task past)))) plan.pairs
  others : (u : ℕ) (g : Group) → (u == task) ≡ false → IsPairGroup plan u g → is_open (occurrences u past) g ≡ false

-- Outside each pair is paired.
record IsBeside (plan : Plan) (past : List ℕ) (d : Desk) : Type 0 where
  paired : All (IsPaired d) plan.pairs
  outside : IsOutside plan past

-- what holds after each start of a legal order
record Holds (plan : Plan) (past : List ℕ) (d : Desk) : Type 0 where
  sizes : d.sizes ≡ plan.sizes
  state : IsBeside plan past d ⊎ IsWithin plan past d

module _ (plan : Plan) (ok : IsPlan plan) (apart : IsApart plan) where
  pub fits : (t : ℕ) (g : Group) → Contains (task_groups plan t) g → group_fits (task_calls plan t) g ≡ true
  fits t g has = fits_at (task_calls plan t) (task_groups plan t) g has.0 (ok.groups t) has.1 has.2

  -- a call that begins a group for a word
  starts : (t n : ℕ) (c : Call) (g : Group) (s : IsPairGroup plan t g) → slice_get (task_calls plan t) n ≡ Some c → g.first ≡ n
      → (may_part s.pair c ≡ true) × (meets AllLayers (touch_of t c) ≡ true)
  starts t n c g s at same =
      let order : g.first ≤ g.last = has_order (task_calls plan t) g (fits t g s.stands.listed) in
      let low : n ≤ g.last = omega (arith, order, same) in
      first_call s.pair t s.word c (left (task_calls plan t) g (n + 1))
      (s.stands.spells.1 ∙ (ap (left (task_calls plan t) g) same ∙ next_left (task_calls plan t) g n c at low))

  -- the groups of a task after a call that begins none
  still_outside : (past : List ℕ) (t u : ℕ) (c : Call) (h : Group) (s : IsPairGroup plan u h)
      → slice_get (task_calls plan t) (occurrences t past) ≡ Some c → is_open (occurrences u past) h ≡ false
      → ((r : IsPairGroup plan t h) → may_part r.pair c ≡ true → meets AllLayers (touch_of t c) ≡ true → ⊥)
      → is_open (occurrences u (past ++ t ∷ [])) h ≡ false
  still_outside past t u c h s at before none = step (t == u) refl
    where
      own : (r : IsPairGroup plan t h) → is_open (occurrences t past) h ≡ false → is_open (occurrences t past + 1) h ≡ false
      own r was =
          false_from_ne_true _
          (λ now. let first = starts t (occurrences t past) c h r at (opens_now (occurrences t past) h was now) in
          none r first.0 first.1)

      step : (b : Bool) → (t == u) ≡ b → is_open (occurrences u (past ++ t ∷ [])) h ≡ false
      step true e =
          let P : ℕ → Type 0 = λ v. IsPairGroup plan v h → is_open (occurrences v past) h ≡ false
          → is_open (occurrences v (past ++ t ∷ [])) h ≡ false in
          subst P (eqb-true t u e)
          (λ r was. ap (λ n. is_open n h) (occurs_again t past) ∙ own r was) s before
      step false e = ap (λ n. is_open n h) (occurs_as_before u t past (eqb-false t u e)) ∙ before

  -- a call of a group for a word
  advance : (past : List ℕ) (d : Desk) (t : ℕ) (c : Call) (g : Group) → IsPairGroup plan t g
      → slice_get (task_calls plan t) (occurrences t past) ≡ Some c → g.first ≤ occurrences t past → occurrences t past ≤ g.last
      → list_all is_arrangement (left (task_calls plan t) g (occurrences t past)) ≡ true
      → All (IsPaired (after_all d t (left (task_calls plan t) g (occurrences t past)))) plan.pairs
      → ((u : ℕ) (h : Group) → (u == t) ≡ false → IsPairGroup plan u h → is_open (occurrences u past) h ≡ false)
      → IsBeside plan (past ++ t ∷ []) (after d t c) ⊎ IsWithin plan (past ++ t ∷ []) (after d t c)
  advance past d t c g s at first last arrange ends others =
      ⊎_elim (λ (less : n < g.last). inr (within less)) (λ (more : g.last ≤ n). inl (beside more)) (cases_lt n g.last)
    where
      n : ℕ
      n = occurrences t past

      calls : List Call
      calls = task_calls plan t

      again : occurrences t (past ++ t ∷ []) ≡ n + 1
      again = occurs_again t past

      next : left calls g n ≡ c ∷ left calls g (n + 1)
      next = next_left calls g n c at last

      rest_arrange : list_all is_arrangement (left calls g (n + 1)) ≡ true
      rest_arrange =
          (and_parts (is_arrangement c) _ (subst (λ cs. list_all is_arrangement cs ≡ true) next arrange)).1

      rest_ends : All (IsPaired (after_all (after d t c) t (left calls g (n + 1)))) plan.pairs
      rest_ends = subst (λ cs. All (IsPaired (after_all d t cs)) plan.pairs) next ends

      elsewhere : (u : ℕ) (h : Group) → (u == t) ≡ false → IsPairGroup plan u h
          → is_open (occurrences u (past ++ t ∷ [])) h ≡ false
      elsewhere u h differ r =
          ap (λ k. is_open k h) (occurs_as_before u t past (λ e. eqb-false u t differ (sym e))) ∙ others u h differ r

      within : n < g.last → IsWithin plan (past ++ t ∷ []) (after d t c)
      within less =
          record {
            task = t;
            group = g;
            stands = s;
            low = omega (arith, again, first);
            high = omega (arith, again, less);
            arrange = subst (λ k. list_all is_arrangement (left calls g k) ≡ true) (sym again) rest_arrange;
            ends = subst (λ k. All (IsPaired (after_all (after d t c) t (left calls g k))) plan.pairs) (sym again) rest_ends;
            others = elsewhere;
          }

      over : (h : Group) → g.last ≤ n → IsPairGroup plan t h → is_open (n + 1) h ≡ true → ⊥
      over h more r now =
          let parts = and_parts _ _ now in
          let low : h.first < n + 1 = ltb-true h.first (n + 1) parts.0 in
          let high : n + 1 ≤ h.last = leb-true (n + 1) h.last parts.1 in
          let is : g ≡ h =
          same_group calls (task_groups plan t) g h s.stands.listed.0 r.stands.listed.0 n (ok.groups t) s.stands.listed.1
          s.stands.listed.2 r.stands.listed.1 r.stands.listed.2 first last (omega (arith, low)) (omega (arith, high)) in
          let same : g.last ≡ h.last = ap (λ (x : Group). x.last) is in
          omega (arith, same, more, high)

      outside : g.last ≤ n → (u : ℕ) (h : Group) → IsPairGroup plan u h → (b : Bool) → (u == t) ≡ b
          → is_open (occurrences u (past ++ t ∷ [])) h ≡ false
      outside more u h r true e =
          let here : IsPairGroup plan t h = subst (λ v. IsPairGroup plan v h) (eqb-true u t e) r in
          ap (λ v. is_open (occurrences v (past ++ t ∷ [])) h) (eqb-true u t e) ∙
          (ap (λ k. is_open k h) again ∙ false_from_ne_true _ (over h more here))
      outside more u h r false e = elsewhere u h e r

      beside : g.last ≤ n → IsBeside plan (past ++ t ∷ []) (after d t c)
      beside more =
          record {
            paired = subst (λ cs. All (IsPaired (after_all (after d t c) t cs)) plan.pairs) (none_left calls g n more) rest_ends;
            outside = λ u h r. outside more u h r (u == t) refl;
          }

  -- from version 2 on where there is a pair
  pub leaves : (p : Pair) → Contains plan.pairs p → may_leave_screen plan.sizes.version ≡ true
  leaves p has =
      ⊎_elim (λ (second : plan.sizes.version ≡ 2). ap may_leave_screen second)
      (λ (none : plan.pairs ≡ []). absurd (let low : has.0 < length plan.pairs = has.1 in
      let empty : length plan.pairs ≡ 0 = ap length none in omega (arith, low, empty)))
      apart.version

  -- the calls of a group for a word leave each pair paired
  group_ends : (d : Desk) (t : ℕ) (g : Group) (s : IsPairGroup plan t g) → d.sizes ≡ plan.sizes → All (IsPaired d) plan.pairs
      → All (IsPaired (after_all d t (left (task_calls plan t) g g.first))) plan.pairs
  group_ends d t g s sizes paired =
      subst (λ cs. All (IsPaired (after_all d t cs)) plan.pairs) s.stands.spells.1
      (All-from_get_or (IsPaired (after_all d t (expansion s.pair s.word))) plan.pairs s.pair
      (λ k low. groups_keep d t s.pair (slice_index_or plan.pairs k s.pair) s.word
      (ap (λ (z : Sizes). may_leave_screen z.version) sizes ∙ leaves s.pair s.of_plan)
      (All-contains (λ p. (p.inner == p.outer) ≡ false) plan.pairs s.pair apart.slots s.of_plan) s.stands.spells.0
      (subst (λ (z : Sizes). HasPairBox z s.word) (sym sizes) (apart.boxes t g s.pair s.word s.of_plan s.stands))
      (apart.places t g s.pair s.word s.of_plan s.stands k s.pair low)
      (one_or_disjoint plan.pairs s.pair s.of_plan.0 k apart.disjoint s.of_plan.1 s.of_plan.2 low) (paired k s.pair low)))

  -- a call from outside
  step_beside : (past : List ℕ) (d : Desk) (t : ℕ) (c : Call) → slice_get (task_calls plan t) (occurrences t past) ≡ Some c
      → d.sizes ≡ plan.sizes → IsBeside plan past d
      → IsBeside plan (past ++ t ∷ []) (after d t c) ⊎ IsWithin plan (past ++ t ∷ []) (after d t c)
  step_beside past d t c at sizes h = ⊎_elim free inside (apart.calls t n c at)
    where
      n : ℕ
      n = occurrences t past

      free : All (λ p. may_part p c ≡ false) plan.pairs
          → IsBeside plan (past ++ t ∷ []) (after d t c) ⊎ IsWithin plan (past ++ t ∷ []) (after d t c)
      free spared =
          inl
          (record {
            paired = λ k p low. others_keep d t c _ (spared k p low) (h.paired k p low);
            outside = λ u g s. still_outside past t u c g s at (h.outside u g s)
                (λ r parts meets_all.
                both_ways _ (All-contains (λ p. may_part p c ≡ false) plan.pairs r.pair spared r.of_plan) parts);
          })

      inside : IsInPairGroup plan t n
          → IsBeside plan (past ++ t ∷ []) (after d t c) ⊎ IsWithin plan (past ++ t ∷ []) (after d t c)
      inside i =
          let s = i.pair_group in
          let first : i.group.first ≡ n =
          ⊎_elim (λ (less : i.group.first < n). absurd (both_ways _ (h.outside t i.group s) (open_at n i.group less i.high)))
          (λ (more : n ≤ i.group.first). let low : i.group.first ≤ n = i.low in omega (arith, low, more))
          (cases_lt i.group.first n) in
          advance past d t c i.group s at i.low i.high
          (subst (λ k. list_all is_arrangement (left (task_calls plan t) i.group k) ≡ true) first
          (subst (λ cs. list_all is_arrangement cs ≡ true) s.stands.spells.1 (all_arrange s.pair s.word)))
          (subst (λ k. All (IsPaired (after_all d t (left (task_calls plan t) i.group k))) plan.pairs) first
          (group_ends d t i.group s sizes h.paired))
          (λ u g differ r. h.outside u g r)

  -- the calls of other tasks that come inside a group for a word
  spared_by : (past : List ℕ) (d : Desk) (t : ℕ) (c : Call) (w : IsWithin plan past d) → (w.task == t) ≡ false
      → may_come plan past t (Some c) ≡ true → meets AllLayers (touch_of t c) ≡ false
  spared_by past d t c w differ may =
      let last : w.group.last < length (task_calls plan w.task) =
      ends_within (task_calls plan w.task) w.group (fits w.task w.group w.stands.stands.listed) in
      let there : w.task < length plan.calls = task_there plan.calls w.task w.group.last last in
      let lists : length plan.calls ≡ plan.sizes.tasks = ok.lists in
      let allowed =
      all_below (λ u. (u == t) || not (keeps_off plan past (touch_of t c) u)) plan.sizes.tasks w.task may
      (omega (arith, there, lists)) in
      let off : keeps_off plan past (touch_of t c) w.task ≡ false =
      not-true _ (subst (λ b. (b || not (keeps_off plan past (touch_of t c) w.task)) ≡ true) differ allowed) in
      let none : (is_open (occurrences w.task past) w.group && meets w.group.hold (touch_of t c)) ≡ false =
      any_none _ (task_groups plan w.task) w.group off w.stands.stands.listed in
      subst (λ (h : Hold). meets h (touch_of t c) ≡ false) w.stands.stands.holds
      (subst (λ b. (b && meets w.group.hold (touch_of t c)) ≡ false)
      (open_at (occurrences w.task past) w.group w.low w.high) none)

  -- a call from inside
  step_within : (past : List ℕ) (d : Desk) (t : ℕ) (c : Call) → slice_get (task_calls plan t) (occurrences t past) ≡ Some c
      → may_come plan past t (Some c) ≡ true → IsWithin plan past d
      → IsBeside plan (past ++ t ∷ []) (after d t c) ⊎ IsWithin plan (past ++ t ∷ []) (after d t c)
  step_within past d t c at may w = step (w.task == t) refl
    where
      n : ℕ
      n = occurrences w.task past

      calls : List Call
      calls = task_calls plan w.task

      own : slice_get calls n ≡ Some c → IsBeside plan (past ++ w.task ∷ []) (after d w.task c)
          ⊎ IsWithin plan (past ++ w.task ∷ []) (after d w.task c)
      own here =
          let low : w.group.first < n = w.low in
          advance past d w.task c w.group w.stands here (omega (arith, low)) w.high w.arrange w.ends w.others

      other : (w.task == t) ≡ false → IsWithin plan (past ++ t ∷ []) (after d t c)
      other differ =
          let spared : meets AllLayers (touch_of t c) ≡ false = spared_by past d t c w differ may in
          let changed = between d t c spared in
          let same : occurrences w.task (past ++ t ∷ []) ≡ n =
          occurs_as_before w.task t past (λ e. eqb-false w.task t differ (sym e)) in
          let now : after_all (after d t c) w.task (left calls w.group n)
          ≡ record (after_all d w.task (left calls w.group n)) { registers = changed.0 } =
          ap (λ e. after_all e w.task (left calls w.group n)) changed.1 ∙
          calls_swapped d w.task changed.0 (left calls w.group n) w.arrange in
          let ends : All (IsPaired (after_all (after d t c) w.task (left calls w.group n))) plan.pairs =
          λ k p low. subst (λ a. IsPaired a (slice_index_or plan.pairs k p)) (sym now)
          (paired_swapped (after_all d w.task (left calls w.group n)) changed.0 _ (w.ends k p low)) in
          record {
            task = w.task;
            group = w.group;
            stands = w.stands;
            low = subst (λ k. w.group.first < k) (sym same) w.low;
            high = subst (λ k. k ≤ w.group.last) (sym same) w.high;
            arrange = subst (λ k. list_all is_arrangement (left calls w.group k) ≡ true) (sym same) w.arrange;
            ends = subst (λ k. All (IsPaired (after_all (after d t c) w.task (left calls w.group k))) plan.pairs) (sym same) ends;
            others = λ u g apart_from s. still_outside past t u c g s at (w.others u g apart_from s)
                (λ r parts meets_all. both_ways _ spared meets_all);
          }

      step : (b : Bool) → (w.task == t) ≡ b
          → IsBeside plan (past ++ t ∷ []) (after d t c) ⊎ IsWithin plan (past ++ t ∷ []) (after d t c)
      step true e =
          let P : ℕ → Type 0 = λ u. slice_get (task_calls plan u) (occurrences u past) ≡ Some c
          → IsBeside plan (past ++ u ∷ []) (after d u c) ⊎ IsWithin plan (past ++ u ∷ []) (after d u c) in
          subst P (eqb-true w.task t e) own at
      step false e = inr (other e)

  -- each call that may come
  holds_on : (past : List ℕ) (d : Desk) (t : ℕ) (c : Call) → slice_get (task_calls plan t) (occurrences t past) ≡ Some c
      → may_come plan past t (Some c) ≡ true → Holds plan past d → Holds plan (past ++ t ∷ []) (after d t c)
  holds_on past d t c at may h =
      record {
        sizes = after_sizes d t c ∙ h.sizes;
        state = ⊎_elim (step_beside past d t c at h.sizes) (step_within past d t c at may) h.state;
      }

-- before the first call
opening_holds : (plan : Plan) (hooks : List Hook) → Holds plan [] (opening_desk plan hooks)
opening_holds plan hooks =
    record {
      sizes = refl;
      state = inl
          (record {
            paired = λ k p low. record {
              mates = record {
                lives = refl;
                opens = λ _. refl;
                outer_plain = refl;
                inner_plain = refl;
                outer_own = refl;
                inner_own = refl;
                framed = refl;
                frameless = refl;
                owner = λ _. refl;
              };
              together = λ live. absurd (false≢true live);
            };
            outside = λ task g s. not_begun 0 g (omega arith);
          });
    }

pub together : PairsStayTogether
together plan hooks past ok apart begins outside =
    let d : Desk = machine (opening_desk plan hooks) (entries plan [] past) in
    let h : Holds plan past d =
    at_each_start plan (Holds plan) (holds_on plan ok apart) hooks past (opening_holds plan hooks) begins in
    ⊎_elim (λ (b : IsBeside plan past d). b.paired)
    (λ (w : IsWithin plan past d).
    absurd (both_ways _ (outside w.task w.group w.stands) (open_at (occurrences w.task past) w.group w.low w.high))) h.state
