-- The groups that are ahead of a task: what holds before the next one's first call, in it, after its last call, and after the last one.
use Rattle.std.proofs.Common.{◌≡◌, ◌⊎◌, ℕ, suc, ◌+◌, ◌-◌, ◌<◌, ◌≤◌, true, false, ◌&&◌, nat_lt, nat_le, List, [], ◌∷◌, ◌++◌, length, refl, ap, sym, subst, ◌∙◌, ⊎_elim, inl, inr, arith, append_assoc, drop, drop-cons, length-drop, length-take-le}
use Rattle.std.specs.Prelude.{All, IsTrue}
use Rattle.std.specs.List.{list_all, slice_index_or}
use Rattle.std.proofs.lemmas.Bool.{and_parts, or_cases, eqb-true, false≢true}
use Rattle.std.proofs.lemmas.Bool.Decides.{nat_tests}
use Rattle.std.proofs.lemmas.List.Elements.{All-nil, All-cons, All-head, All-append, All-weaker}
use Rattle.lw_calls.specs.declared.call.Call.{Call}
use Rattle.lw_calls.specs.declared.group.Group.{Group}
use Rattle.lw_calls.specs.declared.group.Hold.{Hold}
use Rattle.lw_calls.specs.declared.group.Hold.TheVariants.{Slot as OneSlot, All as AllLayers}
use Rattle.lw_calls.specs.Limits.{call_fits}
use Rattle.lw_calls.specs.Orders.{is_open}
use Rattle.lw_calls.specs.Plan.{Plan, IsPlan, task_calls, task_groups, is_one, is_all, begins_update, may_be_locked, are_locked, end_an_update, are_an_update, hold_allows, group_calls, group_fits, groups_fit}
use Rattle.lw_calls.specs.declared.touch.CallClass.{CallClass}
use Rattle.lw_calls.specs.declared.touch.CallClass.TheVariants.{OnRegisters, OnInfo, OnLayer, OnLayers, OnAll}
use Rattle.lw_calls.specs.Touches.{class_of, slots_in, slots_of}
use Rattle.lw_calls.proofs.LimitLaws.{calls_at_most}
use Rattle.lw_calls.proofs.OrderGroups.{head_fits, rest_fits, has_order, ends_within, not_begun, is_over}
use Rattle.lw_locks.specs.Promised.{class_under}
use Rattle.lw_runs.specs.Made.{IsFree, IsAhead, IsNext}

-- the place of a group
pub group_place : (calls : List Call) (g : Group) → group_fits calls g ≡ true → (g.first ≤ g.last) × (g.last < length calls)
group_place calls g h = (has_order calls g h, ends_within calls g h)

rising : (calls : List Call) (g : Group) (gs : List Group) → groups_fit calls (g ∷ gs) ≡ true → All (λ k. g.last < k.first) gs
rising calls g [] h = All-nil (λ k. g.last < k.first)
rising calls g (k ∷ ks) h =
    let parts = and_parts (group_fits calls g && nat_lt g.last k.first) (groups_fit calls (k ∷ ks)) h in
    let first = (and_parts (group_fits calls g) (nat_lt g.last k.first) parts.0).1 in
    let low : g.last < k.first = grind (arith, nat_tests) in
    let own = (group_place calls k (head_fits calls k ks parts.1)).0 in
    All-cons (λ j. g.last < j.first) k ks low (All-weaker (λ j. k.last < j.first) (λ j. g.last < j.first) (λ j later. omega (arith, later, low, own)) ks (rising calls k ks parts.1))

pub ahead_first : (calls : List Call) (groups : List Group) → groups_fit calls groups ≡ true → IsAhead calls groups groups 0
ahead_first calls groups fit = record {
  past = [];
  parts = refl;
  over = All-nil (λ g. g.last < 0);
  ahead = λ k d below. omega arith;
  fit = fit;
  within = omega arith;
}

-- the next group is so still when the task came to it
pub next_there : (calls : List Call) (groups : List Group) (made there : ℕ) (g : Group) → IsNext calls groups made g → there ≡ g.first → IsNext calls groups there g
next_there calls groups made there g n at =
    let ahead = n.ahead in
    record {
      fits = n.fits;
      ahead = omega (arith, at);
      free = λ k low high. n.free k (omega (arith, at, ahead, low)) high;
      alone = λ k low high. n.alone k (omega (arith, at, ahead, low)) high;
    }

pub ahead_next : (calls : List Call) (groups left : List Group) (made : ℕ) (g : Group) (gs : List Group) → left ≡ g ∷ gs → IsAhead calls groups left made → IsNext calls groups made g
ahead_next calls groups left made g gs begins a =
    let fit : groups_fit calls (g ∷ gs) ≡ true = subst (λ l. groups_fit calls l ≡ true) begins a.fit in
    let ahead : All (λ k. made ≤ k.first) (g ∷ gs) = subst (All (λ k. made ≤ k.first)) begins a.ahead in
    let parts : groups ≡ a.past ++ (g ∷ gs) = a.parts ∙ ap (λ l. a.past ++ l) begins in
    let own = head_fits calls g gs fit in
    let order = group_place calls g own in
    let later = rising calls g gs fit in
    record {
      fits = own;
      ahead = All-head (λ k. made ≤ k.first) g gs ahead;
      free = λ n above below.
          let P : Group → Type 0 = λ k. is_open n k ≡ false in
          subst (All P) (sym parts)
          (All-append P a.past (g ∷ gs) (All-weaker (λ k. k.last < made) P (λ k h. is_over n k (omega (arith, h, above))) a.past a.over)
          (All-cons P g gs (not_begun n g below) (All-weaker (λ k. g.last < k.first) P (λ k h. not_begun n k (omega (arith, h, below, order.0))) gs later)));
      alone = λ n above below.
          let P : Group → Type 0 = λ k. (is_open n k ≡ false) ⊎ (k ≡ g) in
          subst (All P) (sym parts)
          (All-append P a.past (g ∷ gs) (All-weaker (λ k. k.last < made) P (λ k h. inl (is_over n k (omega (arith, h, above)))) a.past a.over)
          (All-cons P g gs (inr refl) (All-weaker (λ k. g.last < k.first) P (λ k h. inl (not_begun n k (omega (arith, h, below)))) gs later)));
    }

pub ahead_after : (calls : List Call) (groups left : List Group) (made : ℕ) (g : Group) (gs : List Group) → left ≡ g ∷ gs → IsAhead calls groups left made → IsAhead calls groups gs (g.last + 1)
ahead_after calls groups left made g gs begins a =
    let fit : groups_fit calls (g ∷ gs) ≡ true = subst (λ l. groups_fit calls l ≡ true) begins a.fit in
    let first : made ≤ g.first = All-head (λ k. made ≤ k.first) g gs (subst (All (λ k. made ≤ k.first)) begins a.ahead) in
    let order = group_place calls g (head_fits calls g gs fit) in
    record {
      past = a.past ++ g ∷ [];
      parts = a.parts ∙ (ap (λ l. a.past ++ l) begins ∙ sym (append_assoc a.past (g ∷ []) gs));
      over = All-append (λ k. k.last < g.last + 1) a.past (g ∷ []) (All-weaker (λ k. k.last < made) (λ k. k.last < g.last + 1) (λ k h. omega (arith, h, first, order.0)) a.past a.over) (All-cons (λ k. k.last < g.last + 1) g [] (omega arith) (All-nil (λ k. k.last < g.last + 1)));
      ahead = All-weaker (λ k. g.last < k.first) (λ k. g.last + 1 ≤ k.first) (λ k h. omega (arith, h)) gs (rising calls g gs fit);
      fit = rest_fits calls g gs fit;
      within = (let low = order.1 in omega (arith, low));
    }

-- after all calls
pub all_over : (calls : List Call) (groups : List Group) → groups_fit calls groups ≡ true → IsFree groups (length calls)
all_over calls [] fit = All-nil (λ g. is_open (length calls) g ≡ false)
all_over calls (g ∷ gs) fit = All-cons (λ k. is_open (length calls) k ≡ false) g gs (is_over (length calls) g (group_place calls g (head_fits calls g gs fit)).1) (all_over calls gs (rest_fits calls g gs fit))

-- the class of the calls that may stand in a group
one_class : (s : ℕ) (k : CallClass) → is_one s (slots_in k) ≡ true → k ≡ OnLayer s
one_class s OnRegisters h = absurd (false≢true h)
one_class s OnInfo h = absurd (false≢true h)
one_class s (OnLayer a) h = ap OnLayer (eqb-true a s h)
one_class s (OnLayers a b) h = absurd (false≢true h)
one_class s OnAll h = absurd (false≢true h)

all_class : (k : CallClass) → is_all (slots_in k) ≡ true → k ≡ OnAll
all_class OnRegisters h = absurd (false≢true h)
all_class OnInfo h = absurd (false≢true h)
all_class (OnLayer a) h = absurd (false≢true h)
all_class (OnLayers a b) h = absurd (false≢true h)
all_class OnAll h = refl

locked_class : (s : ℕ) (call : Call) → may_be_locked s call ≡ true → class_of call ≡ OnLayer s
locked_class s call h = one_class s (class_of call) (and_parts (is_one s (slots_of call)) _ h).0

all_locked : (s : ℕ) (calls : List Call) → list_all (may_be_locked s) calls ≡ true → All (λ c. class_of c ≡ OnLayer s) calls
all_locked s [] h = All-nil (λ c. class_of c ≡ OnLayer s)
all_locked s (c ∷ cs) h =
    let parts = and_parts (may_be_locked s c) _ h in
    All-cons (λ c. class_of c ≡ OnLayer s) c cs (locked_class s c parts.0) (all_locked s cs parts.1)

locked : (s : ℕ) (calls : List Call) → are_locked s calls ≡ true → All (λ c. class_of c ≡ OnLayer s) calls
locked s [] h = absurd (false≢true h)
locked s (c ∷ cs) h = all_locked s (c ∷ cs) h

to_end : (s : ℕ) (calls : List Call) → end_an_update s calls ≡ true → All (λ c. class_of c ≡ OnLayer s) calls
to_end s [] h = absurd (false≢true h)
to_end s (c ∷ []) h = All-cons (λ c. class_of c ≡ OnLayer s) c [] (one_class s (class_of c) (and_parts (is_one s (slots_of c)) _ h).0) (All-nil (λ c. class_of c ≡ OnLayer s))
to_end s (c ∷ d ∷ cs) h =
    let parts = and_parts (may_be_locked s c) _ h in
    All-cons (λ c. class_of c ≡ OnLayer s) c (d ∷ cs) (locked_class s c parts.0) (to_end s (d ∷ cs) parts.1)

an_update : (s : ℕ) (calls : List Call) → are_an_update s calls ≡ true → All (λ c. class_of c ≡ OnLayer s) calls
an_update s [] h = absurd (false≢true h)
an_update s (c ∷ cs) h =
    let parts = and_parts (is_one s (slots_of c) && begins_update c) _ h in
    All-cons (λ c. class_of c ≡ OnLayer s) c cs (one_class s (class_of c) (and_parts (is_one s (slots_of c)) _ parts.0).0) (to_end s cs parts.1)

all_on_all : (calls : List Call) → list_all (λ c. is_all (slots_of c)) calls ≡ true → All (λ c. class_of c ≡ OnAll) calls
all_on_all [] h = All-nil (λ c. class_of c ≡ OnAll)
all_on_all (c ∷ cs) h =
    let parts = and_parts (is_all (slots_of c)) _ h in
    All-cons (λ c. class_of c ≡ OnAll) c cs (all_class (class_of c) parts.0) (all_on_all cs parts.1)

stand_class : (hold : Hold) (calls : List Call) → hold_allows hold calls ≡ true → All (λ c. class_of c ≡ class_under hold) calls
stand_class (OneSlot s) calls h = ⊎_elim (λ a. locked s calls a) (λ b. an_update s calls b) (or_cases (are_locked s calls) (are_an_update s calls) h)
stand_class AllLayers calls h = all_on_all calls h

pub group_class : (calls : List Call) (g : Group) → group_fits calls g ≡ true → All (λ c. class_of c ≡ class_under g.hold) (group_calls calls g)
group_class calls g h = stand_class g.hold (group_calls calls g) (and_parts (nat_le g.first g.last && nat_lt g.last (length calls)) _ h).1

pub group_long : (calls : List Call) (g : Group) → group_fits calls g ≡ true → length (group_calls calls g) + g.first ≡ g.last + 1
group_long calls g h =
    let order = group_place calls g h in
    let low = order.0 in
    let high = order.1 in
    let behind = length-drop g.first calls in
    let all = length-take-le ((g.last + 1) - g.first) (drop g.first calls) (omega (arith, behind, high)) in
    omega (arith, all, low)

-- of the calls of a plan's task
pub few_calls : (plan : Plan) (task : ℕ) → IsPlan plan → task < plan.sizes.tasks → length (task_calls plan task) ≤ 16384
few_calls plan task is low =
    let few = is.few task [] (omega (arith, low, is.lists)) in
    let most = calls_at_most plan.sizes.version in
    omega (arith, few, most)

pub calls_fit : (plan : Plan) (task : ℕ) → IsPlan plan → task < plan.sizes.tasks → All (λ c. IsTrue (call_fits plan.sizes c)) (task_calls plan task)
calls_fit plan task is low = is.fit task [] (omega (arith, low, is.lists))

-- in a loop over the groups of a task
module _ (plan : Plan) (task : ℕ) (items : List Group) (i : ℕ) (d : Group) (made : ℕ) (are : items ≡ task_groups plan task) (low : i < length items) (ahead : IsAhead (task_calls plan task) (task_groups plan task) (drop i (task_groups plan task)) made) where
  begins : drop i (task_groups plan task) ≡ slice_index_or items i d ∷ drop (suc i) (task_groups plan task)
  begins = drop-cons (task_groups plan task) i d (subst (λ (gs : List Group). i < length gs) are low) ∙ ap (λ (gs : List Group). slice_index_or gs i d ∷ drop (suc i) (task_groups plan task)) (sym are)

  pub turn_next : (who : ℕ) → who ≡ task → IsNext (task_calls plan who) (task_groups plan who) made (slice_index_or items i d)
  turn_next who same =
      subst (λ t. IsNext (task_calls plan t) (task_groups plan t) made (slice_index_or items i d)) (sym same) (ahead_next (task_calls plan task) (task_groups plan task) _ made (slice_index_or items i d) (drop (suc i) (task_groups plan task)) begins ahead)

  pub turn_after : (many : ℕ) → many ≡ (slice_index_or items i d).last + 1 → IsAhead (task_calls plan task) (task_groups plan task) (drop (i + 1) (task_groups plan task)) many
  turn_after many is =
      let after = ahead_after (task_calls plan task) (task_groups plan task) _ made (slice_index_or items i d) (drop (suc i) (task_groups plan task)) begins ahead in
      let more : suc i ≡ i + 1 = omega arith in
      subst (λ n. IsAhead (task_calls plan task) (task_groups plan task) (drop n (task_groups plan task)) many) more (subst (λ m. IsAhead (task_calls plan task) (task_groups plan task) (drop (suc i) (task_groups plan task)) m) (sym is) after)
