-- What a task is within after so many calls, and which calls stand in its groups.
use Rattle.std.proofs.Common.{◌≡◌, ℕ, zero, suc, ◌+◌, ◌-◌, ◌<◌, ◌≤◌, ◌==◌, Bool, true, false, cond, ◌&&◌, ◌||◌, nat_le, nat_lt}
use Rattle.std.proofs.Common.{if◌then◌else◌, List, [], ◌∷◌, length, take, drop, Option, Some, None, refl, sym, ap, ◌∙◌, rules}
use Rattle.std.proofs.Common.{arith}
use Rattle.std.specs.List.{list_any, list_all, slice_get}
use Rattle.lw_calls.specs.declared.call.Call.{Call}
use Rattle.lw_calls.specs.declared.touch.Slots.{Slots}
use Rattle.lw_calls.specs.declared.touch.Slots.TheVariants.{Nothing, One, Two, All as AllSlots}
use Rattle.lw_calls.specs.declared.touch.Touch.{Touch}
use Rattle.lw_calls.specs.declared.group.Hold.{Hold}
use Rattle.lw_calls.specs.declared.group.Hold.TheVariants.{Slot, All as AllLayers}
use Rattle.lw_calls.specs.declared.group.Group.{Group}
use Rattle.lw_calls.specs.Touches.{slots_of}
use Rattle.lw_calls.specs.Plan.{is_one, is_all, may_be_locked, are_locked, are_an_update, end_an_update, hold_allows, group_calls}
use Rattle.lw_calls.specs.Plan.{group_fits, groups_fit}
use Rattle.lw_calls.specs.Orders.{meets, is_open}
use Rattle.lw_calls.specs.Code.OrderState.{groups_over, progress_at, is_held_by, over_more, progress_more}
use Rattle.std.proofs.lemmas.Bool.{true≢false, false≢true, lt-ltb, le-ltb, lt-leb, ltb-true, ltb-false, leb-true, eqb-true}
use Rattle.std.proofs.lemmas.Bool.{and_parts, and_right}
use Rattle.std.proofs.lemmas.Bool.Decides.{nat_tests}
use Rattle.std.proofs.Math.Bool.{or-false, or-true}

-- what the group holds that a task is within where it made so many calls
abbrev pub hold_at : ℕ → List Group → Option Hold
hold_at made [] = None
hold_at made (g ∷ gs) = if is_open made g then Some g.hold else hold_at made gs

-- there is a hold, and it holds what the call touches
abbrev pub meets_some : Touch → Option Hold → Bool
meets_some touch None = false
meets_some touch (Some h) = meets h touch

-- calls on these slots may stand in a group that holds this
abbrev pub inside : Hold → Slots → Bool
inside (Slot s) slots = is_one s slots
inside AllLayers slots = is_all slots

-- the first of groups that fit does, and so do those after it
pub head_fits : (calls : List Call) (g : Group) (gs : List Group) → groups_fit calls (g ∷ gs) ≡ true → group_fits calls g ≡ true
head_fits calls g [] fit = fit
head_fits calls g (h ∷ gs) fit = (and_parts (group_fits calls g) _ (and_parts _ (groups_fit calls (h ∷ gs)) fit).0).0

pub rest_fits : (calls : List Call) (g : Group) (gs : List Group) → groups_fit calls (g ∷ gs) ≡ true → groups_fit calls gs ≡ true
rest_fits calls g [] fit = refl
rest_fits calls g (h ∷ gs) fit = (and_parts _ (groups_fit calls (h ∷ gs)) fit).1

-- the next group begins after the last call of this one
pub follows_on : (calls : List Call) (g h : Group) (gs : List Group) → groups_fit calls (g ∷ h ∷ gs) ≡ true → g.last < h.first
follows_on calls g h gs fit =
    ltb-true g.last h.first (and_parts (group_fits calls g) _ (and_parts _ (groups_fit calls (h ∷ gs)) fit).0).1

-- a group that fits isn't empty, and ends within its task
pub has_order : (calls : List Call) (g : Group) → group_fits calls g ≡ true → g.first ≤ g.last
has_order calls g fit =
    leb-true g.first g.last (and_parts (nat_le g.first g.last) _ (and_parts _ (hold_allows g.hold (group_calls calls g)) fit).0).0

pub ends_within : (calls : List Call) (g : Group) → group_fits calls g ≡ true → g.last < length calls
ends_within calls g fit =
    ltb-true g.last (length calls)
    (and_parts (nat_le g.first g.last) _ (and_parts _ (hold_allows g.hold (group_calls calls g)) fit).0).1

-- a group isn't open before its first call was made, nor once its last one was
pub not_begun : (made : ℕ) (g : Group) → made ≤ g.first → is_open made g ≡ false
not_begun made g low = ap (λ b. b && nat_le made g.last) (le-ltb g.first made low)

pub is_over : (made : ℕ) (g : Group) → g.last < made → is_open made g ≡ false
is_over made g high = and_right (nat_lt g.first made) (nat_le made g.last) (lt-leb made g.last high)

-- before a task is past a group, it is within none after it
pub none_behind : (calls : List Call) (g : Group) (gs : List Group) (made : ℕ) → groups_fit calls (g ∷ gs) ≡ true → made ≤ g.last
    → hold_at made gs ≡ None
none_behind calls g [] made fit low = refl
none_behind calls g (h ∷ gs) made fit low =
    let behind = follows_on calls g h gs fit in
    let rest = rest_fits calls g (h ∷ gs) fit in
    let ordered = has_order calls h (head_fits calls h gs rest) in
    step (is_open made h) (not_begun made h (omega arith)) (none_behind calls h gs made rest (omega arith))
  where
    step : (b : Bool) → b ≡ false → hold_at made gs ≡ None → cond b (Some h.hold) (hold_at made gs) ≡ None
    step true e none = absurd (true≢false e)
    step false e none = none

-- that some group of a task keeps a call off says that the group that the task is within does
pub any_as_hold : (calls : List Call) (gs : List Group) (made : ℕ) (touch : Touch) → groups_fit calls gs ≡ true
    → list_any (λ g. is_open made g && meets g.hold touch) gs ≡ meets_some touch (hold_at made gs)
any_as_hold calls [] made touch fit = refl
any_as_hold calls (g ∷ gs) made touch fit =
    step (is_open made g) refl (any_as_hold calls gs made touch (rest_fits calls g gs fit))
  where
    step : (b : Bool) → is_open made g ≡ b
        → list_any (λ g. is_open made g && meets g.hold touch) gs ≡ meets_some touch (hold_at made gs)
        → ((b && meets g.hold touch) || list_any (λ g. is_open made g && meets g.hold touch) gs)
        ≡ meets_some touch (cond b (Some g.hold) (hold_at made gs))
    step true e same =
        let late = leb-true made g.last (and_parts (nat_lt g.first made) _ e).1 in
        ap (λ r. meets g.hold touch || r) (same ∙ ap (meets_some touch) (none_behind calls g gs made fit late)) ∙
        or-false (meets g.hold touch)
    step false e same = same

-- after the first element of a list the others are counted from it
next_one : {X : Type 0} (x : X) (xs : List X) (k : ℕ) → slice_get (x ∷ xs) (1 + k) ≡ slice_get xs k
next_one x xs k =
    let e : 1 + k ≡ suc k = omega arith in
    ap (slice_get (x ∷ xs)) e

-- the group at the kept index is the one that the task is within, where it is within one
pub held_as_hold : (calls : List Call) (gs : List Group) (made : ℕ) (touch : Touch) → groups_fit calls gs ≡ true
    → is_held_by made touch (slice_get gs (groups_over made gs)) ≡ meets_some touch (hold_at made gs)
held_as_hold calls [] made touch fit = refl
held_as_hold calls (g ∷ gs) made touch fit =
    step (nat_lt g.last made) refl (held_as_hold calls gs made touch (rest_fits calls g gs fit))
  where
    now : (b : Bool) → (b ≡ false → hold_at made gs ≡ None) → hold_at made gs ≡ None
        → (b && meets g.hold touch) ≡ meets_some touch (cond b (Some g.hold) (hold_at made gs))
    now true e none = refl
    now false e none = sym (ap (meets_some touch) none)

    step : (b : Bool) → nat_lt g.last made ≡ b
        → is_held_by made touch (slice_get gs (groups_over made gs)) ≡ meets_some touch (hold_at made gs)
        → is_held_by made touch (slice_get (g ∷ gs) (cond b (1 + groups_over made gs) 0))
        ≡ meets_some touch (cond (is_open made g) (Some g.hold) (hold_at made gs))
    step true e same =
        ap (is_held_by made touch) (next_one g gs (groups_over made gs)) ∙ same ∙
        ap (λ b. meets_some touch (cond b (Some g.hold) (hold_at made gs))) (sym (is_over made g (ltb-true g.last made e)))
    step false e same =
        now (is_open made g) (λ h. none_behind calls g gs made fit (ltb-false g.last made e))
        (none_behind calls g gs made fit (ltb-false g.last made e))

-- until a task is past a group, none after it is over
none_over : (calls : List Call) (g : Group) (gs : List Group) (made : ℕ) → groups_fit calls (g ∷ gs) ≡ true → made ≤ g.last + 1
    → groups_over made gs ≡ 0
none_over calls g [] made fit low = refl
none_over calls g (h ∷ gs) made fit low =
    let behind = follows_on calls g h gs fit in
    let ordered = has_order calls h (head_fits calls h gs (rest_fits calls g (h ∷ gs) fit)) in
    ap (λ b. cond b (1 + groups_over made gs) 0) (le-ltb h.last made (omega arith))

-- one index further, one group more over
over_shifts : (made k : ℕ) (o : Option Group) → over_more made (1 + k) o ≡ 1 + over_more made k o
over_shifts made k None = refl
over_shifts made k (Some g) = step (nat_lt g.last made)
  where
    step : (b : Bool) → cond b (1 + k + 1) (1 + k) ≡ 1 + cond b (k + 1) k
    step true = omega arith
    step false = refl

over_one_more : (calls : List Call) (gs : List Group) (made : ℕ) → groups_fit calls gs ≡ true
    → over_more (made + 1) (groups_over made gs) (slice_get gs (groups_over made gs)) ≡ groups_over (made + 1) gs
over_one_more calls [] made fit = refl
over_one_more calls (g ∷ gs) made fit =
    step (nat_lt g.last made) refl (over_one_more calls gs made (rest_fits calls g gs fit))
  where
    ended : (b : Bool) → (made ≤ g.last) → cond b (0 + 1) 0 ≡ cond b (1 + groups_over (made + 1) gs) 0
    ended true low = ap (λ k. 1 + k) (sym (none_over calls g gs (made + 1) fit (omega arith)))
    ended false low = refl

    step : (b : Bool) → nat_lt g.last made ≡ b
        → over_more (made + 1) (groups_over made gs) (slice_get gs (groups_over made gs)) ≡ groups_over (made + 1) gs
        → over_more (made + 1) (cond b (1 + groups_over made gs) 0) (slice_get (g ∷ gs) (cond b (1 + groups_over made gs) 0))
        ≡ cond (nat_lt g.last (made + 1)) (1 + groups_over (made + 1) gs) 0
    step true e same =
        let high = ltb-true g.last made e in
        ap (over_more (made + 1) (1 + groups_over made gs)) (next_one g gs (groups_over made gs)) ∙
        over_shifts (made + 1) (groups_over made gs) (slice_get gs (groups_over made gs)) ∙
        (ap (λ k. 1 + k) same ∙ ap (λ b. cond b (1 + groups_over (made + 1) gs) 0) (sym (lt-ltb g.last (made + 1) (omega arith))))
    step false e same = ended (nat_lt g.last (made + 1)) (ltb-false g.last made e)

-- what is kept of a task after one call more
pub one_more : (calls : List Call) (gs : List Group) (made : ℕ) → groups_fit calls gs ≡ true
    → progress_more gs (progress_at gs made) ≡ progress_at gs (made + 1)
one_more calls gs made fit = ap (λ k. record { made = made + 1; group = k }) (over_one_more calls gs made fit)

-- before its first call a task is within no group
pub none_at_first : (gs : List Group) → hold_at 0 gs ≡ None
none_at_first [] = refl
none_at_first (g ∷ gs) = ap (λ b. cond b (Some g.hold) (hold_at 0 gs)) (not_begun 0 g (omega arith)) ∙ none_at_first gs

-- each element of a list of which all pass a test does
pub all_at : {X : Type 0} (p : X → Bool) (xs : List X) (i : ℕ) (x : X) → list_all p xs ≡ true → slice_get xs i ≡ Some x
    → p x ≡ true
all_at p [] i x all at = absurd (search rules)
all_at p (y ∷ ys) zero x all at = step refl at
  where
    step : p y ≡ p y → Some y ≡ Some x → p x ≡ true
    step e at = search rules
all_at p (y ∷ ys) (suc i) x all at = all_at p ys i x (and_parts (p y) _ all).1 at

-- the calls of an update are on its layer
update_at : (s : ℕ) (cs : List Call) (i : ℕ) (c : Call) → end_an_update s cs ≡ true → slice_get cs i ≡ Some c
    → is_one s (slots_of c) ≡ true
update_at s [] i c fit at = absurd (false≢true fit)
update_at s (d ∷ []) zero c fit at = step refl at
  where
    step : is_one s (slots_of d) ≡ is_one s (slots_of d) → Some d ≡ Some c → is_one s (slots_of c) ≡ true
    step e at = search rules
update_at s (d ∷ []) (suc i) c fit at = absurd (search rules)
update_at s (d ∷ e ∷ cs) zero c fit at = search rules
update_at s (d ∷ e ∷ cs) (suc i) c fit at = update_at s (e ∷ cs) i c (and_parts (may_be_locked s d) _ fit).1 at

-- each call among those that may stand in a group is inside it
stands_inside : (h : Hold) (cs : List Call) (i : ℕ) (c : Call) → hold_allows h cs ≡ true → slice_get cs i ≡ Some c
    → inside h (slots_of c) ≡ true
stands_inside AllLayers cs i c fit at = all_at (λ c. is_all (slots_of c)) cs i c fit at
stands_inside (Slot s) [] i c fit at = absurd (search rules)
stands_inside (Slot s) (d ∷ cs) i c fit at = either (are_locked s (d ∷ cs)) refl fit
  where
    updates : (j : ℕ) → are_an_update s (d ∷ cs) ≡ true → slice_get (d ∷ cs) j ≡ Some c → is_one s (slots_of c) ≡ true
    updates zero fit at = search rules
    updates (suc j) fit at = update_at s cs j c (and_parts _ (end_an_update s cs) fit).1 at

    either : (b : Bool) → are_locked s (d ∷ cs) ≡ b → (b || are_an_update s (d ∷ cs)) ≡ true → is_one s (slots_of c) ≡ true
    either true e fit = (and_parts (is_one s (slots_of c)) _ (all_at (may_be_locked s) (d ∷ cs) i c e at)).0
    either false e fit = updates i fit at

-- reading a list after its front, and within it
get_dropped : {X : Type 0} (xs : List X) (n i : ℕ) → slice_get (drop n xs) i ≡ slice_get xs (n + i)
get_dropped xs zero i = ap (slice_get xs) (omega arith)
get_dropped [] (suc n) i = refl
get_dropped (x ∷ xs) (suc n) i =
    let e : suc n + i ≡ suc (n + i) = omega arith in
    get_dropped xs n i ∙ sym (ap (slice_get (x ∷ xs)) e)

get_taken : {X : Type 0} (xs : List X) (n i : ℕ) → i < n → slice_get (take n xs) i ≡ slice_get xs i
get_taken xs zero i low = absurd (omega arith)
get_taken [] (suc n) i low = refl
get_taken (x ∷ xs) (suc n) zero low = refl
get_taken (x ∷ xs) (suc n) (suc i) low = get_taken xs n i (omega arith)

-- a call from a group's first to its last is inside it
pub inside_group : (calls : List Call) (g : Group) (i : ℕ) (c : Call) → group_fits calls g ≡ true → g.first ≤ i → i ≤ g.last
    → slice_get calls i ≡ Some c → inside g.hold (slots_of c) ≡ true
inside_group calls g i c fit low high at =
    let stand = (and_parts _ (hold_allows g.hold (group_calls calls g)) fit).1 in
    let there : g.first + (i - g.first) ≡ i = omega arith in
    stands_inside g.hold (group_calls calls g) (i - g.first) c stand
    (get_taken (drop g.first calls) ((g.last + 1) - g.first) (i - g.first) (omega arith) ∙
    (get_dropped calls g.first (i - g.first) ∙ (ap (slice_get calls) there ∙ at)))

-- a task that is within a group that holds this
pub record Within (calls : List Call) (made : ℕ) (h : Hold) : Type 0 where
  pub group : Group
  pub holds : group.hold ≡ h
  pub begun : group.first < made
  pub unended : made ≤ group.last
  pub fits : group_fits calls group ≡ true

pub within : (calls : List Call) (gs : List Group) (made : ℕ) (h : Hold) → groups_fit calls gs ≡ true → hold_at made gs ≡ Some h
    → Within calls made h
within calls [] made h fit at = absurd (search rules)
within calls (g ∷ gs) made h fit at = step (is_open made g) refl at (λ at. within calls gs made h (rest_fits calls g gs fit) at)
  where
    step : (b : Bool) → is_open made g ≡ b → cond b (Some g.hold) (hold_at made gs) ≡ Some h
        → (hold_at made gs ≡ Some h → Within calls made h) → Within calls made h
    step true e at on = record {
      group = g;
      holds = search rules;
      begun = ltb-true g.first made (and_parts (nat_lt g.first made) _ e).0;
      unended = leb-true made g.last (and_parts (nat_lt g.first made) _ e).1;
      fits = head_fits calls g gs fit;
    }
    step false e at on = on at

-- a task within a group has a call left
pub more_within : (calls : List Call) (gs : List Group) (made : ℕ) (h : Hold) → groups_fit calls gs ≡ true
    → hold_at made gs ≡ Some h → made < length calls
more_within calls gs made h fit at =
    let w = within calls gs made h fit at in
    let ends = ends_within calls w.group w.fits in
    let low = w.unended in
    omega arith

-- the next call of a task within a group is inside it
pub next_inside : (calls : List Call) (gs : List Group) (made : ℕ) (h : Hold) (c : Call) → groups_fit calls gs ≡ true
    → hold_at made gs ≡ Some h → slice_get calls made ≡ Some c → inside h (slots_of c) ≡ true
next_inside calls gs made h c fit at next =
    let w = within calls gs made h fit at in
    let low = w.begun in
    ap (λ h. inside h (slots_of c)) (sym w.holds) ∙ inside_group calls w.group made c w.fits (omega arith) w.unended next

-- the call after which a task is within a group is inside it
pub last_inside : (calls : List Call) (gs : List Group) (made : ℕ) (h : Hold) (c : Call) → groups_fit calls gs ≡ true
    → hold_at (made + 1) gs ≡ Some h → slice_get calls made ≡ Some c → inside h (slots_of c) ≡ true
last_inside calls gs made h c fit at next =
    let w = within calls gs (made + 1) h fit at in
    let low = w.begun in
    let high = w.unended in
    ap (λ h. inside h (slots_of c)) (sym w.holds) ∙ inside_group calls w.group made c w.fits (omega arith) (omega arith) next

-- no call on both can be made while these are held by two tasks
abbrev pub clash : Hold → Hold → Bool
clash (Slot a) (Slot b) = a == b
clash (Slot a) AllLayers = true
clash AllLayers h = true

pub clash_sym : (h k : Hold) → clash h k ≡ clash k h
clash_sym (Slot a) (Slot b) = grind (arith, nat_tests)
clash_sym (Slot a) AllLayers = refl
clash_sym AllLayers (Slot b) = refl
clash_sym AllLayers AllLayers = refl

-- a call inside a group meets just what clashes with it
pub meets_inside : (h k : Hold) (task : ℕ) (info : Bool) (slots : Slots) → inside h slots ≡ true
    → meets k (record { task = task; info = info; slots = slots }) ≡ clash h k
meets_inside (Slot s) k task info Nothing i = absurd (false≢true i)
meets_inside (Slot s) (Slot r) task info (One a) i = ap (λ n. n == r) (eqb-true a s i)
meets_inside (Slot s) AllLayers task info (One a) i = or-true info
meets_inside (Slot s) k task info (Two a b) i = absurd (false≢true i)
meets_inside (Slot s) k task info AllSlots i = absurd (false≢true i)
meets_inside AllLayers k task info Nothing i = absurd (false≢true i)
meets_inside AllLayers k task info (One a) i = absurd (false≢true i)
meets_inside AllLayers k task info (Two a b) i = absurd (false≢true i)
meets_inside AllLayers (Slot r) task info AllSlots i = refl
meets_inside AllLayers AllLayers task info AllSlots i = or-true info
