-- Roles of lists, and steps that leave them alone.
use Rattle.std.proofs.Common.{◌≡◌, ◌⊎◌, ℕ, zero, suc, ◌+◌, ◌<◌, ◌==◌, Bool, true, false, not, List, [], ◌∷◌, ◌++◌, map, cond, refl, sym, ap, ◌∙◌, subst, ⊎_elim, arith, eq-eqb}
use Rattle.std.specs.Prelude.{All, Contains, slice_index_or}
use Rattle.std.specs.List.{range_with_len}
use Rattle.std.proofs.lemmas.Bool.{eqb-true, false≢true, cases_Bool, or_cases}
use Rattle.std.proofs.lemmas.List.Elements.{All-nil, All-cons, All-head, All-tail, All-append, All-weaker, All-contains, All-contains_itself, All-filter, filter_passes, Contains-append_left, Contains-append_right}
use Rattle.lw_calls.specs.declared.sizes.Sizes.{Sizes}
use Rattle.lw_calls.specs.declared.entry.Entry.{Entry}
use Rattle.lw_calls.specs.declared.touch.Role.{Role}
use Rattle.lw_calls.specs.declared.touch.Role.TheVariants.{Task, Slot, Info}
use Rattle.lw_calls.specs.declared.touch.Slots.{Slots}
use Rattle.lw_calls.specs.declared.touch.Slots.TheVariants.{Nothing, One, Two, All as Every}
use Rattle.lw_calls.specs.declared.touch.Touch.{Touch}
use Rattle.lw_calls.specs.Touches.{has_slot, touch_of, touches_role}
use Rattle.lw_order.specs.Roles.{same_role, all_roles, without, LeavesAlone, Quiet}
use Rattle.lw_order.specs.Owned.{HasSlots, Owns}
use Rattle.lw_order.specs.Rule.{IsRoleWithin}

-- what each member of a list has, all have
pub all_from_members : {X : Type 0} (P : X → Type 0) (xs : List X) → ((x : X) → Contains xs x → P x) → All P xs
all_from_members P xs each = All-weaker (Contains xs) P each xs (All-contains_itself xs)

-- a role is the same as itself
pub same_role_itself : (role : Role) → same_role role role ≡ true
same_role_itself (Task a) = eq-eqb a a refl
same_role_itself (Slot a) = eq-eqb a a refl
same_role_itself Info = refl

-- what stands among the roles without one stood among them
pub was_there : (off role : Role) (roles : List Role) → Contains (without off roles) role → Contains roles role
was_there off role roles h =
    All-contains (Contains roles) (without off roles) role (All-filter (λ r. not (same_role off r)) (Contains roles) roles (All-contains_itself roles)) h

-- the role that was taken off isn't among them
pub not_there : (off : Role) (roles : List Role) → Contains (without off roles) off → ⊥
not_there off roles h =
    let passes : not (same_role off off) ≡ true = All-contains (λ r. not (same_role off r) ≡ true) (without off roles) off (filter_passes (λ r. not (same_role off r)) roles) h in
    let fails : not (same_role off off) ≡ false = ap not (same_role_itself off) in
    cc

-- the only role of a list of one
pub only_role : (off role : Role) → Contains (off ∷ []) role → off ≡ role
only_role off role h = All-contains (λ r. off ≡ r) (off ∷ []) role (All-cons (λ r. off ≡ r) off [] refl (All-nil (λ r. off ≡ r))) h

pub contains_more : {X : Type 0} (y x : X) (xs : List X) → Contains xs x → Contains (y ∷ xs) x
contains_more y x xs h = Contains-append_right (y ∷ []) xs x h

pub contains_first : {X : Type 0} (y x : X) (xs : List X) → y ≡ x → Contains (y ∷ xs) x
contains_first y x xs e = (0, omega arith, e)

kept_rest : (x role : Role) (rest : List Role) (t : Bool) → Contains rest role → Contains (cond t (x ∷ rest) rest) role
kept_rest x role rest true h = contains_more x role rest h
kept_rest x role rest false h = h

-- what stands among roles still does after another was taken off
pub still_there : (off role : Role) (roles : List Role) → same_role off role ≡ false → Contains roles role → Contains (without off roles) role
still_there off role [] other (k, below, e) = absurd (omega arith)
still_there off role (x ∷ roles) other (zero, below, e) =
    let stays : not (same_role off x) ≡ true = ap (λ r. not (same_role off r)) e ∙ ap not other in
    subst (λ t. Contains (cond t (x ∷ without off roles) (without off roles)) role) (sym stays) (contains_first x role (without off roles) e)
still_there off role (x ∷ roles) other (suc k, below, e) =
    kept_rest x role (without off roles) (not (same_role off x)) (still_there off role roles other (k, omega arith, e))

pub contains_map : {X Y : Type 0} (f : X → Y) (xs : List X) (x : X) → Contains xs x → Contains (map f xs) (f x)
contains_map f [] x (k, below, e) = absurd (omega arith)
contains_map f (y ∷ xs) x (zero, below, e) = contains_first (f y) (f x) (map f xs) (ap f e)
contains_map f (y ∷ xs) x (suc k, below, e) = contains_more (f y) (f x) (map f xs) (contains_map f xs x (k, omega arith, e))

contains_range : (a n k : ℕ) → k < n → Contains (range_with_len a n) (a + k)
contains_range a zero k below = absurd (omega arith)
contains_range a (suc n) zero below = contains_first a (a + zero) (range_with_len (a + 1) n) (omega arith)
contains_range a (suc n) (suc k) below =
    let moved : (a + 1) + k ≡ a + suc k = omega arith in
    contains_more a (a + suc k) (range_with_len (a + 1) n) (subst (Contains (range_with_len (a + 1) n)) moved (contains_range (a + 1) n k (omega arith)))

contains_below : (n k : ℕ) → k < n → Contains (range_with_len 0 n) k
contains_below n k below = let same : 0 + k ≡ k = omega arith in subst (Contains (range_with_len 0 n)) same (contains_range 0 n k below)

-- all roles have each task below the number of tasks
pub all_roles_has_task : (slots tasks t : ℕ) → t < tasks → Contains (all_roles slots tasks) (Task t)
all_roles_has_task slots tasks t below =
    Contains-append_left (Info ∷ map (λ k. Task k) (range_with_len 0 tasks)) (map (λ s. Slot s) (range_with_len 0 slots)) (Task t)
    (contains_more Info (Task t) (map (λ k. Task k) (range_with_len 0 tasks)) (contains_map (λ k. Task k) (range_with_len 0 tasks) t (contains_below tasks t below)))

-- all roles have each slot below the number of slots
pub all_roles_has_slot : (slots tasks s : ℕ) → s < slots → Contains (all_roles slots tasks) (Slot s)
all_roles_has_slot slots tasks s below =
    Contains-append_right (Info ∷ map (λ k. Task k) (range_with_len 0 tasks)) (map (λ k. Slot k) (range_with_len 0 slots)) (Slot s)
    (contains_map (λ k. Slot k) (range_with_len 0 slots) s (contains_below slots s below))

-- whoever owns what is touched has each slot of it that there is
owned_slot : (count : ℕ) (roles : List Role) (slots : Slots) (s : ℕ) → s < count → HasSlots count roles slots → has_slot slots s ≡ true → Contains roles (Slot s)
owned_slot count roles Nothing s below has h = absurd (false≢true h)
owned_slot count roles (One a) s below has h = subst (λ k. Contains roles (Slot k)) (eqb-true a s h) has
owned_slot count roles (Two a b) s below has h =
    ⊎_elim (λ e. subst (λ k. Contains roles (Slot k)) (eqb-true a s e) has.0) (λ e. subst (λ k. Contains roles (Slot k)) (eqb-true b s e) has.1) (or_cases (a == s) (b == s) h)
owned_slot count roles Every s below has h = has s below

-- whoever owns what is touched has each role that is touched and that there is
pub owned_role : (sizes : Sizes) (roles : List Role) (touch : Touch) (role : Role) → IsRoleWithin sizes role → Owns sizes.slots roles touch → touches_role touch role ≡ true → Contains roles role
owned_role sizes roles touch (Task t) fits owns h = subst (λ k. Contains roles (Task k)) (eqb-true touch.task t h) owns.has_task
owned_role sizes roles touch (Slot s) fits owns h = owned_slot sizes.slots roles touch.slots s fits owns.has_slots h
owned_role sizes roles touch Info fits owns h = owns.has_info h

-- a call leaves roles alone that its caller doesn't have, if they fit the sizes
pub leaves_others : (sizes : Sizes) (mine theirs : List Role) (e : Entry) → Owns sizes.slots mine (touch_of e.task e.call) → All (IsRoleWithin sizes) theirs → ((role : Role) → Contains mine role → Contains theirs role → ⊥) → LeavesAlone theirs e
leaves_others sizes mine theirs e owns fits apart =
    all_from_members (λ role. touches_role (touch_of e.task e.call) role ≡ false) theirs
    (λ role there. ⊎_elim
    (λ touched. absurd (apart role (owned_role sizes mine (touch_of e.task e.call) role (All-contains (IsRoleWithin sizes) theirs role fits there) owns touched) there))
    (λ untouched. untouched)
    (cases_Bool (touches_role (touch_of e.task e.call) role)))

-- fewer roles are left alone too
pub quiet_fewer : (few many : List Role) (es : List Entry) → ((role : Role) → Contains few role → Contains many role) → Quiet many es → Quiet few es
quiet_fewer few many es among quiet =
    All-weaker (LeavesAlone many) (LeavesAlone few)
    (λ e leaves. all_from_members (λ role. touches_role (touch_of e.task e.call) role ≡ false) few
    (λ role there. All-contains (λ r. touches_role (touch_of e.task e.call) r ≡ false) many role leaves (among role there)))
    es quiet

leaves_both : (mine theirs : List Role) (e : Entry) → LeavesAlone mine e → LeavesAlone theirs e → LeavesAlone (mine ++ theirs) e
leaves_both mine theirs e h k = All-append (λ role. touches_role (touch_of e.task e.call) role ≡ false) mine theirs h k

-- the roles of two lists are left alone together
pub quiet_both : (mine theirs : List Role) (es : List Entry) → Quiet mine es → Quiet theirs es → Quiet (mine ++ theirs) es
quiet_both mine theirs es q r k d below = leaves_both mine theirs (slice_index_or es k d) (q k d below) (r k d below)

-- the end of quiet steps is quiet
pub quiet_end : (roles : List Role) (front back : List Entry) → Quiet roles (front ++ back) → Quiet roles back
quiet_end roles [] back q = q
quiet_end roles (e ∷ front) back q = quiet_end roles front back (All-tail (LeavesAlone roles) e (front ++ back) q)

-- the beginning of quiet steps is quiet
pub quiet_front : (roles : List Role) (front back : List Entry) → Quiet roles (front ++ back) → Quiet roles front
quiet_front roles [] back q = All-nil (LeavesAlone roles)
quiet_front roles (e ∷ front) back q =
    All-cons (LeavesAlone roles) e front (All-head (LeavesAlone roles) e (front ++ back) q) (quiet_front roles front back (All-tail (LeavesAlone roles) e (front ++ back) q))
