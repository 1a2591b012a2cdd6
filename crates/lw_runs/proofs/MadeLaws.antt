-- What a task's calls, their places, its replies and its groups are in two histories, one after the other, and in one without its calls.
use Rattle.std.proofs.Common.{◌≡◌, ℕ, ◌+◌, ◌==◌, Bool, true, false, not, ◌&&◌, ◌||◌, if◌then◌else◌, List, [], ◌∷◌, ◌++◌, length, refl, ap, ◌∙◌, arith}
use Rattle.std.specs.Prelude.{All, Contains}
use Rattle.std.proofs.lemmas.List.Elements.{All-head, All-tail, All-weaker, All-contains}
use Rattle.lw_calls.specs.declared.entry.Entry.{Entry}
use Rattle.lw_calls.specs.declared.group.Group.{Group}
use Rattle.lw_calls.specs.declared.touch.Role.{Role}
use Rattle.lw_calls.specs.declared.touch.Role.TheVariants.{Task}
use Rattle.lw_calls.specs.Entries.{count_of}
use Rattle.lw_calls.specs.Touches.{touch_of, touches_role}
use Rattle.lw_machine.specs.Desk.{Desk}
use Rattle.lw_machine.specs.History.{machine, replies_of}
use Rattle.lw_machine.specs.Step.{after, reply}
use Rattle.lw_order.specs.Roles.{LeavesAlone, Quiet}
use Rattle.lw_runs.proofs.Steps.{counted}
use Rattle.lw_runs.specs.Made.{calls_of, places_of, is_within, keeps_apart}

-- an element that comes first, or doesn't come
first_or_not : {X : Type 0} (b : Bool) (x : X) (xs ys zs : List X) → xs ≡ ys ++ zs → (if b then x ∷ xs else xs) ≡ (if b then x ∷ ys else ys) ++ zs
first_or_not true x xs ys zs h = ap (λ rs. x ∷ rs) h
first_or_not false x xs ys zs h = h

pub calls_of_append : (t : ℕ) (es fs : List Entry) → calls_of t (es ++ fs) ≡ calls_of t es ++ calls_of t fs
calls_of_append t [] fs = refl
calls_of_append t (e ∷ es) fs = first_or_not (e.task == t) e.call _ _ _ (calls_of_append t es fs)

pub places_of_append : (t first : ℕ) (es fs : List Entry) → places_of t first (es ++ fs) ≡ places_of t first es ++ places_of t (first + length es) fs
places_of_append t first [] fs = let same : first ≡ first + 0 = omega arith in ap (λ n. places_of t n fs) same
places_of_append t first (e ∷ es) fs =
    let same : (first + 1) + length es ≡ first + length (e ∷ es) = omega arith in
    first_or_not (e.task == t) first _ _ _ (places_of_append t (first + 1) es fs ∙ ap (λ n. places_of t (first + 1) es ++ places_of t n fs) same)

pub replies_of_append : (d : Desk) (t : ℕ) (es fs : List Entry) → replies_of d t (es ++ fs) ≡ replies_of d t es ++ replies_of (machine d es) t fs
replies_of_append d t [] fs = refl
replies_of_append d t (e ∷ es) fs = first_or_not (e.task == t) (reply d e.task e.call) _ _ _ (replies_of_append (after d e.task e.call) t es fs)

both_tests : (a b c d : Bool) → b ≡ (c && d) → (a && b) ≡ ((a && c) && d)
both_tests true b c d h = h
both_tests false b c d h = refl

pub keeps_apart_append : (groups : List Group) (t made : ℕ) (es fs : List Entry) → keeps_apart groups t made (es ++ fs) ≡ (keeps_apart groups t made es && keeps_apart groups t (count_of t es + made) fs)
keeps_apart_append groups t made [] fs = let same : made ≡ 0 + made = omega arith in ap (λ n. keeps_apart groups t n fs) same
keeps_apart_append groups t made (e ∷ es) fs =
    let one : ℕ = if e.task == t then 1 else 0 in
    let same : count_of t es + (one + made) ≡ count_of t (e ∷ es) + made = omega arith in
    both_tests ((e.task == t) || not (is_within groups made (touch_of e.task e.call))) _ _ _
    (keeps_apart_append groups t (one + made) es fs ∙ ap (λ n. keeps_apart groups t (one + made) es && keeps_apart groups t n fs) same)

-- each call in a history is counted
pub length_calls_of : (t : ℕ) (es : List Entry) → length (calls_of t es) ≡ count_of t es
length_calls_of t [] = refl
length_calls_of t (e ∷ es) = counted (e.task == t) e.call _ _ (length_calls_of t es)

-- none of the steps is the task's
abbrev pub Foreign : ℕ → List Entry → Type 0
Foreign t es = All (λ e. (e.task == t) ≡ false) es

-- steps that leave a task's role alone aren't its own
pub foreign : (t : ℕ) (roles : List Role) (es : List Entry) → Contains roles (Task t) → Quiet roles es → Foreign t es
foreign t roles es there quiet =
    All-weaker (LeavesAlone roles) (λ e. (e.task == t) ≡ false) (λ e h. All-contains (λ role. touches_role (touch_of e.task e.call) role ≡ false) roles (Task t) h there) es quiet

pick_not : {X : Type 0} (b : Bool) (x y z : X) → b ≡ false → y ≡ z → (if b then x else y) ≡ z
pick_not true x y z h same = absurd (cc h)
pick_not false x y z h same = same

pub no_calls : (t : ℕ) (es : List Entry) → Foreign t es → calls_of t es ≡ []
no_calls t [] h = refl
no_calls t (e ∷ es) h = pick_not (e.task == t) _ _ _ (All-head (λ x. (x.task == t) ≡ false) e es h) (no_calls t es (All-tail (λ x. (x.task == t) ≡ false) e es h))

pub no_places : (t first : ℕ) (es : List Entry) → Foreign t es → places_of t first es ≡ []
no_places t first [] h = refl
no_places t first (e ∷ es) h = pick_not (e.task == t) _ _ _ (All-head (λ x. (x.task == t) ≡ false) e es h) (no_places t (first + 1) es (All-tail (λ x. (x.task == t) ≡ false) e es h))

pub no_replies_of : (d : Desk) (t : ℕ) (es : List Entry) → Foreign t es → replies_of d t es ≡ []
no_replies_of d t [] h = refl
no_replies_of d t (e ∷ es) h =
    pick_not (e.task == t) _ _ _ (All-head (λ x. (x.task == t) ≡ false) e es h) (no_replies_of (after d e.task e.call) t es (All-tail (λ x. (x.task == t) ≡ false) e es h))

either_not : (a b c : Bool) → b ≡ false → c ≡ true → ((a || not b) && c) ≡ true
either_not true b c h k = k
either_not false true c h k = absurd (cc h)
either_not false false c h k = k

-- what meets no group that the task is within keeps apart
pub kept_apart : (groups : List Group) (t made : ℕ) (es : List Entry) → Foreign t es → All (λ e. is_within groups made (touch_of e.task e.call) ≡ false) es → keeps_apart groups t made es ≡ true
kept_apart groups t made [] h k = refl
kept_apart groups t made (e ∷ es) h k =
    let P : Entry → Type 0 = λ x. is_within groups made (touch_of x.task x.call) ≡ false in
    let Q : Entry → Type 0 = λ x. (x.task == t) ≡ false in
    let none : (if e.task == t then 1 else 0) + made ≡ made = ap (λ n. n + made) (pick_not (e.task == t) 1 0 0 (All-head Q e es h) refl) ∙ (let zero_first : 0 + made ≡ made = omega arith in zero_first) in
    either_not (e.task == t) (is_within groups made (touch_of e.task e.call)) _ (All-head P e es k)
    (ap (λ n. keeps_apart groups t n es) none ∙ kept_apart groups t made es (All-tail Q e es h) (All-tail P e es k))

pick : {X : Type 0} (b : Bool) (x y : X) → b ≡ true → (if b then x else y) ≡ x
pick true x y h = refl
pick false x y h = absurd (cc h)

-- of one step of the task's own
pub own_call : (t : ℕ) (e : Entry) → (e.task == t) ≡ true → calls_of t (e ∷ []) ≡ e.call ∷ []
own_call t e own = pick (e.task == t) _ _ own

pub own_place : (t first : ℕ) (e : Entry) → (e.task == t) ≡ true → places_of t first (e ∷ []) ≡ first ∷ []
own_place t first e own = pick (e.task == t) _ _ own

pub own_reply : (d : Desk) (t : ℕ) (e : Entry) → (e.task == t) ≡ true → replies_of d t (e ∷ []) ≡ reply d e.task e.call ∷ []
own_reply d t e own = pick (e.task == t) _ _ own

own_test : (a b : Bool) → a ≡ true → ((a || b) && true) ≡ true
own_test true b h = refl
own_test false b h = absurd (cc h)

pub own_apart : (groups : List Group) (t made : ℕ) (e : Entry) → (e.task == t) ≡ true → keeps_apart groups t made (e ∷ []) ≡ true
own_apart groups t made e own = own_test (e.task == t) (not (is_within groups made (touch_of e.task e.call))) own
