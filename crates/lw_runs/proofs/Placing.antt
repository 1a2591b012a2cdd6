-- The order of a history is made by putting each task at the places of its steps.
use Rattle.std.proofs.Common.{◌≡◌, ℕ, ◌+◌, ◌<◌, ◌==◌, Bool, true, false, if◌then◌else◌, nat_lt, List, [], ◌∷◌, ◌++◌, length, replicate, refl, ap, sym, subst, ◌∙◌, arith, append_assoc, length-append, length-set, slice_index_or, take}
use Rattle.std.specs.Prelude.{All, slice_set}
use Rattle.std.proofs.lemmas.Bool.{eqb-true, eqb-false}
use Rattle.std.proofs.lemmas.Bool.Decides.{nat_tests}
use Rattle.std.proofs.lemmas.List.{replicate-append-replicate, take_more, length-map}
use Rattle.std.proofs.lemmas.List.Elements.{All-nil, All-cons, All-head, All-tail, All-weaker}
use Rattle.lw_calls.specs.declared.entry.Entry.{Entry}
use Rattle.lw_calls.specs.Entries.{count_of}
use Rattle.lw_order.specs.Numbered.{TasksBelow}
use Rattle.lw_runs.specs.Made.{places_of}
use Rattle.lw_runs.proofs.Steps.{counted}
use Rattle.lw_runs.specs.Whole.{order_of, count_below, order_below, put}

-- so many places as steps
pub length_places_of : (t first : ℕ) (es : List Entry) → length (places_of t first es) ≡ count_of t es
length_places_of t first [] = refl
length_places_of t first (e ∷ es) = counted (e.task == t) first _ _ (length_places_of t (first + 1) es)

placed_or_not : (P : ℕ → Type 0) (b : Bool) (p : ℕ) (ps : List ℕ) → P p → All P ps → All P (if b then p ∷ ps else ps)
placed_or_not P true p ps h all = All-cons P p ps h all
placed_or_not P false p ps h all = all

-- which lie in the history
pub places_within : (t first : ℕ) (es : List Entry) → All (λ n. n < first + length es) (places_of t first es)
places_within t first [] = All-nil (λ n. n < first + 0)
places_within t first (e ∷ es) =
    let P : ℕ → Type 0 = λ n. n < first + length (e ∷ es) in
    placed_or_not P (e.task == t) first (places_of t (first + 1) es) (omega arith) (All-weaker (λ n. n < (first + 1) + length es) P (λ n low. omega (arith, low)) (places_of t (first + 1) es) (places_within t (first + 1) es))

-- one task more
one_below : (a n : ℕ) (b : Bool) → (a == n) ≡ b → (if nat_lt a (n + 1) then 1 else 0) ≡ (if nat_lt a n then 1 else 0) + (if b then 1 else 0)
one_below a n true h = let same : a ≡ n = eqb-true a n h in grind (arith, nat_tests)
one_below a n false h = let other = eqb-false a n h in grind (arith, nat_tests)

pub count_below_more : (n : ℕ) (es : List Entry) → count_below (n + 1) es ≡ count_below n es + count_of n es
count_below_more n [] = refl
count_below_more n (e ∷ es) =
    let one = one_below e.task n (e.task == n) refl in
    let rest = count_below_more n es in
    omega (arith, one, rest)

counted_none : (a : ℕ) → ◌≡◌ {A = ℕ} (if nat_lt a 0 then 1 else 0) 0
counted_none a = grind (arith, nat_tests)

pub count_below_none : (es : List Entry) → count_below 0 es ≡ 0
count_below_none [] = refl
count_below_none (e ∷ es) =
    let rest = count_below_none es in
    let none = counted_none e.task in
    omega (arith, rest, none)

counted_all : (a n : ℕ) → a < n → ◌≡◌ {A = ℕ} (if nat_lt a n then 1 else 0) 1
counted_all a n low = grind (arith, nat_tests)

pub count_below_all : (n : ℕ) (es : List Entry) → TasksBelow n es → count_below n es ≡ length es
count_below_all n [] low = refl
count_below_all n (e ∷ es) low =
    let P : Entry → Type 0 = λ x. x.task < n in
    let one = counted_all e.task n (All-head P e es low) in
    let rest = count_below_all n es (All-tail P e es low) in
    omega (arith, one, rest)

none_first : (a : ℕ) → (if nat_lt a 0 then a else 0) ≡ 0
none_first a = grind (arith, nat_tests)

pub order_below_none : (es : List Entry) → replicate (length es) 0 ≡ order_below 0 es
order_below_none [] = refl
order_below_none (e ∷ es) = ap (λ x. x ∷ replicate (length es) 0) (sym (none_first e.task)) ∙ ap (λ xs. (if nat_lt e.task 0 then e.task else 0) ∷ xs) (order_below_none es)

all_first : (a n : ℕ) → a < n → (if nat_lt a n then a else 0) ≡ a
all_first a n low = grind (arith, nat_tests)

pub order_below_all : (n : ℕ) (es : List Entry) → TasksBelow n es → order_below n es ≡ order_of es
order_below_all n [] low = refl
order_below_all n (e ∷ es) low =
    let P : Entry → Type 0 = λ x. x.task < n in
    ap (λ x. x ∷ order_below n es) (all_first e.task n (All-head P e es low)) ∙ ap (λ xs. e.task ∷ xs) (order_below_all n es (All-tail P e es low))

pub put_push : (v : ℕ) (xs ns : List ℕ) (n : ℕ) → put v xs (ns ++ n ∷ []) ≡ slice_set (put v xs ns) n v
put_push v xs [] n = refl
put_push v xs (m ∷ ns) n = put_push v (slice_set xs m v) ns n

pub length_put : (v : ℕ) (xs ns : List ℕ) → length (put v xs ns) ≡ length xs
length_put v xs [] = refl
length_put v xs (n ∷ ns) = length_put v (slice_set xs n v) ns ∙ length-set xs n v

set_behind : (front xs : List ℕ) (x v : ℕ) → slice_set (front ++ x ∷ xs) (length front) v ≡ (front ++ v ∷ []) ++ xs
set_behind [] xs x v = refl
set_behind (y ∷ front) xs x v = ap (λ l. y ∷ l) (set_behind front xs x v)

here : (a t : ℕ) → (a == t) ≡ true → t ≡ (if nat_lt a (t + 1) then a else 0)
here a t h = let same : a ≡ t = eqb-true a t h in grind (arith, nat_tests)

elsewhere : (a t : ℕ) → (a == t) ≡ false → (if nat_lt a t then a else 0) ≡ (if nat_lt a (t + 1) then a else 0)
elsewhere a t h = let other = eqb-false a t h in grind (arith, nat_tests)

put_step : (t : ℕ) (front : List ℕ) (x y : ℕ) (xs ys ps : List ℕ) (b : Bool) → (b ≡ true → t ≡ y) → (b ≡ false → x ≡ y) → ((z : ℕ) → put t ((front ++ z ∷ []) ++ xs) ps ≡ (front ++ z ∷ []) ++ ys) → put t (front ++ x ∷ xs) (if b then length front ∷ ps else ps) ≡ front ++ y ∷ ys
put_step t front x y xs ys ps true is other more =
    ap (λ l. put t l ps) (set_behind front xs x t) ∙ (more t ∙ (append_assoc front (t ∷ []) ys ∙ ap (λ z. front ++ z ∷ ys) (is refl)))
put_step t front x y xs ys ps false is other more =
    ap (λ l. put t l ps) (sym (append_assoc front (x ∷ []) xs)) ∙ (more x ∙ (append_assoc front (x ∷ []) ys ∙ ap (λ z. front ++ z ∷ ys) (other refl)))

put_behind : (t : ℕ) (front : List ℕ) (es : List Entry) → put t (front ++ order_below t es) (places_of t (length front) es) ≡ front ++ order_below (t + 1) es
put_behind t front [] = refl
put_behind t front (e ∷ es) =
    put_step t front (if nat_lt e.task t then e.task else 0) (if nat_lt e.task (t + 1) then e.task else 0) (order_below t es) (order_below (t + 1) es) (places_of t (length front + 1) es) (e.task == t) (λ own. here e.task t own) (λ other. elsewhere e.task t other)
    (λ z. ap (λ n. put t ((front ++ z ∷ []) ++ order_below t es) (places_of t n es)) (sym (length-append front (z ∷ []))) ∙ put_behind t (front ++ z ∷ []) es)

-- a task more was put at its places
pub put_places : (t : ℕ) (es : List Entry) → put t (order_below t es) (places_of t 0 es) ≡ order_below (t + 1) es
put_places t es = put_behind t [] es

-- the step of a loop over tickets
pub put_more : (v : ℕ) (xs now ns : List ℕ) (i : ℕ) → i < length ns → now ≡ put v xs (take i ns) → slice_set now (slice_index_or ns i 0) v ≡ put v xs (take (i + 1) ns)
put_more v xs now ns i low is = ap (λ l. slice_set l (slice_index_or ns i 0) v) is ∙ (sym (put_push v xs (take i ns) (slice_index_or ns i 0)) ∙ ap (put v xs) (sym (take_more ns i 0 low)))

-- as many zeros as the tickets of one task more
pub zeros_more : (es : List Entry) (i : ℕ) (had has : List ℕ) (ticks : List ℕ) → had ≡ replicate (count_below i es) 0 → has ≡ had ++ replicate (length ticks) 0 → ticks ≡ places_of i 0 es → has ≡ replicate (count_below (i + 1) es) 0
zeros_more es i had has ticks was now are =
    let many : length ticks ≡ count_of i es = ap length are ∙ length_places_of i 0 es in
    now ∙ (ap (λ l. l ++ replicate (length ticks) 0) was ∙ (replicate-append-replicate (count_below i es) (length ticks) 0 ∙ ap (λ n. replicate n 0) (ap (λ n. count_below i es + n) many ∙ sym (count_below_more i es))))

-- a task more was put at its tickets
pub placed_more : (es : List Entry) (t : ℕ) (had has ticks : List ℕ) → had ≡ order_below t es → ticks ≡ places_of t 0 es → has ≡ put t had ticks → has ≡ order_below (t + 1) es
placed_more es t had has ticks was are now = now ∙ (ap (λ l. put t l ticks) was ∙ (ap (put t (order_below t es)) are ∙ put_places t es))

pub tickets_within : (es : List Entry) (t : ℕ) (had ticks : List ℕ) → had ≡ order_below t es → ticks ≡ places_of t 0 es → All (λ n. n < length had) ticks
tickets_within es t had ticks was are =
    let long : length had ≡ 0 + length es = (let all = ap length was ∙ length-map es (λ (e : Entry). if nat_lt e.task t then e.task else 0) in omega (arith, all)) in
    subst (λ n. All (λ k. k < n) ticks) (sym long) (subst (All (λ k. k < 0 + length es)) (sym are) (places_within t 0 es))
