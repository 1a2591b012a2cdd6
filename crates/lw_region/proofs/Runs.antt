-- Runs of columns: one set of columns has one list of longest runs.
use Rattle.std.proofs.Common.{◌≡◌, Bool, true, false, cond, ◌||◌, List, [], ◌∷◌, ℤ, pos, ◌+ℤ◌, ◌≤ℤ◌, ◌<ℤ◌, refl, ap, sym, ◌∙◌, arith}
use Rattle.std.specs.Prelude.{int_lt}
use Rattle.std.specs.List.{list_any}
use Rattle.std.specs.Ordering.{int_eq}
use Rattle.std.proofs.lemmas.Int.{ints, by_lt_z}
use Rattle.std.proofs.lemmas.Bool.{false≢true, or_left, or_from, and_parts, and_from}
use Rattle.std.proofs.Math.Bool.{or_assoc}
use Rattle.lw_region.specs.Rectangle.{within}
use Rattle.lw_region.specs.Order.{ComesBefore, IsInOrder}
use Rattle.lw_region.specs.Bands.{Run, put_column, longest_runs, same_runs}
use Rattle.lw_region.specs.Banded.{in_runs, StartsAfter, AreRuns}
use Rattle.lw_region.proofs.Within.{within_true, within_below, within_above}
use Rattle.lw_region.proofs.Numbers.{eq_true, eq_of, ne_of, eq_is_within, within_cons, lt_of}

-- in_runs, run by run
pub in_runs_nil : (x : ℤ) → in_runs [] x ≡ false
unfolding in_runs
in_runs_nil x = refl

-- a column of the first run or of the others
pub in_runs_cons : (r : Run) (rs : List Run) (x : ℤ) → in_runs (r ∷ rs) x ≡ (within r.first x r.last || in_runs rs x)
unfolding in_runs
in_runs_cons r rs x = refl

-- runs that start further on
pub starts_after_less : (x y : ℤ) (rs : List Run) → x ≤ℤ y → StartsAfter y rs → StartsAfter x rs
starts_after_less x y [] h k = tt
starts_after_less x y (r ∷ rs) h k = omega (arith, ints)

-- no run has a column before the first run
pub none_before : (rs : List Run) (x : ℤ) → AreRuns rs → StartsAfter x rs → in_runs rs x ≡ false
none_before [] x h k = in_runs_nil x
none_before (r ∷ rs) x h k =
    in_runs_cons r rs x ∙
    or_from _ _ (within_below r.first x r.last k)
    (none_before rs x h.2 (starts_after_less x (r.last +ℤ pos 1) rs (let p = h.0 in omega (arith, ints)) h.1))

-- a column of the first run
pub in_first : (r : Run) (rs : List Run) (x : ℤ) → r.first ≤ℤ x → x ≤ℤ r.last → in_runs (r ∷ rs) x ≡ true
in_first r rs x h k = in_runs_cons r rs x ∙ or_left _ _ (within_true r.first x r.last h k)

-- a column after the first run is in the others or in none
pub in_rest : (r : Run) (rs : List Run) (x : ℤ) → r.last <ℤ x → in_runs (r ∷ rs) x ≡ in_runs rs x
in_rest r rs x h = in_runs_cons r rs x ∙ ap (λ w. w || in_runs rs x) (within_above r.first x r.last h)

-- the first runs begin together
first_le : (r s : Run) (rs ss : List Run) → AreRuns (r ∷ rs) → AreRuns (s ∷ ss)
    → ((x : ℤ) → in_runs (r ∷ rs) x ≡ in_runs (s ∷ ss) x) → r.first ≤ℤ s.first
first_le r s rs ss h k e =
    by_lt_z s.first r.first
    (λ a. absurd (false≢true (sym (none_before (r ∷ rs) s.first h a) ∙ (e s.first ∙ in_first s ss s.first (omega (arith, ints)) k.0))))
    (λ a. a)

-- the first runs end together
last_le : (r s : Run) (rs ss : List Run) → AreRuns (r ∷ rs) → AreRuns (s ∷ ss) → r.first ≡ s.first
    → ((x : ℤ) → in_runs (r ∷ rs) x ≡ in_runs (s ∷ ss) x) → s.last ≤ℤ r.last
last_le r s rs ss h k f e =
    by_lt_z r.last s.last
    (λ a.
    let x = r.last +ℤ pos 1 in
    let p = h.0 in
    absurd (false≢true (sym (none_before rs x h.2 h.1) ∙ (sym (in_rest r rs x (omega (arith, ints))) ∙ (e x ∙ in_first s ss x (omega (arith, ints)) (omega (arith, ints)))))))
    (λ a. a)

-- two runs with the same ends are one
pub same_run : (r s : Run) → r.first ≡ s.first → r.last ≡ s.last → r ≡ s
same_run r s e f =
    let P : ℤ → ℤ → Run = λ a b. record { first = a; last = b } in
    ap (λ a. P a r.last) e ∙ ap (λ b. P s.first b) f

-- lists of runs with the same columns are one
pub one_run_list : (rs ss : List Run) → AreRuns rs → AreRuns ss → ((x : ℤ) → in_runs rs x ≡ in_runs ss x) → rs ≡ ss
one_run_list [] [] h k e = refl
one_run_list [] (s ∷ ss) h k e =
    absurd (false≢true (sym (in_runs_nil s.first) ∙ (e s.first ∙ in_first s ss s.first (omega (arith, ints)) k.0)))
one_run_list (r ∷ rs) [] h k e =
    absurd (false≢true (sym (in_runs_nil r.first) ∙ (sym (e r.first) ∙ in_first r rs r.first (omega (arith, ints)) h.0)))
one_run_list (r ∷ rs) (s ∷ ss) h k e =
    let a = first_le r s rs ss h k e in
    let b = first_le s r ss rs k h (λ x. sym (e x)) in
    let f : r.first ≡ s.first = omega (arith, ints) in
    let c = last_le r s rs ss h k f e in
    let d = last_le s r ss rs k h (sym f) (λ x. sym (e x)) in
    let g : r.last ≡ s.last = omega (arith, ints) in
    let p = h.0 in
    let q = k.0 in
    let t : (x : ℤ) → in_runs rs x ≡ in_runs ss x = λ x.
    by_lt_z r.last x
    (λ l. sym (in_rest r rs x l) ∙ (e x ∙ in_rest s ss x (omega (arith, ints))))
    (λ l. none_before rs x h.2 (starts_after_less x (r.last +ℤ pos 1) rs (omega (arith, ints)) h.1)
    ∙ sym (none_before ss x k.2 (starts_after_less x (s.last +ℤ pos 1) ss (omega (arith, ints)) k.1))) in
    let u = one_run_list rs ss h.2 k.2 t in
    ap (λ z. z ∷ rs) (same_run r s f g) ∙ ap (λ z. s ∷ z) u

-- a column joined to the first run or apart from it
put_column_has : (x : ℤ) (r : Run) (rs : List Run) (z : ℤ) → r.first ≤ℤ r.last → (t : Bool) → int_eq (x +ℤ pos 1) r.first ≡ t
    → in_runs (cond t (record { first = x; last = r.last } ∷ rs) (record { first = x; last = x } ∷ r ∷ rs)) z ≡ (int_eq x z || in_runs (r ∷ rs) z)
put_column_has x r rs z h true e =
    let f : x +ℤ pos 1 ≡ r.first = eq_of _ _ e in
    in_runs_cons (record { first = x; last = r.last }) rs z
    ∙ ap (λ w. w || in_runs rs z) (sym (within_cons x z r.last (omega (arith, ints))) ∙ ap (λ w. int_eq x z || within w z r.last) f)
    ∙ or_assoc (int_eq x z) (within r.first z r.last) (in_runs rs z) ∙ ap (λ w. int_eq x z || w) (sym (in_runs_cons r rs z))
put_column_has x r rs z h false e =
    in_runs_cons (record { first = x; last = x }) (r ∷ rs) z ∙ ap (λ w. w || in_runs (r ∷ rs) z) (sym (eq_is_within x z))

-- a column put in front is a further column
pub in_put_column : (x : ℤ) (rs : List Run) (z : ℤ) → AreRuns rs → in_runs (put_column x rs) z ≡ (int_eq x z || in_runs rs z)
in_put_column x [] z h = in_runs_cons (record { first = x; last = x }) [] z ∙ ap (λ w. w || in_runs [] z) (sym (eq_is_within x z))
in_put_column x (r ∷ rs) z h = put_column_has x r rs z h.0 (int_eq (x +ℤ pos 1) r.first) refl

-- a column in front leaves runs
put_column_runs : (x : ℤ) (r : Run) (rs : List Run) → AreRuns (r ∷ rs) → x <ℤ r.first → (t : Bool) → int_eq (x +ℤ pos 1) r.first ≡ t
    → AreRuns (cond t (record { first = x; last = r.last } ∷ rs) (record { first = x; last = x } ∷ r ∷ rs))
put_column_runs x r rs h l true e = let p = h.0 in (omega (arith, ints), h.1, h.2)
put_column_runs x r rs h l false e = let n = ne_of (x +ℤ pos 1) r.first e in (omega (arith, ints), omega (arith, ints), h)

-- the same of any runs
are_put_column : (x : ℤ) (rs : List Run) → AreRuns rs → StartsAfter x rs → AreRuns (put_column x rs)
are_put_column x [] h l = (omega (arith, ints), tt, tt)
are_put_column x (r ∷ rs) h l = put_column_runs x r rs h l (int_eq (x +ℤ pos 1) r.first) refl

-- a column in front is the first one
put_column_starts : (w x : ℤ) (r : Run) (rs : List Run) → w <ℤ x → (t : Bool)
    → StartsAfter w (cond t (record { first = x; last = r.last } ∷ rs) (record { first = x; last = x } ∷ r ∷ rs))
put_column_starts w x r rs l true = l
put_column_starts w x r rs l false = l

-- the same of any runs
starts_put_column : (w x : ℤ) (rs : List Run) → w <ℤ x → StartsAfter w (put_column x rs)
starts_put_column w x [] l = l
starts_put_column w x (r ∷ rs) l = put_column_starts w x r rs l (int_eq (x +ℤ pos 1) r.first)

-- the runs of columns after w start after w
starts_longest : (w : ℤ) (xs : List ℤ) → ComesBefore int_lt w xs → StartsAfter w (longest_runs xs)
starts_longest w [] h = tt
starts_longest w (x ∷ xs) h = starts_put_column w x (longest_runs xs) (lt_of w x h.0)

-- the longest runs are runs from left to right
pub are_longest : (xs : List ℤ) → IsInOrder int_lt xs → AreRuns (longest_runs xs)
are_longest [] h = tt
are_longest (x ∷ xs) h = are_put_column x (longest_runs xs) (are_longest xs h.1) (starts_longest x xs h.0)

-- the longest runs have the columns that they are made of
pub in_longest : (xs : List ℤ) (z : ℤ) → IsInOrder int_lt xs → in_runs (longest_runs xs) z ≡ list_any (λ w. int_eq w z) xs
in_longest [] z h = in_runs_nil z
in_longest (x ∷ xs) z h =
    in_put_column x (longest_runs xs) z (are_longest xs h.1) ∙ ap (λ w. int_eq x z || w) (in_longest xs z h.1)

-- some column of a list of runs
pub some_column : (rs : List Run) → AreRuns rs → (rs ≡ [] → ⊥) → (x : ℤ) × (in_runs rs x ≡ true)
some_column [] h n = absurd (n refl)
some_column (r ∷ rs) h n = (r.first, in_first r rs r.first (omega (arith, ints)) h.0)

-- runs with a column are not none
pub some_runs : (rs : List Run) (x : ℤ) → in_runs rs x ≡ true → rs ≡ [] → ⊥
some_runs rs x h e = false≢true (sym (in_runs_nil x) ∙ (ap (λ w. in_runs w x) (sym e) ∙ h))

-- what the test on two lists of runs says
pub same_runs_true : (rs ss : List Run) → same_runs rs ss ≡ true → rs ≡ ss
same_runs_true [] [] h = refl
same_runs_true [] (s ∷ ss) h = absurd (false≢true h)
same_runs_true (r ∷ rs) [] h = absurd (false≢true h)
same_runs_true (r ∷ rs) (s ∷ ss) h =
    let p = and_parts _ _ h in
    let q = and_parts _ _ p.0 in
    ap (λ z. z ∷ rs) (same_run r s (eq_of _ _ q.0) (eq_of _ _ q.1)) ∙ ap (λ z. s ∷ z) (same_runs_true rs ss p.1)

-- runs pass the test with themselves
pub same_runs_itself : (rs : List Run) → same_runs rs rs ≡ true
same_runs_itself [] = refl
same_runs_itself (r ∷ rs) =
    and_from _ _ (and_from _ _ (eq_true r.first r.first refl) (eq_true r.last r.last refl)) (same_runs_itself rs)
