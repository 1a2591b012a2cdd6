-- What is kept of a past tells which calls may come, and where an order is bad.
use Rattle.std.proofs.Common.{◌≡◌, ℕ, zero, suc, ◌+◌, ◌<◌, ◌≤◌, ◌==◌, inl, inr, Bool, true, false, cond, not, ◌&&◌, ◌||◌, List}
use Rattle.std.proofs.Common.{[], ◌∷◌, ◌++◌, length, map, take, drop, replicate, slice_index_or, slice_set, Some, None, refl, sym}
use Rattle.std.proofs.Common.{ap, subst, ◌∙◌, arith, zero-add}
use Rattle.std.specs.List.{list_all, range_with_len, slice_get}
use Rattle.lw_calls.specs.declared.call.Call.{Call}
use Rattle.lw_calls.specs.declared.group.Group.{Group}
use Rattle.lw_calls.specs.declared.progress.Progress.{Progress}
use Rattle.lw_calls.specs.Touches.{touch_of}
use Rattle.lw_calls.specs.Plan.{Plan, IsPlan, task_calls, task_groups}
use Rattle.lw_calls.specs.Orders.{occurrences, keeps_off, may_come, keeps_groups, is_complete, is_legal, Begins, IsBadPlace}
use Rattle.lw_calls.specs.Code.OrderState.{no_progress, progress_at, progress_after, groups_over, is_held, is_free, progress_more}
use Rattle.lw_calls.specs.Code.OrderState.{are_all_made}
use Rattle.lw_calls.proofs.OrderGroups.{held_as_hold, one_more}
use Rattle.lw_calls.proofs.OrdersComplete.{off_by_hold, occurs_again, occurs_as_before, keeps_append, all_below, begins}
use Rattle.std.proofs.lemmas.Bool.{true≢false, false≢true, le-ltb, and_parts, and_from}
use Rattle.std.proofs.lemmas.List.{take_more, take-append-drop, take_all, take-append-le}
use Rattle.std.proofs.lemmas.List.FromFn.{get_or-map-range_with_len, length-map-range_with_len}
use Rattle.std.proofs.Math.Bool.{and-true, and-false}

-- one number more of a range
pub range_more : (p : ℕ → Bool) (n : ℕ) → list_all p (range_with_len 0 n) ≡ true → p n ≡ true
    → list_all p (range_with_len 0 (n + 1)) ≡ true
range_more p n all last =
    let e : suc n ≡ n + 1 = omega arith in
    subst (λ m. list_all p (range_with_len 0 m) ≡ true) e (from 0 n all (ap p (zero-add n) ∙ last))
  where
    from : (a n : ℕ) → list_all p (range_with_len a n) ≡ true → p (a + n) ≡ true → list_all p (range_with_len a (suc n)) ≡ true
    from a zero all last =
        let e : a + zero ≡ a = omega arith in
        and_from _ _ (ap p (sym e) ∙ last) refl
    from a (suc n) all last =
        let e : (a + 1) + n ≡ a + suc n = omega arith in
        and_from _ _ (and_parts (p a) _ all).0 (from (a + 1) n (and_parts (p a) _ all).1 (ap p e ∙ last))

-- one number settles the answer
pub range_fails : (p : ℕ → Bool) (n u : ℕ) → u < n → p u ≡ false → list_all p (range_with_len 0 n) ≡ false
range_fails p n u low fails = step (list_all p (range_with_len 0 n)) refl
  where
    step : (b : Bool) → list_all p (range_with_len 0 n) ≡ b → list_all p (range_with_len 0 n) ≡ false
    step true e = absurd (true≢false (sym (all_below p n u e low) ∙ fails))
    step false e = e

-- two tests that agree on a range
pub range_agrees : (p q : ℕ → Bool) (n : ℕ) → ((u : ℕ) → u < n → p u ≡ q u)
    → list_all p (range_with_len 0 n) ≡ list_all q (range_with_len 0 n)
range_agrees p q n same = from 0 n (λ u low high. same u (omega arith))
  where
    from : (a n : ℕ) → ((u : ℕ) → a ≤ u → u < a + n → p u ≡ q u)
        → list_all p (range_with_len a n) ≡ list_all q (range_with_len a n)
    from a zero same = refl
    from a (suc n) same =
        ap (λ b. b && list_all p (range_with_len (a + 1) n)) (same a (omega arith) (omega arith)) ∙
        ap (λ b. q a && b) (from (a + 1) n (λ u low high. same u (omega arith) (omega arith)))

-- what is kept of one of the tasks
pub kept_at : (plan : Plan) (past : List ℕ) (states : List Progress) (t : ℕ) → states ≡ progress_after plan past
    → t < plan.sizes.tasks → slice_index_or states t no_progress ≡ progress_at (task_groups plan t) (occurrences t past)
kept_at plan past states t stand low =
    ap (λ s. slice_index_or s t no_progress) stand ∙
    get_or-map-range_with_len (λ t. progress_at (task_groups plan t) (occurrences t past)) 0 plan.sizes.tasks t t no_progress low
    (zero-add t)

-- one value is kept for each task
pub kept_length : (plan : Plan) (past : List ℕ) (states : List Progress) → states ≡ progress_after plan past
    → length states ≡ plan.sizes.tasks
kept_length plan past states stand =
    ap length stand ∙ length-map-range_with_len (λ t. progress_at (task_groups plan t) (occurrences t past)) 0 plan.sizes.tasks

-- before the first call no task did anything
pub kept_first : (plan : Plan) (states : List Progress) → states ≡ replicate plan.sizes.tasks no_progress
    → states ≡ progress_after plan []
kept_first plan states start = start ∙ sym (from 0 plan.sizes.tasks)
  where
    none : (gs : List Group) → progress_at gs 0 ≡ no_progress
    none [] = refl
    none (g ∷ gs) = ap (λ b. record { made = 0; group = cond b (1 + groups_over 0 gs) 0 }) (le-ltb g.last 0 (omega arith))

    from : (a n : ℕ) → map (λ t. progress_at (task_groups plan t) (occurrences t [])) (range_with_len a n)
        ≡ replicate n no_progress
    from a zero = refl
    from a (suc n) =
        ap (λ p. p ∷ map (λ t. progress_at (task_groups plan t) (occurrences t [])) (range_with_len (a + 1) n))
        (none (task_groups plan a)) ∙
        ap (λ ps. no_progress ∷ ps) (from (a + 1) n)

-- values by their index, of which one is set
set_mapped : {X : Type 0} (f g : ℕ → X) (n i : ℕ) (x : X) → i < n → g i ≡ x → ((u : ℕ) → (i ≡ u → ⊥) → g u ≡ f u)
    → slice_set (map f (range_with_len 0 n)) i x ≡ map g (range_with_len 0 n)
set_mapped {X} f g n i x low at others =
    from 0 n i low (ap g (zero-add i) ∙ at) (λ u other. others u (λ e. other (zero-add i ∙ e)))
  where
    same : (a n : ℕ) → ((u : ℕ) → a ≤ u → g u ≡ f u) → map f (range_with_len a n) ≡ map g (range_with_len a n)
    same a zero each = refl
    same a (suc n) each =
        ap (λ y. y ∷ map f (range_with_len (a + 1) n)) (sym (each a (omega arith))) ∙
        ap (λ ys. g a ∷ ys) (same (a + 1) n (λ u high. each u (omega arith)))

    from : (a n i : ℕ) → i < n → g (a + i) ≡ x → ((u : ℕ) → (a + i ≡ u → ⊥) → g u ≡ f u)
        → slice_set (map f (range_with_len a n)) i x ≡ map g (range_with_len a n)
    from a zero i low at others = absurd (omega arith)
    from a (suc n) zero low at others =
        let e : a + zero ≡ a = omega arith in
        ap (λ y. y ∷ map f (range_with_len (a + 1) n)) (sym at ∙ ap g e) ∙
        ap (λ ys. g a ∷ ys) (same (a + 1) n (λ u high. others u (λ is. omega arith)))
    from a (suc n) (suc i) low at others =
        let e : (a + 1) + i ≡ a + suc i = omega arith in
        ap (λ y. y ∷ slice_set (map f (range_with_len (a + 1) n)) i x) (sym (others a (λ is. omega arith))) ∙
        ap (λ ys. g a ∷ ys) (from (a + 1) n i (omega arith) (ap g e ∙ at) (λ u other. others u (λ is. other (e ∙ is))))

-- what is kept after one call more
pub kept_more : (plan : Plan) → IsPlan plan → (past : List ℕ) (states : List Progress) (t : ℕ) (p q : Progress)
    → states ≡ progress_after plan past → t < plan.sizes.tasks → p ≡ slice_index_or states t no_progress
    → q ≡ progress_more (task_groups plan t) p → slice_set states t q ≡ progress_after plan (past ++ t ∷ [])
kept_more plan ok past states t p q stand low read more =
    ap (λ s. slice_set s t q) stand ∙
    set_mapped (λ u. progress_at (task_groups plan u) (occurrences u past))
    (λ u. progress_at (task_groups plan u) (occurrences u (past ++ t ∷ []))) plan.sizes.tasks t q low
    (ap (progress_at (task_groups plan t)) (occurs_again t past) ∙
    (sym (one_more (task_calls plan t) (task_groups plan t) (occurrences t past) (ok.groups t)) ∙
    (ap (progress_more (task_groups plan t)) (sym (read ∙ kept_at plan past states t stand low)) ∙ sym more)))
    (λ u other. ap (progress_at (task_groups plan u)) (occurs_as_before u t past other))

-- what is kept tells whether a call may come
pub free_as_kept : (plan : Plan) → IsPlan plan → (past : List ℕ) (states : List Progress) (t : ℕ) (c : Call)
    → states ≡ progress_after plan past → is_free plan states t (touch_of t c) ≡ may_come plan past t (Some c)
free_as_kept plan ok past states t c stand =
    range_agrees (λ u. (u == t) || not (is_held (task_groups plan u) (touch_of t c) (slice_index_or states u no_progress)))
    (λ u. (u == t) || not (keeps_off plan past (touch_of t c) u)) plan.sizes.tasks
    (λ u low. ap (λ b. (u == t) || not b)
    (ap (is_held (task_groups plan u) (touch_of t c)) (kept_at plan past states u stand low) ∙
    (held_as_hold (task_calls plan u) (task_groups plan u) (occurrences u past) (touch_of t c) (ok.groups u) ∙
    sym (off_by_hold plan ok past (touch_of t c) u))))

-- and whether all calls were made
pub made_as_kept : (plan : Plan) (past : List ℕ) (states : List Progress) → states ≡ progress_after plan past
    → are_all_made plan states ≡ is_complete plan past
made_as_kept plan past states stand =
    range_agrees (λ t. (slice_index_or states t no_progress).made == length (task_calls plan t))
    (λ t. occurrences t past == length (task_calls plan t)) plan.sizes.tasks
    (λ t low. ap (λ p. p.made == length (task_calls plan t)) (kept_at plan past states t stand low))

-- the answer for a call that is its task's next one, and for a task that has none left
pub come_as_kept : (plan : Plan) → IsPlan plan → (past : List ℕ) (states : List Progress) (t : ℕ) (c : Call) (b : Bool)
    → states ≡ progress_after plan past → t < plan.sizes.tasks
    → slice_get (task_calls plan t) (slice_index_or states t no_progress).made ≡ Some c
    → b ≡ is_free plan states t (touch_of t c) → b ≡ may_come plan past t (slice_get (task_calls plan t) (occurrences t past))
come_as_kept plan ok past states t c b stand low next is =
    is ∙ (free_as_kept plan ok past states t c stand ∙
    ap (may_come plan past t) (sym next ∙ ap (λ p. slice_get (task_calls plan t) p.made) (kept_at plan past states t stand low)))

pub none_as_kept : (plan : Plan) (past : List ℕ) (states : List Progress) (t : ℕ) → states ≡ progress_after plan past
    → t < plan.sizes.tasks → slice_get (task_calls plan t) (slice_index_or states t no_progress).made ≡ None
    → false ≡ may_come plan past t (slice_get (task_calls plan t) (occurrences t past))
none_as_kept plan past states t stand low next =
    ap (may_come plan past t) (sym next ∙ ap (λ p. slice_get (task_calls plan t) p.made) (kept_at plan past states t stand low))

-- numbers that keep the groups, and one more
pub keeps_more : (plan : Plan) (numbers : List ℕ) (t : ℕ) (b : Bool) → keeps_groups plan [] numbers ≡ true
    → b ≡ may_come plan numbers t (slice_get (task_calls plan t) (occurrences t numbers))
    → keeps_groups plan [] (numbers ++ t ∷ []) ≡ b
keeps_more plan numbers t b keeps may =
    keeps_append plan [] numbers (t ∷ []) ∙
    (ap (λ a. a && (may_come plan numbers t (slice_get (task_calls plan t) (occurrences t numbers)) && true)) keeps ∙
    (and-true _ ∙ sym may))

-- numbers that don't keep the groups begin nothing that does
fails_on : (plan : Plan) (numbers rest : List ℕ) → keeps_groups plan [] numbers ≡ false → is_legal plan (numbers ++ rest) ≡ false
fails_on plan numbers rest fails =
    ap (λ b. b && is_complete plan (numbers ++ rest))
    (keeps_append plan [] numbers rest ∙ ap (λ b. b && keeps_groups plan numbers rest) fails)

-- the place of a number that may not come is the bad one
pub bad_here : (plan : Plan) → IsPlan plan → (order : List ℕ) (k : ℕ) → k < length order
    → keeps_groups plan [] (take k order) ≡ true → keeps_groups plan [] (take (k + 1) order) ≡ false → IsBadPlace plan order k
bad_here plan ok order k low keeps fails = record {
  illegal = ap (is_legal plan) (sym (take-append-drop (k + 1) order)) ∙
      fails_on plan (take (k + 1) order) (drop (k + 1) order) fails;
  before = begins plan ok (take k order) keeps;
  ends = inl (low, λ b. true≢false (sym b.1 ∙ fails_on plan (take (k + 1) order) b.0 fails));
}

-- where each number may come and calls are left, the order's length is the bad place
pub bad_at_end : (plan : Plan) → IsPlan plan → (order : List ℕ) → keeps_groups plan [] order ≡ true
    → is_complete plan order ≡ false → IsBadPlace plan order (length order)
bad_at_end plan ok order keeps short = record {
  illegal = ap (λ b. keeps_groups plan [] order && b) short ∙ and-false (keeps_groups plan [] order);
  before = subst (Begins plan) (sym (take_all (length order) order (omega arith))) (begins plan ok order keeps);
  ends = inr refl;
}

-- the test of one task, by whether it is the task itself and whether its group holds what the call touches
pub kept_off_so : (a b : Bool) → a ≡ false → b ≡ true → (a || not b) ≡ false
kept_off_so true b e h = absurd (true≢false e)
kept_off_so false true e h = refl
kept_off_so false false e h = absurd (false≢true h)

pub let_in_so : (a b : Bool) → b ≡ false → (a || not b) ≡ true
let_in_so true b h = refl
let_in_so false true h = absurd (true≢false h)
let_in_so false false h = refl

pub own_so : (a b : Bool) → a ≡ true → (a || not b) ≡ true
own_so true b h = refl
own_so false b h = absurd (false≢true h)

-- a list that was written whole over one of its length
pub written_whole : {X : Type 0} (new old : List X) (len : ℕ) → length new ≡ len → take len (new ++ drop (length new) old) ≡ new
written_whole new old len is =
    let e : len ≤ length new = omega arith in
    take-append-le len new (drop (length new) old) e ∙ take_all len new (omega arith)

-- the numbers up to the next place, and the past after it
past_more : (order numbers : List ℕ) (k : ℕ) → numbers ≡ order → k < length numbers
    → take (k + 1) order ≡ take k order ++ slice_index_or numbers k 0 ∷ []
past_more order numbers k same low =
    subst (λ o. take (k + 1) o ≡ take k o ++ slice_index_or numbers k 0 ∷ []) same (take_more numbers k 0 low)

-- whether the numbers keep the groups up to the next place
pub keeps_step : (plan : Plan) (order numbers : List ℕ) (k : ℕ) (b : Bool) → numbers ≡ order → k < length numbers
    → keeps_groups plan [] (take k order) ≡ true
    → b ≡ may_come plan (take k order) (slice_index_or numbers k 0)
    (slice_get (task_calls plan (slice_index_or numbers k 0)) (occurrences (slice_index_or numbers k 0) (take k order)))
    → keeps_groups plan [] (take (k + 1) order) ≡ b
keeps_step plan order numbers k b same low keeps may =
    ap (keeps_groups plan []) (past_more order numbers k same low) ∙
    keeps_more plan (take k order) (slice_index_or numbers k 0) b keeps may

-- what is kept in a vector of which all was written
pub kept_step : (plan : Plan) (order numbers : List ℕ) (k : ℕ) (old new : List Progress) (len : ℕ) → numbers ≡ order
    → k < length numbers → len ≡ plan.sizes.tasks
    → new ≡ progress_after plan (take k order ++ slice_index_or numbers k 0 ∷ [])
    → take len (new ++ drop (length new) old) ≡ progress_after plan (take (k + 1) order)
kept_step plan order numbers k old new len same low long made =
    written_whole new old len (kept_length plan _ new made ∙ sym long) ∙
    (made ∙ ap (progress_after plan) (sym (past_more order numbers k same low)))

-- a whole order
pub keeps_whole : (order numbers : List ℕ) (k : ℕ) → numbers ≡ order → length numbers ≤ k → take k order ≡ order
keeps_whole order numbers k same high = subst (λ o. take k o ≡ o) same (take_all k numbers high)
