-- The merge of two bands for a symmetric difference, edge by edge.
use Rattle.std.proofs.Common.{◌≡◌, ℕ, ◌+◌, ◌*◌, ◌≤◌, ◌<◌, Bool, true, false, cond, not, ◌&&◌, ◌||◌, List, [], ◌∷◌, ◌++◌, length, ℤ, pos, negsuc, ◌+ℤ◌, ◌-ℤ◌, ◌≤ℤ◌, ◌<ℤ◌, refl, ap, sym, ◌∙◌, arith}
use Rattle.std.specs.Prelude.{int_le}
use Rattle.std.proofs.lemmas.Int.{ints, by_lt_z}
use Rattle.std.proofs.lemmas.Bool.{false≢true}
use Rattle.lw_region.specs.declared.operation.Operation.TheVariants.{SymmetricDifference}
use Rattle.lw_region.specs.Rectangle.{Rectangle, within}
use Rattle.lw_region.specs.Bands.{Run}
use Rattle.lw_region.specs.Banded.{in_runs, StartsAfter, AreRuns}
use Rattle.lw_region.specs.Columns.{columns, first_column, first_end, others, next_bound, behind_bound, some_run, run_rectangles, IsRowOf}
use Rattle.lw_region.proofs.Within.{within_true, within_below, within_above}
use Rattle.lw_region.proofs.Runs.{in_runs_nil, starts_after_less, none_before, in_first, in_rest}
use Rattle.lw_region.proofs.Columns.{le_true, le_false, within_none, RowState, due_of, row_begin, row_move, row_push, row_done}

-- the columns at which the runs begin and are over, from left to right; the first run has begun already where `begun` says so.
abbrev pub edges : Bool → List Run → List ℤ
edges begun [] = []
edges true (r ∷ rs) = (r.last +ℤ pos 1) ∷ edges false rs
edges false (r ∷ rs) = r.first ∷ (r.last +ℤ pos 1) ∷ edges false rs

-- the tests differ
abbrev pub differ : Bool → Bool → Bool
differ p q = (p && not q) || (q && not p)

-- an odd number of these columns are none after column x
abbrev pub is_odd : List ℤ → ℤ → Bool
is_odd [] x = false
is_odd (z ∷ zs) x = differ (int_le z x) (is_odd zs x)

-- the columns of the open run, if there is one, and of what is left of either band and not of the other
abbrev pub left_either : Bool → ℤ → Bool → List Rectangle → Bool → List Rectangle → ℤ → Bool
left_either opened start begun_a a begun_b b x =
    differ (opened && int_le start x) (differ (is_odd (edges begun_a (columns a)) x) (is_odd (edges begun_b (columns b)) x))

pub record EitherState (top bottom : ℤ) (before : List Rectangle) (due : ℤ → Bool) (a b : List Rectangle) (begun_a begun_b : Bool) (start : ℤ) (out : List Rectangle) : Type 0 where
  pub row : RowState top bottom before due (cond (differ begun_a begun_b) start (start +ℤ pos 1)) (left_either (differ begun_a begun_b) start begun_a a begun_b b) out
  pub are_a : AreRuns (columns a)
  pub are_b : AreRuns (columns b)
  pub some_a : begun_a ≡ true → 0 < length a
  pub some_b : begun_b ≡ true → 0 < length b
  pub ahead_a : start <ℤ next_bound begun_a a
  pub ahead_b : start <ℤ next_bound begun_b b
  pub low : differ begun_a begun_b ≡ true → negsuc 32767 ≤ℤ start

-- left of the runs there is no edge
none_odd : (rs : List Run) (x : ℤ) → AreRuns rs → StartsAfter x rs → is_odd (edges false rs) x ≡ false
none_odd [] x h k = refl
none_odd (r ∷ rs) x h k =
    let o = h.0 in
    let p : is_odd (edges false rs) x ≡ false = none_odd rs x h.2 (starts_after_less x (r.last +ℤ pos 1) rs (omega (arith, ints)) h.1) in
    rw (le_false r.first x k, le_false (r.last +ℤ pos 1) x (omega (arith, ints)), p) refl

differ_twice : (w : Bool) → differ true (differ true w) ≡ w
differ_twice true = refl
differ_twice false = refl

-- a column is in the runs where it has an odd number of edges
in_odd : (rs : List Run) (x : ℤ) → AreRuns rs → is_odd (edges false rs) x ≡ in_runs rs x
in_odd [] x h = sym (in_runs_nil x)
in_odd (r ∷ rs) x h =
    let o = h.0 in
    by_lt_z x r.first
    (λ a. none_odd (r ∷ rs) x h a ∙ sym (none_before (r ∷ rs) x h a))
    (λ a. by_lt_z r.last x
    (λ b. rw (le_true r.first x a, le_true (r.last +ℤ pos 1) x (omega (arith, ints))) (differ_twice (is_odd (edges false rs) x)) ∙ (in_odd rs x h.2 ∙ sym (in_rest r rs x b)))
    (λ b. let p : is_odd (edges false rs) x ≡ false = none_odd rs x h.2 (starts_after_less x (r.last +ℤ pos 1) rs (omega (arith, ints)) h.1) in
    rw (le_true r.first x a, le_false (r.last +ℤ pos 1) x (omega (arith, ints)), p) refl ∙ sym (in_first r rs x a b)))

-- what one edge leaves
pub record EdgeStep (begun : Bool) (a : List Rectangle) : Type 0 where
  pub edge : edges begun (columns a) ≡ next_bound begun a ∷ edges (not begun) (columns (behind_bound begun a))
  pub are : AreRuns (columns (behind_bound begun a))
  pub some : not begun ≡ true → 0 < length (behind_bound begun a)
  pub next : next_bound begun a <ℤ next_bound (not begun) (behind_bound begun a)
  pub none : (x : ℤ) → x <ℤ next_bound begun a → is_odd (edges (not begun) (columns (behind_bound begun a))) x ≡ false

-- the first rectangle begins after a column before the end
starts_first : (a : List Rectangle) (x : ℤ) → StartsAfter x (columns a) → x <ℤ pos 65536 → x <ℤ first_column a
unfolding first_column
starts_first [] x h k = k
starts_first (r ∷ rs) x h k = h

pub edge_step : (begun : Bool) (a : List Rectangle) → 0 < length a → AreRuns (columns a) → next_bound begun a ≤ℤ pos 32768 → EdgeStep begun a
unfolding next_bound behind_bound first_end first_column others
edge_step begun [] n h k = absurd (omega arith)
edge_step true (r ∷ rs) n h k =
    record {
      edge = refl;
      are = h.2;
      some = λ e. absurd (false≢true e);
      next = starts_first rs (r.max_x +ℤ pos 1) h.1 (omega (arith, ints));
      none = λ x l. none_odd (columns rs) x h.2 (starts_after_less x (r.max_x +ℤ pos 1) (columns rs) (omega (arith, ints)) h.1);
    }
edge_step false (r ∷ rs) n h k =
    let o = h.0 in
    record {
      edge = refl;
      are = h;
      some = λ e. n;
      next = omega (arith, ints);
      none = λ x l.
          let p : is_odd (edges false (columns rs)) x ≡ false = none_odd (columns rs) x h.2 (starts_after_less x (r.max_x +ℤ pos 1) (columns rs) (omega (arith, ints)) h.1) in
          rw (le_false (r.max_x +ℤ pos 1) x (omega (arith, ints)), p) refl;
    }

-- before the next edge there is none
none_edge : (begun : Bool) (a : List Rectangle) (x : ℤ) → AreRuns (columns a) → x <ℤ next_bound begun a → is_odd (edges begun (columns a)) x ≡ false
unfolding next_bound first_end first_column
none_edge begun [] x h k = refl
none_edge true (r ∷ rs) x h k =
    let p : is_odd (edges false (columns rs)) x ≡ false = none_odd (columns rs) x h.2 (starts_after_less x (r.max_x +ℤ pos 1) (columns rs) (omega (arith, ints)) h.1) in
    rw (le_false (r.max_x +ℤ pos 1) x k, p) refl
none_edge false (r ∷ rs) x h k = none_odd (columns (r ∷ rs)) x h k

-- an edge in the range is one of a rectangle
pub some_edge : (begun : Bool) (a : List Rectangle) → (begun ≡ true → 0 < length a) → next_bound begun a <ℤ pos 65536 → 0 < length a
unfolding next_bound first_end first_column
some_edge true a h k = h refl
some_edge false [] h k = absurd (omega (arith, ints))
some_edge false (r ∷ rs) h k = omega arith

pub differ_comm : (p q : Bool) → differ p q ≡ differ q p
differ_comm true true = refl
differ_comm true false = refl
differ_comm false true = refl
differ_comm false false = refl

pub differ_not : (p q : Bool) → differ (not p) (not q) ≡ differ p q
differ_not true true = refl
differ_not true false = refl
differ_not false true = refl
differ_not false false = refl

pub differ_first : (p q : Bool) → differ (not p) q ≡ not (differ p q)
differ_first true true = refl
differ_first true false = refl
differ_first false true = refl
differ_first false false = refl

pub differ_second : (p q : Bool) → differ p (not q) ≡ not (differ p q)
differ_second true true = refl
differ_second true false = refl
differ_second false true = refl
differ_second false false = refl

differ_none : (p : Bool) → differ false p ≡ p
differ_none true = refl
differ_none false = refl

-- an edge that both bands have
both_edges : (o c p q : Bool) → differ o (differ (differ c p) (differ c q)) ≡ differ o (differ p q)
both_edges o true true true = refl
both_edges o true true false = refl
both_edges o true false true = refl
both_edges o true false false = refl
both_edges o false true true = refl
both_edges o false true false = refl
both_edges o false false true = refl
both_edges o false false false = refl

-- an edge at which a run begins
opening_edge : (c p q : Bool) → differ (differ c p) q ≡ differ c (differ p q)
opening_edge true true true = refl
opening_edge true true false = refl
opening_edge true false true = refl
opening_edge true false false = refl
opening_edge false true true = refl
opening_edge false true false = refl
opening_edge false false true = refl
opening_edge false false false = refl

-- what is due up to an edge at which the open run is over
closing_edge : (start c x : ℤ) (p q : Bool) → start <ℤ c → (x <ℤ c → p ≡ false) → (x <ℤ c → q ≡ false)
    → differ (int_le start x) (differ (differ (int_le c x) p) q) ≡ (within start x (c -ℤ pos 1) || differ p q)
closing_edge start c x p q h k l =
    by_lt_z x c
    (λ a. rw (k a, l a, le_false c x a) (by_lt_z x start
    (λ b. rw (le_false start x b, within_below start x (c -ℤ pos 1) b) refl)
    (λ b. rw (le_true start x b, within_true start x (c -ℤ pos 1) b (omega (arith, ints))) refl)))
    (λ a. rw (le_true start x (omega (arith, ints)), le_true c x a, within_above start x (c -ℤ pos 1) (omega (arith, ints)))
    (ap (λ w. differ true w) (opening_edge true p q) ∙ differ_twice (differ p q)))

module _ (top bottom : ℤ) (before : List Rectangle) (due : ℤ → Bool) where
  -- the bands in the other order
  pub either_swap : (a b : List Rectangle) (begun_a begun_b : Bool) (start : ℤ) (out : List Rectangle)
      → EitherState top bottom before due a b begun_a begun_b start out → EitherState top bottom before due b a begun_b begun_a start out
  either_swap a b begun_a begun_b start out s =
      record {
        row = rw (differ_comm begun_b begun_a) (row_move top bottom before due _ _ (left_either (differ begun_a begun_b) start begun_a a begun_b b)
            (left_either (differ begun_a begun_b) start begun_b b begun_a a) out s.row (omega (arith, ints))
            (λ x. ap (λ w. differ (differ begun_a begun_b && int_le start x) w) (differ_comm (is_odd (edges begun_a (columns a)) x) (is_odd (edges begun_b (columns b)) x))));
        are_a = s.are_b;
        are_b = s.are_a;
        some_a = s.some_b;
        some_b = s.some_a;
        ahead_a = s.ahead_b;
        ahead_b = s.ahead_a;
        low = λ e. s.low (differ_comm begun_a begun_b ∙ e);
      }

  -- both bands change
  pub either_both : (a b a' b' : List Rectangle) (begun_a begun_b : Bool) (start : ℤ) (out : List Rectangle) → EitherState top bottom before due a b begun_a begun_b start out
      → EdgeStep begun_a a → EdgeStep begun_b b → next_bound begun_a a ≡ next_bound begun_b b → a' ≡ behind_bound begun_a a → b' ≡ behind_bound begun_b b
      → EitherState top bottom before due a' b' (not begun_a) (not begun_b) start out
  either_both a b a' b' begun_a begun_b start out s p q e f g =
      let na = p.next in
      let nb = q.next in
      let ha = s.ahead_a in
      let hb = s.ahead_b in
      rw (f, g) (record {
        row = rw (differ_not begun_a begun_b) (row_move top bottom before due _ _ (left_either (differ begun_a begun_b) start begun_a a begun_b b)
            (left_either (differ begun_a begun_b) start (not begun_a) (behind_bound begun_a a) (not begun_b) (behind_bound begun_b b)) out s.row (omega (arith, ints))
            (λ x. ap (λ w. differ (differ begun_a begun_b && int_le start x) (differ (is_odd w x) (is_odd (edges begun_b (columns b)) x))) p.edge
            ∙ (ap (λ w. differ (differ begun_a begun_b && int_le start x) (differ (is_odd (next_bound begun_a a ∷ edges (not begun_a) (columns (behind_bound begun_a a))) x) (is_odd w x)))
            (q.edge ∙ ap (λ w. w ∷ edges (not begun_b) (columns (behind_bound begun_b b))) (sym e))
            ∙ both_edges (differ begun_a begun_b && int_le start x) (int_le (next_bound begun_a a) x)
            (is_odd (edges (not begun_a) (columns (behind_bound begun_a a))) x) (is_odd (edges (not begun_b) (columns (behind_bound begun_b b))) x))));
        are_a = p.are;
        are_b = q.are;
        some_a = p.some;
        some_b = q.some;
        ahead_a = omega (arith, ints);
        ahead_b = omega (arith, ints);
        low = λ k. s.low (sym (differ_not begun_a begun_b) ∙ k);
      })

  -- the first band changes, at an edge at which a run is over or begins
  either_row : (o : Bool) (a b : List Rectangle) (begun_a begun_b : Bool) (start c : ℤ) (out out' : List Rectangle) → EdgeStep begun_a a → AreRuns (columns b)
      → RowState top bottom before due (cond o start (start +ℤ pos 1)) (left_either o start begun_a a begun_b b) out
      → start <ℤ c → c ≡ next_bound begun_a a → c <ℤ next_bound begun_b b → out' ≡ out ++ run_rectangles top bottom (some_run (cond o start c) (c -ℤ pos 1))
      → RowState top bottom before due (cond (not o) c (c +ℤ pos 1)) (left_either (not o) c (not begun_a) (behind_bound begun_a a) begun_b b) out'
  either_row true a b begun_a begun_b start c out out' p k s l e f g =
      row_push top bottom before due start (c +ℤ pos 1) start (c -ℤ pos 1) (left_either true start begun_a a begun_b b) (left_either false c (not begun_a) (behind_bound begun_a a) begun_b b)
      out out' s (λ h. omega (arith, ints)) (omega (arith, ints)) (λ h. omega (arith, ints))
      (λ x. ap (λ w. differ (int_le start x) (differ (is_odd w x) (is_odd (edges begun_b (columns b)) x))) (p.edge ∙ ap (λ w. w ∷ edges (not begun_a) (columns (behind_bound begun_a a))) (sym e))
      ∙ closing_edge start c x (is_odd (edges (not begun_a) (columns (behind_bound begun_a a))) x) (is_odd (edges begun_b (columns b)) x) l
      (λ h. p.none x (omega (arith, ints))) (λ h. none_edge begun_b b x k (omega (arith, ints)))
      ∙ ap (λ w. within start x (c -ℤ pos 1) || w) (sym (differ_none _))) g
  either_row false a b begun_a begun_b start c out out' p k s l e f g =
      row_push top bottom before due (start +ℤ pos 1) c c (c -ℤ pos 1) (left_either false start begun_a a begun_b b) (left_either true c (not begun_a) (behind_bound begun_a a) begun_b b)
      out out' s (λ h. absurd (omega (arith, ints))) (omega (arith, ints)) (λ h. absurd (omega (arith, ints)))
      (λ x. differ_none _ ∙ ap (λ w. differ (is_odd w x) (is_odd (edges begun_b (columns b)) x)) (p.edge ∙ ap (λ w. w ∷ edges (not begun_a) (columns (behind_bound begun_a a))) (sym e))
      ∙ (opening_edge (int_le c x) (is_odd (edges (not begun_a) (columns (behind_bound begun_a a))) x) (is_odd (edges begun_b (columns b)) x)
      ∙ ap (λ w. w || left_either true c (not begun_a) (behind_bound begun_a a) begun_b b x) (sym (within_none c x (c -ℤ pos 1) (omega (arith, ints)))))) g

  pub either_first : (a b a' : List Rectangle) (begun_a begun_b : Bool) (start c first : ℤ) (out out' : List Rectangle) → EitherState top bottom before due a b begun_a begun_b start out
      → EdgeStep begun_a a → c ≡ next_bound begun_a a → c <ℤ next_bound begun_b b → negsuc 32767 ≤ℤ c → a' ≡ behind_bound begun_a a → first ≡ cond (differ begun_a begun_b) start c
      → out' ≡ out ++ run_rectangles top bottom (some_run first (c -ℤ pos 1)) → EitherState top bottom before due a' b (not begun_a) begun_b c out'
  either_first a b a' begun_a begun_b start c first out out' s p e f l g h k =
      let n = p.next in
      let ha = s.ahead_a in
      rw g (record {
        row = rw (differ_first begun_a begun_b) (either_row (differ begun_a begun_b) a b begun_a begun_b start c out out' p s.are_b s.row (omega (arith, ints)) e f
            (k ∙ ap (λ w. out ++ run_rectangles top bottom (some_run w (c -ℤ pos 1))) h));
        are_a = p.are;
        are_b = s.are_b;
        some_a = p.some;
        some_b = s.some_b;
        ahead_a = omega (arith, ints);
        ahead_b = f;
        low = λ z. l;
      })

-- where the merge begins
pub either_start : (top bottom : ℤ) (before a b : List Rectangle) (start : ℤ) → AreRuns (columns a) → AreRuns (columns b) → start <ℤ first_column a → start <ℤ first_column b
    → EitherState top bottom before (due_of SymmetricDifference a b) a b false false start before
unfolding next_bound
either_start top bottom before a b start h k l m =
    record {
      row = row_begin top bottom before (due_of SymmetricDifference a b) (start +ℤ pos 1) (left_either false start false a false b)
          (λ x. ap (λ w. differ w (in_runs (columns b) x)) (sym (in_odd (columns a) x h)) ∙ (ap (λ w. differ (is_odd (edges false (columns a)) x) w) (sym (in_odd (columns b) x k)) ∙ sym (differ_none _)));
      are_a = h;
      are_b = k;
      some_a = λ e. absurd (false≢true e);
      some_b = λ e. absurd (false≢true e);
      ahead_a = l;
      ahead_b = m;
      low = λ e. absurd (false≢true e);
    }

-- where it ends
either_end_step : (top bottom : ℤ) (before a b : List Rectangle) (begun_a begun_b : Bool) (start : ℤ) (out : List Rectangle)
    → EitherState top bottom before (due_of SymmetricDifference a b) [] [] begun_a begun_b start out → IsRowOf SymmetricDifference a b top bottom before out
either_end_step top bottom before a b true begun_b start out s = absurd (omega (arith, s.some_a refl))
either_end_step top bottom before a b false true start out s = absurd (omega (arith, s.some_b refl))
either_end_step top bottom before a b false false start out s =
    row_done top bottom before (due_of SymmetricDifference a b) SymmetricDifference a b (start +ℤ pos 1) (left_either false start false [] false []) out (λ x. refl) s.row (λ x. refl)

pub either_end : (top bottom : ℤ) (before a b left_a left_b : List Rectangle) (begun_a begun_b : Bool) (start : ℤ) (out : List Rectangle)
    → EitherState top bottom before (due_of SymmetricDifference a b) left_a left_b begun_a begun_b start out → left_a ≡ [] → left_b ≡ []
    → IsRowOf SymmetricDifference a b top bottom before out
either_end top bottom before a b left_a left_b begun_a begun_b start out s e f =
    either_end_step top bottom before a b begun_a begun_b start out (rw e at (rw f at s))

-- there is room for each run that may still be added
abbrev pub HaveRoom : ℕ → ℕ → Bool → ℕ → Type 0
HaveRoom len edges_left opened capacity = 2 * len + (edges_left + cond opened 1 0) ≤ 2 * capacity

pub room_edge : (o : Bool) (len len' n n' m capacity capacity' : ℕ) → HaveRoom len (n + m) o capacity → n ≡ 1 + n' → capacity' ≡ capacity → len' ≤ len + 1 → (o ≡ false → len' ≡ len)
    → HaveRoom len' (n' + m) (not o) capacity'
room_edge true len len' n n' m capacity capacity' h e f k l = omega arith
room_edge false len len' n n' m capacity capacity' h e f k l = omega (arith, l refl)

-- each rectangle has two edges
pub edges_long : (a : List Rectangle) → length (edges false (columns a)) ≡ 2 * length a
edges_long [] = refl
edges_long (r ∷ rs) = omega (arith, edges_long rs)

-- one edge fewer
pub edges_fewer : (begun : Bool) (a a' : List Rectangle) → EdgeStep begun a → a' ≡ behind_bound begun a → length (edges begun (columns a)) ≡ 1 + length (edges (not begun) (columns a'))
edges_fewer begun a a' s e = let f = ap length s.edge in rw e (omega arith)

-- the run that is over, if there is one, is in the range
pub open_low : (o : Bool) (start c first : ℤ) → first ≡ cond o start c → (o ≡ true → negsuc 32767 ≤ℤ start) → first ≤ℤ (c -ℤ pos 1) → negsuc 32767 ≤ℤ first
open_low true start c first e h k = let l = h refl in omega (arith, ints)
open_low false start c first e h k = absurd (omega (arith, ints))

-- and there is room for it
pub open_room : (o : Bool) (start c first : ℤ) (len n capacity : ℕ) → first ≡ cond o start c → HaveRoom len n o capacity → 0 < n → first ≤ℤ (c -ℤ pos 1) → len < capacity
open_room true start c first len n capacity e h l k = omega arith
open_room false start c first len n capacity e h l k = absurd (omega (arith, ints))

-- where none is over
pub closed_first : (o : Bool) (start c first : ℤ) → first ≡ cond o start c → o ≡ false → (c -ℤ pos 1) <ℤ first
closed_first true start c first e f = absurd (false≢true (sym f))
closed_first false start c first e f = omega (arith, ints)
