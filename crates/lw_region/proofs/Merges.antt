-- The merges of two bands for a union, an intersection and a difference, step by step.
use Rattle.std.proofs.Common.{◌≡◌, ◌+◌, ◌<◌, Bool, true, false, not, ◌&&◌, ◌||◌, ◌⊎◌, inl, inr, List, [], ◌∷◌, ◌++◌, length, ℤ, pos, negsuc, ◌+ℤ◌, ◌-ℤ◌, ◌≤ℤ◌, ◌<ℤ◌, refl, ap, sym, ◌∙◌, arith}
use Rattle.std.specs.Prelude.{int_le}
use Rattle.std.specs.Int.{int_min, int_max}
use Rattle.std.proofs.lemmas.Int.{ints, clamps, by_lt_z}
use Rattle.std.proofs.lemmas.Bool.{false≢true, or_from, or_left, or_right, and_left, and_right}
use Rattle.std.proofs.Math.Bool.{and-true, or-false, and-false, and_comm}
use Rattle.lw_region.specs.declared.operation.Operation.TheVariants.{Union, Intersection, Difference}
use Rattle.lw_region.specs.Rectangle.{Rectangle, within}
use Rattle.lw_region.specs.Bands.{Run}
use Rattle.lw_region.specs.Banded.{in_runs, StartsAfter, AreRuns}
use Rattle.lw_region.specs.Columns.{columns, first_column, first_end, others, some_run, run_rectangles, IsRowOf}
use Rattle.lw_region.proofs.Within.{within_true, within_below, within_above, within_both}
use Rattle.lw_region.proofs.Runs.{in_runs_nil, in_runs_cons, starts_after_less, none_before, in_first, in_rest}
use Rattle.lw_region.proofs.Columns.{le_true, le_false, within_none, RowState, due_of, row_begin, row_move, row_push, row_end, row_done}

-- the tests in the other order
or_comm : (p q : Bool) → (p || q) ≡ (q || p)
or_comm true true = refl
or_comm true false = refl
or_comm false q = sym (or-false q)

-- no rectangle has no column
pub none_in : (a : List Rectangle) (x : ℤ) → length a ≡ 0 → in_runs (columns a) x ≡ false
none_in [] x h = in_runs_nil x
none_in (r ∷ rs) x h = absurd (omega arith)

-- what begins early is there
pub some_early : (a : List Rectangle) (x : ℤ) → first_column a ≤ℤ x → x <ℤ pos 65536 → 0 < length a
unfolding first_column
some_early [] x h k = absurd (omega (arith, ints))
some_early (r ∷ rs) x h k = omega arith

-- the first of two bands begins in the range
pub first_inside : (a b : List Rectangle) (m p q : ℤ) → 0 < length a + length b → (0 < length a → p ≤ℤ m) → (0 < length b → q ≤ℤ m) → int_min p q ≤ℤ m
first_inside [] b m p q n h k = let i = k (omega arith) in omega (arith, ints, clamps)
first_inside (r ∷ rs) b m p q n h k = let i = h (omega arith) in omega (arith, ints, clamps)

-- one rectangle fewer
pub others_fewer : (a : List Rectangle) → 0 < length a → length (others a) < length a
unfolding others
others_fewer [] h = absurd (omega arith)
others_fewer (r ∷ rs) h = omega arith

-- The merge for a union: the columns of the open run and of what is left of both bands.
abbrev pub left_union : ℤ → ℤ → List Rectangle → List Rectangle → ℤ → Bool
left_union start end a b x = within start x end || (in_runs (columns a) x || in_runs (columns b) x)

pub record UnionState (top bottom : ℤ) (before : List Rectangle) (due : ℤ → Bool) (a b : List Rectangle) (start end : ℤ) (out : List Rectangle) : Type 0 where
  pub row : RowState top bottom before due start (left_union start end a b) out
  pub are_a : AreRuns (columns a)
  pub are_b : AreRuns (columns b)
  pub behind_a : StartsAfter (start -ℤ pos 1) (columns a)
  pub behind_b : StartsAfter (start -ℤ pos 1) (columns b)
  pub ordered : start ≤ℤ (end +ℤ pos 1)
  pub low : negsuc 32767 ≤ℤ start
  pub most : end ≤ℤ pos 32767

-- what begins in the open run or right after it
absorbed : (start end first last x : ℤ) → start ≤ℤ first → first ≤ℤ (end +ℤ pos 1) → first ≤ℤ last
    → (within start x end || within first x last) ≡ within start x (int_max end last)
absorbed start end first last x h k l =
    by_lt_z x start
    (λ a. or_from _ _ (within_below start x end a) (within_below first x last (omega (arith, ints))) ∙ sym (within_below start x (int_max end last) a))
    (λ a. by_lt_z (int_max end last) x
    (λ b. or_from _ _ (within_above start x end (omega (arith, ints, clamps))) (within_above first x last (omega (arith, ints, clamps))) ∙ sym (within_above start x (int_max end last) b))
    (λ b. by_lt_z end x
    (λ d. or_right _ _ (within_true first x last (omega (arith, ints)) (omega (arith, ints, clamps))) ∙ sym (within_true start x (int_max end last) a b))
    (λ d. or_left _ _ (within_true start x end a d) ∙ sym (within_true start x (int_max end last) a b))))

or_regroup : (w p q b : Bool) → (w || ((p || q) || b)) ≡ ((w || p) || (q || b))
or_regroup true p q b = refl
or_regroup false true q b = refl
or_regroup false false q b = refl

-- runs that start after a run start after where it begins
starts_on : (x first last : ℤ) (rs : List Run) → x ≤ℤ first → first ≤ℤ last → StartsAfter (last +ℤ pos 1) rs → StartsAfter (x -ℤ pos 1) rs
starts_on x first last rs h k s = starts_after_less (x -ℤ pos 1) (last +ℤ pos 1) rs (omega (arith, ints)) s

module _ (top bottom : ℤ) (before : List Rectangle) (due : ℤ → Bool) where
  -- the bands in the other order
  pub union_swap : (a b : List Rectangle) (start end : ℤ) (out : List Rectangle)
      → UnionState top bottom before due a b start end out → UnionState top bottom before due b a start end out
  union_swap a b start end out s =
      record {
        row = row_move top bottom before due start start (left_union start end a b) (left_union start end b a) out s.row (omega (arith, ints))
            (λ x. ap (λ w. within start x end || w) (or_comm (in_runs (columns a) x) (in_runs (columns b) x)));
        are_a = s.are_b;
        are_b = s.are_a;
        behind_a = s.behind_b;
        behind_b = s.behind_a;
        ordered = s.ordered;
        low = s.low;
        most = s.most;
      }

  -- the open run takes in a rectangle
  pub union_take : (a b : List Rectangle) (start end end' : ℤ) (out a' : List Rectangle) → UnionState top bottom before due a b start end out
      → first_column a ≤ℤ (end +ℤ pos 1) → end' ≡ int_max end (first_end a) → end' ≤ℤ pos 32767 → a' ≡ others a
      → UnionState top bottom before due a' b start end' out
  unfolding first_column first_end others
  union_take [] b start end end' out a' s h e m f = let k = s.most in absurd (omega (arith, ints))
  union_take (r ∷ rs) b start end end' out a' s h e m f =
      let p = s.are_a.0 in
      let q = s.behind_a in
      let o = s.ordered in
      rw (f, e) (record {
        row = row_move top bottom before due start start (left_union start end (r ∷ rs) b) (left_union start (int_max end r.max_x) rs b) out s.row (omega (arith, ints))
            (λ x. ap (λ w. within start x end || (w || in_runs (columns b) x)) (in_runs_cons (record { first = r.min_x; last = r.max_x }) (columns rs) x)
            ∙ (or_regroup (within start x end) (within r.min_x x r.max_x) (in_runs (columns rs) x) (in_runs (columns b) x)
            ∙ ap (λ w. w || (in_runs (columns rs) x || in_runs (columns b) x)) (absorbed start end r.min_x r.max_x x (omega (arith, ints)) h p)));
        are_a = s.are_a.2;
        are_b = s.are_b;
        behind_a = starts_on start r.min_x r.max_x (columns rs) (omega (arith, ints)) p s.are_a.1;
        behind_b = s.behind_b;
        ordered = omega (arith, ints, clamps);
        low = s.low;
        most = omega (arith, ints);
      })

  -- what begins no earlier starts there
  starts_least : (a : List Rectangle) (x : ℤ) → x ≤ℤ first_column a → StartsAfter (x -ℤ pos 1) (columns a)
  unfolding first_column
  starts_least [] x h = tt
  starts_least (r ∷ rs) x h = omega (arith, ints)

  -- the open run is over
  pub union_close : (a b : List Rectangle) (start end start' end' : ℤ) (out out' : List Rectangle) → UnionState top bottom before due a b start end out
      → (end +ℤ pos 1) <ℤ first_column a → (end +ℤ pos 1) <ℤ first_column b → start' ≡ int_min (first_column a) (first_column b) → end' ≡ start' -ℤ pos 1
      → start' ≤ℤ pos 32768 → out' ≡ out ++ run_rectangles top bottom (some_run start end)
      → UnionState top bottom before due a b start' end' out'
  union_close a b start end start' end' out out' s h k e f m g =
      let o = s.ordered in
      let l = s.low in
      record {
        row = row_push top bottom before due start start' start end (left_union start end a b) (left_union start' end' a b) out out' s.row
            (λ p. omega (arith, ints)) (omega (arith, ints, clamps)) (λ p. omega (arith, ints, clamps))
            (λ x. ap (λ w. within start x end || (w || (in_runs (columns a) x || in_runs (columns b) x))) (sym (within_none start' x end' (omega (arith, ints))))) g;
        are_a = s.are_a;
        are_b = s.are_b;
        behind_a = starts_least a start' (omega (arith, ints, clamps));
        behind_b = starts_least b start' (omega (arith, ints, clamps));
        ordered = omega (arith, ints);
        low = omega (arith, ints, clamps);
        most = omega (arith, ints);
      }

-- where the merge begins
pub union_start : (top bottom : ℤ) (before a b : List Rectangle) (start end : ℤ) → AreRuns (columns a) → AreRuns (columns b)
    → start ≡ int_min (first_column a) (first_column b) → end ≡ start -ℤ pos 1 → negsuc 32767 ≤ℤ start → start ≤ℤ pos 32768
    → UnionState top bottom before (due_of Union a b) a b start end before
union_start top bottom before a b start end h k e f l m =
    record {
      row = row_begin top bottom before (due_of Union a b) start (left_union start end a b)
          (λ x. ap (λ w. w || (in_runs (columns a) x || in_runs (columns b) x)) (sym (within_none start x end (omega (arith, ints)))));
      are_a = h;
      are_b = k;
      behind_a = starts_least top bottom before (due_of Union a b) a start (omega (arith, ints, clamps));
      behind_b = starts_least top bottom before (due_of Union a b) b start (omega (arith, ints, clamps));
      ordered = omega (arith, ints);
      low = l;
      most = omega (arith, ints);
    }

-- where it ends
pub union_end : (top bottom : ℤ) (before a b left_a left_b : List Rectangle) (start end : ℤ) (out out' : List Rectangle)
    → UnionState top bottom before (due_of Union a b) left_a left_b start end out → left_a ≡ [] → left_b ≡ []
    → out' ≡ out ++ run_rectangles top bottom (some_run start end) → IsRowOf Union a b top bottom before out'
union_end top bottom before a b left_a left_b start end out out' s e f g =
    let t : UnionState top bottom before (due_of Union a b) [] [] start end out = (rw e at (rw f at s)) in
    row_done top bottom before (due_of Union a b) Union a b (int_max start (end +ℤ pos 2)) (λ x. false) out' (λ x. refl)
    (row_push top bottom before (due_of Union a b) start (int_max start (end +ℤ pos 2)) start end (left_union start end [] []) (λ x. false) out out' t.row
    (λ p. omega (arith, ints)) (omega (arith, ints, clamps)) (λ p. omega (arith, ints, clamps))
    (λ x. ap (λ w. within start x end || w) (or_from _ _ (in_runs_nil x) (in_runs_nil x))) g)
    (λ x. refl)

-- The merge for an intersection: the columns that what is left of both bands has in common.
abbrev pub left_common : List Rectangle → List Rectangle → ℤ → Bool
left_common a b x = in_runs (columns a) x && in_runs (columns b) x

-- column x is none after where the first runs have both begun
abbrev pub BothBehind : ℤ → List Rectangle → List Rectangle → Type 0
BothBehind x [] b = Unit {0}
BothBehind x (r ∷ rs) [] = Unit {0}
BothBehind x (r ∷ rs) (s ∷ ss) = x ≤ℤ int_max r.min_x s.min_x

pub record CommonState (top bottom : ℤ) (before : List Rectangle) (due : ℤ → Bool) (a b : List Rectangle) (out : List Rectangle) : Type 0 where
  pub at : ℤ
  pub row : RowState top bottom before due at (left_common a b) out
  pub are_a : AreRuns (columns a)
  pub are_b : AreRuns (columns b)
  pub behind : BothBehind at a b

and_or_regroup : (p q u v : Bool) → (p && v) ≡ false → ((p || q) && (u || v)) ≡ ((p && u) || (q && (u || v)))
and_or_regroup true q true v h = refl
and_or_regroup true q false true h = absurd (false≢true (sym h))
and_or_regroup true true false false h = refl
and_or_regroup true false false false h = refl
and_or_regroup false q u v h = refl

-- a run that ends no later than another one has no column of those after that
apart_from_rest : (r s : Rectangle) (ss : List Rectangle) (x : ℤ) → r.max_x ≤ℤ s.max_x → AreRuns (columns ss) → StartsAfter (s.max_x +ℤ pos 1) (columns ss)
    → (within r.min_x x r.max_x && in_runs (columns ss) x) ≡ false
apart_from_rest r s ss x h k l =
    by_lt_z s.max_x x
    (λ a. and_left _ _ (within_above r.min_x x r.max_x (omega (arith, ints))))
    (λ a. and_right _ _ (none_before (columns ss) x k (starts_after_less x (s.max_x +ℤ pos 1) (columns ss) (omega (arith, ints)) l)))

-- a list of runs without its first one
behind_next : (at x : ℤ) (r s : Rectangle) (rs ss : List Rectangle) → at ≤ℤ int_max r.min_x s.min_x → r.min_x ≤ℤ r.max_x → StartsAfter (r.max_x +ℤ pos 1) (columns rs)
    → BothBehind (int_max at (r.max_x +ℤ pos 2)) rs (s ∷ ss)
behind_next at x r s [] ss h k l = tt
behind_next at x r s (t ∷ ts) ss h k l = omega (arith, ints, clamps)

module _ (top bottom : ℤ) (before : List Rectangle) (due : ℤ → Bool) where
  -- the first rectangle that ends first is done with
  common_step : (r s : Rectangle) (rs ss : List Rectangle) (out out' : List Rectangle) → CommonState top bottom before due (r ∷ rs) (s ∷ ss) out → r.max_x ≤ℤ s.max_x
      → out' ≡ out ++ run_rectangles top bottom (some_run (int_max r.min_x s.min_x) (int_min r.max_x s.max_x)) → CommonState top bottom before due rs (s ∷ ss) out'
  common_step r s rs ss out out' c h e =
      let at = c.at in
      let p = c.are_a.0 in
      let b = c.behind in
      record {
        at = int_max at (r.max_x +ℤ pos 2);
        row = row_push top bottom before due at (int_max at (r.max_x +ℤ pos 2)) (int_max r.min_x s.min_x) (int_min r.max_x s.max_x)
            (left_common (r ∷ rs) (s ∷ ss)) (left_common rs (s ∷ ss)) out out' c.row
            (λ k. b) (omega (arith, ints, clamps)) (λ k. omega (arith, ints, clamps))
            (λ x. ap (λ w. w && in_runs (columns (s ∷ ss)) x) (in_runs_cons (record { first = r.min_x; last = r.max_x }) (columns rs) x)
            ∙ (ap (λ w. (within r.min_x x r.max_x || in_runs (columns rs) x) && w) (in_runs_cons (record { first = s.min_x; last = s.max_x }) (columns ss) x)
            ∙ (and_or_regroup (within r.min_x x r.max_x) (in_runs (columns rs) x) (within s.min_x x s.max_x) (in_runs (columns ss) x)
            (apart_from_rest r s ss x h c.are_b.2 c.are_b.1)
            ∙ (ap (λ w. w || (in_runs (columns rs) x && (within s.min_x x s.max_x || in_runs (columns ss) x))) (sym (within_both r.min_x s.min_x x r.max_x s.max_x))
            ∙ ap (λ w. within (int_max r.min_x s.min_x) x (int_min r.max_x s.max_x) || (in_runs (columns rs) x && w))
            (sym (in_runs_cons (record { first = s.min_x; last = s.max_x }) (columns ss) x)))))) e;
        are_a = c.are_a.2;
        are_b = c.are_b;
        behind = behind_next at at r s rs ss b p c.are_a.1;
      }

  -- no column is after more than the other way round
  behind_swap : (x : ℤ) (a b : List Rectangle) → BothBehind x a b → BothBehind x b a
  behind_swap x [] [] h = tt
  behind_swap x [] (s ∷ ss) h = tt
  behind_swap x (r ∷ rs) [] h = tt
  behind_swap x (r ∷ rs) (s ∷ ss) h = omega (arith, ints, clamps)

  -- the bands in the other order
  common_swap : (a b : List Rectangle) (out : List Rectangle) → CommonState top bottom before due a b out → CommonState top bottom before due b a out
  common_swap a b out c =
      record {
        at = c.at;
        row = row_move top bottom before due c.at c.at (left_common a b) (left_common b a) out c.row (omega (arith, ints)) (λ x. and_comm (in_runs (columns a) x) (in_runs (columns b) x));
        are_a = c.are_b;
        are_b = c.are_a;
        behind = behind_swap c.at a b c.behind;
      }

  -- a rectangle of the first band is done with
  pub common_first : (r s : Rectangle) (a b rs ss : List Rectangle) (first last : ℤ) (out out' : List Rectangle) → CommonState top bottom before due a b out
      → a ≡ r ∷ rs → b ≡ s ∷ ss → r.max_x ≤ℤ s.max_x → first ≡ int_max r.min_x s.min_x → last ≡ int_min r.max_x s.max_x
      → out' ≡ out ++ run_rectangles top bottom (some_run first last) → CommonState top bottom before due rs b out'
  common_first r s a b rs ss first last out out' c ea eb h f l e =
      rw eb (common_step r s rs ss out out' (rw ea at (rw eb at c)) h (e ∙ (ap (λ w. out ++ run_rectangles top bottom (some_run w last)) f ∙ ap (λ w. out ++ run_rectangles top bottom (some_run (int_max r.min_x s.min_x) w)) l)))

  -- a rectangle of the second band is done with
  pub common_second : (r s : Rectangle) (a b rs ss : List Rectangle) (first last : ℤ) (out out' : List Rectangle) → CommonState top bottom before due a b out
      → a ≡ r ∷ rs → b ≡ s ∷ ss → s.max_x ≤ℤ r.max_x → first ≡ int_max r.min_x s.min_x → last ≡ int_min r.max_x s.max_x
      → out' ≡ out ++ run_rectangles top bottom (some_run first last) → CommonState top bottom before due a ss out'
  common_second r s a b rs ss first last out out' c ea eb h f l e =
      common_swap ss a out' (common_first s r b a ss rs first last out out' (common_swap a b out c) eb ea h (omega (arith, ints, clamps)) (omega (arith, ints, clamps)) e)

-- nothing is after nothing
behind_start : (x : ℤ) (a b : List Rectangle) → AreRuns (columns a) → x ≤ℤ first_column a → BothBehind x a b
unfolding first_column
behind_start x [] b h k = tt
behind_start x (r ∷ rs) [] h k = tt
behind_start x (r ∷ rs) (s ∷ ss) h k = omega (arith, ints, clamps)

-- where the merge begins
pub common_start : (top bottom : ℤ) (before a b : List Rectangle) → AreRuns (columns a) → AreRuns (columns b)
    → CommonState top bottom before (due_of Intersection a b) a b before
common_start top bottom before a b h k =
    record {
      at = first_column a;
      row = row_begin top bottom before (due_of Intersection a b) (first_column a) (left_common a b) (λ x. refl);
      are_a = h;
      are_b = k;
      behind = behind_start (first_column a) a b h (omega (arith, ints));
    }

-- nothing is in common with nothing
common_none : (a b : List Rectangle) (x : ℤ) → (length a ≡ 0) ⊎ (length b ≡ 0) → left_common a b x ≡ false
common_none a b x (inl e) = and_left _ _ (none_in a x e)
common_none a b x (inr e) = and_right _ _ (none_in b x e)

-- where it ends
pub common_end : (top bottom : ℤ) (before a b left_a left_b out : List Rectangle) → CommonState top bottom before (due_of Intersection a b) left_a left_b out
    → (length left_a ≡ 0) ⊎ (length left_b ≡ 0) → IsRowOf Intersection a b top bottom before out
common_end top bottom before a b left_a left_b out c e =
    row_done top bottom before (due_of Intersection a b) Intersection a b c.at (left_common left_a left_b) out (λ x. refl) c.row (λ x. common_none left_a left_b x e)

-- The merge for a difference: the columns from `at` on that what is left of the first band has and what is left of the second has not.
abbrev pub left_apart : ℤ → List Rectangle → List Rectangle → ℤ → Bool
left_apart at a b x = int_le at x && (in_runs (columns a) x && not (in_runs (columns b) x))

-- what is due of the first rectangle begins at column `mark` or later, and is not over before column `at`
abbrev pub MarkBehind : ℤ → ℤ → List Rectangle → Type 0
MarkBehind mark at [] = Unit {0}
MarkBehind mark at (r ∷ rs) = (mark ≤ℤ int_max at r.min_x) × (at ≤ℤ r.max_x)

pub record ApartState (top bottom : ℤ) (before : List Rectangle) (due : ℤ → Bool) (a b : List Rectangle) (at : ℤ) (out : List Rectangle) : Type 0 where
  pub mark : ℤ
  pub row : RowState top bottom before due mark (left_apart at a b) out
  pub are_a : AreRuns (columns a)
  pub are_b : AreRuns (columns b)
  pub behind : MarkBehind mark at a
  pub ahead : StartsAfter (at -ℤ pos 1) (columns b)

apart_bools : (l p q b w : Bool) → w ≡ (l && (p && not b)) → (l && ((p || q) && not b)) ≡ (w || (l && (q && not b)))
apart_bools false p q b w e = ap (λ v. v || false) (sym e)
apart_bools true true true false w e = ap (λ v. v || true) (sym e)
apart_bools true true true true w e = ap (λ v. v || false) (sym e)
apart_bools true true false false w e = ap (λ v. v || false) (sym e)
apart_bools true true false true w e = ap (λ v. v || false) (sym e)
apart_bools true false q b w e = ap (λ v. v || (q && not b)) (sym e)

-- what is due of a run that ends no later than the next one that is taken out
piece_short : (at first last x : ℤ) (s : Run) (ss : List Run) → last ≤ℤ s.last → AreRuns (s ∷ ss)
    → within (int_max at first) x (int_min last (s.first -ℤ pos 1)) ≡ (int_le at x && (within first x last && not (in_runs (s ∷ ss) x)))
piece_short at first last x s ss h k =
    by_lt_z x at
    (λ a. within_below (int_max at first) x (int_min last (s.first -ℤ pos 1)) (omega (arith, ints, clamps)) ∙ sym (and_left _ _ (le_false at x a)))
    (λ a. by_lt_z x first
    (λ b. within_below (int_max at first) x (int_min last (s.first -ℤ pos 1)) (omega (arith, ints, clamps)) ∙ sym (and_right (int_le at x) _ (and_left _ _ (within_below first x last b))))
    (λ b. by_lt_z last x
    (λ d. within_above (int_max at first) x (int_min last (s.first -ℤ pos 1)) (omega (arith, ints, clamps)) ∙ sym (and_right (int_le at x) _ (and_left _ _ (within_above first x last d))))
    (λ d. by_lt_z x s.first
    (λ e. within_true (int_max at first) x (int_min last (s.first -ℤ pos 1)) (omega (arith, ints, clamps)) (omega (arith, ints, clamps))
    ∙ sym (rw (le_true at x a, within_true first x last b d, none_before (s ∷ ss) x k e) refl))
    (λ e. within_above (int_max at first) x (int_min last (s.first -ℤ pos 1)) (omega (arith, ints, clamps))
    ∙ sym (rw (le_true at x a, within_true first x last b d, in_first s ss x e (omega (arith, ints))) refl)))))

-- what is due up to a run that is taken out and ends earlier
piece_long : (at x : ℤ) (r s : Run) (rs ss : List Run) → s.last <ℤ r.last → at ≤ℤ s.first → AreRuns (r ∷ rs) → AreRuns (s ∷ ss)
    → (int_le at x && (in_runs (r ∷ rs) x && not (in_runs (s ∷ ss) x)))
    ≡ (within (int_max at r.first) x (int_min r.last (s.first -ℤ pos 1)) || (int_le (s.last +ℤ pos 1) x && (in_runs (r ∷ rs) x && not (in_runs ss x))))
piece_long at x r s rs ss h m j k =
    let o = k.0 in
    by_lt_z x at
    (λ a. and_left _ _ (le_false at x a)
    ∙ sym (or_from _ _ (within_below (int_max at r.first) x (int_min r.last (s.first -ℤ pos 1)) (omega (arith, ints, clamps))) (and_left _ _ (le_false (s.last +ℤ pos 1) x (omega (arith, ints))))))
    (λ a. by_lt_z x s.first
    (λ b. by_lt_z x r.first
    (λ d. and_right (int_le at x) _ (and_left _ _ (none_before (r ∷ rs) x j d))
    ∙ sym (or_from _ _ (within_below (int_max at r.first) x (int_min r.last (s.first -ℤ pos 1)) (omega (arith, ints, clamps))) (and_left _ _ (le_false (s.last +ℤ pos 1) x (omega (arith, ints))))))
    (λ d. rw (le_true at x a, in_first r rs x d (omega (arith, ints)), none_before (s ∷ ss) x k b) refl
    ∙ sym (or_left _ _ (within_true (int_max at r.first) x (int_min r.last (s.first -ℤ pos 1)) (omega (arith, ints, clamps)) (omega (arith, ints, clamps))))))
    (λ b. by_lt_z s.last x
    (λ d. ap (λ w. int_le at x && (in_runs (r ∷ rs) x && not w)) (in_rest s ss x d)
    ∙ (ap (λ w. w && (in_runs (r ∷ rs) x && not (in_runs ss x))) (le_true at x a ∙ sym (le_true (s.last +ℤ pos 1) x (omega (arith, ints))))
    ∙ ap (λ w. w || (int_le (s.last +ℤ pos 1) x && (in_runs (r ∷ rs) x && not (in_runs ss x)))) (sym (within_above (int_max at r.first) x (int_min r.last (s.first -ℤ pos 1)) (omega (arith, ints, clamps))))))
    (λ d. and_right (int_le at x) _ (ap (λ w. in_runs (r ∷ rs) x && not w) (in_first s ss x b d) ∙ and-false (in_runs (r ∷ rs) x))
    ∙ sym (or_from _ _ (within_above (int_max at r.first) x (int_min r.last (s.first -ℤ pos 1)) (omega (arith, ints, clamps))) (and_left _ _ (le_false (s.last +ℤ pos 1) x (omega (arith, ints))))))))

-- what is due of a run from which nothing more is taken out, and of those after it
piece_last : (at x : ℤ) (r : Run) (rs : List Run) → at ≤ℤ r.last → AreRuns (r ∷ rs)
    → (int_le at x && (in_runs (r ∷ rs) x && not (in_runs [] x))) ≡ (within (int_max at r.first) x r.last || in_runs rs x)
piece_last at x r rs h k =
    let o = k.0 in
    by_lt_z x at
    (λ a. and_left _ _ (le_false at x a)
    ∙ sym (or_from _ _ (within_below (int_max at r.first) x r.last (omega (arith, ints, clamps)))
    (none_before rs x k.2 (starts_after_less x (r.last +ℤ pos 1) rs (omega (arith, ints)) k.1))))
    (λ a. by_lt_z r.last x
    (λ b. rw (le_true at x a, in_rest r rs x b, in_runs_nil x, within_above (int_max at r.first) x r.last b) (and-true (in_runs rs x)))
    (λ b. by_lt_z x r.first
    (λ d. and_right (int_le at x) _ (and_left _ _ (none_before (r ∷ rs) x k d))
    ∙ sym (or_from _ _ (within_below (int_max at r.first) x r.last (omega (arith, ints, clamps)))
    (none_before rs x k.2 (starts_after_less x (r.last +ℤ pos 1) rs (omega (arith, ints)) k.1))))
    (λ d. rw (le_true at x a, in_first r rs x d b, in_runs_nil x) refl ∙ sym (or_left _ _ (within_true (int_max at r.first) x r.last (omega (arith, ints, clamps)) b)))))

-- the mark is none after the next rectangle
mark_next : (mark at x : ℤ) (rs : List Rectangle) (r : Rectangle) → mark ≤ℤ int_max at r.min_x → at ≤ℤ r.max_x → AreRuns (columns (r ∷ rs)) → MarkBehind (int_max mark (r.max_x +ℤ pos 2)) at rs
mark_next mark at x [] r h k l = tt
mark_next mark at x (t ∷ ts) r h k l =
    let p = l.0 in let q = l.1 in let o = l.2.0 in (omega (arith, ints, clamps), omega (arith, ints, clamps))

module _ (top bottom : ℤ) (before : List Rectangle) (due : ℤ → Bool) where
  -- a rectangle of the first band is done with
  apart_step_first : (r s : Rectangle) (rs ss : List Rectangle) (at : ℤ) (out out' : List Rectangle) → ApartState top bottom before due (r ∷ rs) (s ∷ ss) at out → r.max_x ≤ℤ s.max_x
      → out' ≡ out ++ run_rectangles top bottom (some_run (int_max at r.min_x) (int_min r.max_x (s.min_x -ℤ pos 1))) → ApartState top bottom before due rs (s ∷ ss) at out'
  apart_step_first r s rs ss at out out' c h e =
      let m = c.mark in
      let b = c.behind.0 in
      record {
        mark = int_max m (r.max_x +ℤ pos 2);
        row = row_push top bottom before due m (int_max m (r.max_x +ℤ pos 2)) (int_max at r.min_x) (int_min r.max_x (s.min_x -ℤ pos 1))
            (left_apart at (r ∷ rs) (s ∷ ss)) (left_apart at rs (s ∷ ss)) out out' c.row
            (λ k. b) (omega (arith, ints, clamps)) (λ k. omega (arith, ints, clamps))
            (λ x. ap (λ w. int_le at x && (w && not (in_runs (columns (s ∷ ss)) x))) (in_runs_cons (record { first = r.min_x; last = r.max_x }) (columns rs) x)
            ∙ apart_bools (int_le at x) (within r.min_x x r.max_x) (in_runs (columns rs) x) (in_runs (columns (s ∷ ss)) x) _
            (piece_short at r.min_x r.max_x x (record { first = s.min_x; last = s.max_x }) (columns ss) h c.are_b)) e;
        are_a = c.are_a.2;
        are_b = c.are_b;
        behind = mark_next m at at rs r b c.behind.1 c.are_a;
        ahead = c.ahead;
      }

  -- a rectangle of the second band is done with
  apart_step_second : (r s : Rectangle) (rs ss : List Rectangle) (at : ℤ) (out out' : List Rectangle) → ApartState top bottom before due (r ∷ rs) (s ∷ ss) at out → s.max_x <ℤ r.max_x
      → out' ≡ out ++ run_rectangles top bottom (some_run (int_max at r.min_x) (int_min r.max_x (s.min_x -ℤ pos 1))) → ApartState top bottom before due (r ∷ rs) ss (s.max_x +ℤ pos 1) out'
  apart_step_second r s rs ss at out out' c h e =
      let m = c.mark in
      let b = c.behind.0 in
      let a = c.ahead in
      let o = c.are_b.0 in
      record {
        mark = int_max m (s.min_x +ℤ pos 1);
        row = row_push top bottom before due m (int_max m (s.min_x +ℤ pos 1)) (int_max at r.min_x) (int_min r.max_x (s.min_x -ℤ pos 1))
            (left_apart at (r ∷ rs) (s ∷ ss)) (left_apart (s.max_x +ℤ pos 1) (r ∷ rs) ss) out out' c.row
            (λ k. b) (omega (arith, ints, clamps)) (λ k. omega (arith, ints, clamps))
            (λ x. piece_long at x (record { first = r.min_x; last = r.max_x }) (record { first = s.min_x; last = s.max_x }) (columns rs) (columns ss) h (omega (arith, ints)) c.are_a c.are_b) e;
        are_a = c.are_a;
        are_b = c.are_b.2;
        behind = (omega (arith, ints, clamps), omega (arith, ints));
        ahead = starts_after_less (s.max_x +ℤ pos 1 -ℤ pos 1) (s.max_x +ℤ pos 1) (columns ss) (omega (arith, ints)) c.are_b.1;
      }

  -- a rectangle of the first band is done with, by other terms
  pub apart_first : (r s : Rectangle) (a b rs ss : List Rectangle) (at first last : ℤ) (out out' : List Rectangle) → ApartState top bottom before due a b at out
      → a ≡ r ∷ rs → b ≡ s ∷ ss → r.max_x ≤ℤ s.max_x → first ≡ int_max at r.min_x → last ≡ int_min r.max_x (s.min_x -ℤ pos 1)
      → out' ≡ out ++ run_rectangles top bottom (some_run first last) → ApartState top bottom before due rs b at out'
  apart_first r s a b rs ss at first last out out' c ea eb h f l e =
      rw eb (apart_step_first r s rs ss at out out' (rw ea at (rw eb at c)) h
      (e ∙ (ap (λ w. out ++ run_rectangles top bottom (some_run w last)) f ∙ ap (λ w. out ++ run_rectangles top bottom (some_run (int_max at r.min_x) w)) l)))

  -- a rectangle of the second band is done with, by other terms
  pub apart_second : (r s : Rectangle) (a b rs ss : List Rectangle) (at at' first last : ℤ) (out out' : List Rectangle) → ApartState top bottom before due a b at out
      → a ≡ r ∷ rs → b ≡ s ∷ ss → s.max_x <ℤ r.max_x → at' ≡ s.max_x +ℤ pos 1 → first ≡ int_max at r.min_x → last ≡ int_min r.max_x (s.min_x -ℤ pos 1)
      → out' ≡ out ++ run_rectangles top bottom (some_run first last) → ApartState top bottom before due a ss at' out'
  apart_second r s a b rs ss at at' first last out out' c ea eb h g f l e =
      rw (ea, g) (apart_step_second r s rs ss at out out' (rw ea at (rw eb at c)) h
      (e ∙ (ap (λ w. out ++ run_rectangles top bottom (some_run w last)) f ∙ ap (λ w. out ++ run_rectangles top bottom (some_run (int_max at r.min_x) w)) l)))

-- the first rectangle is not over before it begins
mark_start : (at : ℤ) (a : List Rectangle) → AreRuns (columns a) → at ≤ℤ first_column a → MarkBehind at at a
unfolding first_column
mark_start at [] h k = tt
mark_start at (r ∷ rs) h k = let p = h.0 in (omega (arith, ints, clamps), omega (arith, ints))

-- no column is left of the first rectangle
none_first : (at x : ℤ) (a : List Rectangle) → AreRuns (columns a) → at ≤ℤ first_column a → x <ℤ at → in_runs (columns a) x ≡ false
unfolding first_column
none_first at x [] h k l = in_runs_nil x
none_first at x (r ∷ rs) h k l = none_before (columns (r ∷ rs)) x h (omega (arith, ints))

-- where the merge begins
pub apart_start : (top bottom : ℤ) (before a b : List Rectangle) (at : ℤ) → AreRuns (columns a) → AreRuns (columns b) → at ≤ℤ first_column a → at ≤ℤ first_column b
    → ApartState top bottom before (due_of Difference a b) a b at before
apart_start top bottom before a b at h k l m =
    record {
      mark = at;
      row = row_begin top bottom before (due_of Difference a b) at (left_apart at a b)
          (λ x. by_lt_z x at
          (λ p. and_left _ _ (none_first at x a h l p) ∙ sym (and_left _ _ (le_false at x p)))
          (λ p. ap (λ w. w && (in_runs (columns a) x && not (in_runs (columns b) x))) (sym (le_true at x p))));
      are_a = h;
      are_b = k;
      behind = mark_start at a h l;
      ahead = starts_least top bottom before (due_of Difference a b) b at m;
    }

-- where it ends, with nothing left of the first band
pub apart_end : (top bottom : ℤ) (before a b left_a left_b : List Rectangle) (at : ℤ) (out : List Rectangle) → ApartState top bottom before (due_of Difference a b) left_a left_b at out
    → length left_a ≡ 0 → IsRowOf Difference a b top bottom before out
apart_end top bottom before a b left_a left_b at out c e =
    row_done top bottom before (due_of Difference a b) Difference a b c.mark (left_apart at left_a left_b) out (λ x. refl) c.row
    (λ x. and_right (int_le at x) _ (and_left _ _ (none_in left_a x e)))

-- nothing more is taken out
apart_rest_step : (top bottom : ℤ) (before a b : List Rectangle) (r : Rectangle) (rs : List Rectangle) (at : ℤ) (out out' all : List Rectangle)
    → ApartState top bottom before (due_of Difference a b) (r ∷ rs) [] at out
    → out' ≡ out ++ run_rectangles top bottom (some_run (int_max at r.min_x) r.max_x) → all ≡ out' ++ run_rectangles top bottom (columns rs)
    → IsRowOf Difference a b top bottom before all
apart_rest_step top bottom before a b r rs at out out' all c e f =
    let m = c.mark in
    let p = c.behind.0 in
    let q = c.behind.1 in
    let o = c.are_a.0 in
    row_end top bottom before (due_of Difference a b) Difference a b (r.max_x +ℤ pos 2) (in_runs (columns rs)) (columns rs) out' all (λ x. refl)
    (row_push top bottom before (due_of Difference a b) m (r.max_x +ℤ pos 2) (int_max at r.min_x) r.max_x (left_apart at (r ∷ rs) []) (in_runs (columns rs)) out out' c.row
    (λ k. p) (omega (arith, ints, clamps)) (λ k. omega (arith, ints))
    (λ x. piece_last at x (record { first = r.min_x; last = r.max_x }) (columns rs) q c.are_a) e)
    c.are_a.2 (starts_after_less (r.max_x +ℤ pos 2 -ℤ pos 1) (r.max_x +ℤ pos 1) (columns rs) (omega (arith, ints)) c.are_a.1) (λ x. refl) f

-- an empty list
pub is_none : (a : List Rectangle) → length a ≡ 0 → a ≡ []
is_none [] h = refl
is_none (r ∷ rs) h = absurd (omega arith)

-- where it ends, with nothing left of the second band
pub apart_rest : (top bottom : ℤ) (before a b left_a left_b : List Rectangle) (r : Rectangle) (rs : List Rectangle) (at first last : ℤ) (out out' all : List Rectangle)
    → ApartState top bottom before (due_of Difference a b) left_a left_b at out → left_a ≡ r ∷ rs → length left_b ≡ 0 → first ≡ int_max at r.min_x → last ≡ r.max_x
    → out' ≡ out ++ run_rectangles top bottom (some_run first last) → all ≡ out' ++ run_rectangles top bottom (columns rs)
    → IsRowOf Difference a b top bottom before all
apart_rest top bottom before a b left_a left_b r rs at first last out out' all c ea eb f l e g =
    let n = is_none left_b eb in
    apart_rest_step top bottom before a b r rs at out out' all (rw ea at (rw n at c))
    (e ∙ (ap (λ w. out ++ run_rectangles top bottom (some_run w last)) f ∙ ap (λ w. out ++ run_rectangles top bottom (some_run (int_max at r.min_x) w)) l)) g
