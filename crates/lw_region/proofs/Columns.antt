-- What the merges of two bands have in common: runs are added after runs, and what is still due becomes less.
use Rattle.std.proofs.Common.{◌≡◌, ℕ, ◌+◌, ◌<◌, take, length, get_or, Bool, true, false, cond, ◌||◌, List, [], ◌∷◌, ◌++◌, ℤ, pos, ◌+ℤ◌, ◌-ℤ◌, ◌≤ℤ◌, ◌<ℤ◌, refl, ap, sym, ◌∙◌, arith, append_assoc}
use Rattle.std.specs.Prelude.{int_lt, int_le}
use Rattle.std.proofs.lemmas.Int.{ints, by_lt_z}
use Rattle.std.proofs.lemmas.List.{append-nil, map-append, take_more}
use Rattle.std.proofs.lemmas.List.Folds.{list_any-append}
use Rattle.std.proofs.Math.Bool.{or-false, or_assoc}
use Rattle.lw_region.specs.declared.operation.Operation.{Operation}
use Rattle.lw_region.specs.declared.operation.Operation.TheVariants.{Union, Intersection, SymmetricDifference, Difference}
use Rattle.lw_region.specs.Rectangle.{Rectangle, within}
use Rattle.lw_region.specs.Bands.{Run}
use Rattle.lw_region.specs.Banded.{in_runs, StartsAfter, AreRuns}
use Rattle.lw_region.specs.Operations.{holds}
use Rattle.lw_region.specs.Columns.{columns, some_run, run_rectangles, IsRowOf}
use Rattle.lw_region.proofs.Within.{within_below, within_above}
use Rattle.lw_region.proofs.Meet.{same_bounds}
use Rattle.lw_region.proofs.Runs.{in_runs_nil, in_runs_cons}

-- what is in neither set is in no result
pub holds_none : (operation : Operation) → holds operation false false ≡ false
holds_none Union = refl
holds_none Intersection = refl
holds_none SymmetricDifference = refl
holds_none Difference = refl

-- the test passes where it holds
pub le_true : (a b : ℤ) → a ≤ℤ b → int_le a b ≡ true
le_true a b h = grind (arith, ints)

-- the test fails where it does not hold
pub le_false : (a b : ℤ) → b <ℤ a → int_le a b ≡ false
le_false a b h = grind (arith, ints)

-- the strict test fails where it does not hold
pub le_lt_false : (a b : ℤ) → b ≤ℤ a → int_lt a b ≡ false
le_lt_false a b h = grind (arith, ints)

-- each run ends before column x, and leaves a column free there
abbrev pub EndBefore : ℤ → List Run → Type 0
EndBefore x [] = Unit {0}
EndBefore x (r ∷ rs) = ((r.last +ℤ pos 1) <ℤ x) × EndBefore x rs

-- runs that end before a column end before a later one
pub end_later : (x y : ℤ) (rs : List Run) → x ≤ℤ y → EndBefore x rs → EndBefore y rs
end_later x y [] h k = tt
end_later x y (r ∷ rs) h k = let p = k.0 in (omega (arith, ints), end_later x y rs h k.1)

-- two lists of runs that end in time
end_append : (x : ℤ) (rs ss : List Run) → EndBefore x rs → EndBefore x ss → EndBefore x (rs ++ ss)
end_append x [] ss h k = k
end_append x (r ∷ rs) ss h k = (h.0, end_append x rs ss h.1 k)

-- further runs change nothing at the first one, and where there is none they start as they do
starts_append : (z x : ℤ) (rs ss : List Run) → StartsAfter z rs → StartsAfter x ss → z ≤ℤ x → StartsAfter z (rs ++ ss)
starts_append z x [] [] h k l = tt
starts_append z x [] (s ∷ ss) h k l = omega (arith, ints)
starts_append z x (r ∷ rs) ss h k l = h

-- runs after runs
runs_append : (x : ℤ) (rs ss : List Run) → AreRuns rs → AreRuns ss → EndBefore x rs → StartsAfter (x -ℤ pos 1) ss → AreRuns (rs ++ ss)
runs_append x [] ss h k e f = k
runs_append x (r ∷ rs) ss h k e f =
    let p = e.0 in
    (h.0, starts_append (r.last +ℤ pos 1) (x -ℤ pos 1) rs ss h.1 f (omega (arith, ints)), runs_append x rs ss h.2 k e.1 f)

-- a column of either list of runs
in_append : (rs ss : List Run) (x : ℤ) → in_runs (rs ++ ss) x ≡ (in_runs rs x || in_runs ss x)
unfolding in_runs
in_append rs ss x = list_any-append (λ r. within r.first x r.last) rs ss

-- the rectangles of two lists of runs
rectangles_append : (top bottom : ℤ) (rs ss : List Run) → run_rectangles top bottom (rs ++ ss) ≡ run_rectangles top bottom rs ++ run_rectangles top bottom ss
unfolding run_rectangles
rectangles_append top bottom rs ss = map-append (λ (r : Run). record { min_x = r.first; min_y = top; max_x = r.last; max_y = bottom }) rs ss

-- no run has no rectangle
pub no_rectangles : (top bottom : ℤ) → run_rectangles top bottom [] ≡ []
unfolding run_rectangles
no_rectangles top bottom = refl

-- a run with columns
pub some_is : (first last : ℤ) → first ≤ℤ last → some_run first last ≡ record { first = first; last = last } ∷ []
unfolding some_run
some_is first last h = ap (λ w. cond w (record { first = first; last = last } ∷ []) []) (le_true first last h)

-- a run with no column
pub some_none : (first last : ℤ) → last <ℤ first → some_run first last ≡ []
unfolding some_run
some_none first last h = ap (λ w. cond w (record { first = first; last = last } ∷ []) []) (le_false first last h)

-- the rectangle of a run after the others
pub pushed_run : (top bottom first last : ℤ) (out : List Rectangle) (r : Rectangle) → first ≤ℤ last
    → r.min_x ≡ first → r.min_y ≡ top → r.max_x ≡ last → r.max_y ≡ bottom
    → out ++ r ∷ [] ≡ out ++ run_rectangles top bottom (some_run first last)
unfolding run_rectangles
pushed_run top bottom first last out r e f g h k =
    rw (some_is first last e) (ap (λ w. out ++ w ∷ []) (same_bounds r.min_x r.min_y r.max_x r.max_y first top last bottom f g h k))

-- one rectangle more of a band
pub copied_more : (top bottom : ℤ) (before out out' rects : List Rectangle) (i : ℕ) (r n : Rectangle) → out ≡ before ++ run_rectangles top bottom (columns (take i rects))
    → i < length rects → r ≡ get_or rects i r → out' ≡ out ++ n ∷ [] → n.min_x ≡ r.min_x → n.min_y ≡ top → n.max_x ≡ r.max_x → n.max_y ≡ bottom
    → out' ≡ before ++ run_rectangles top bottom (columns (take (i + 1) rects))
unfolding run_rectangles
copied_more top bottom before out out' rects i r n e l f g a b c d =
    let P : List Rectangle → List Rectangle = λ s. run_rectangles top bottom (columns s) in
    let t : take (i + 1) rects ≡ take i rects ++ r ∷ [] = take_more rects i r l ∙ ap (λ w. take i rects ++ w ∷ []) (sym f) in
    g ∙ (ap (λ w. w ++ n ∷ []) e ∙ (append_assoc before (P (take i rects)) (n ∷ [])
    ∙ ap (λ w. before ++ w) (ap (λ w. P (take i rects) ++ w ∷ []) (same_bounds n.min_x n.min_y n.max_x n.max_y r.min_x top r.max_x bottom a b c d)
    ∙ (sym (ap (run_rectangles top bottom) (map-append (λ (s : Rectangle). record { first = s.min_x; last = s.max_x }) (take i rects) (r ∷ []))
    ∙ rectangles_append top bottom (columns (take i rects)) (columns (r ∷ []))) ∙ ap P (sym t)))))

-- no column is between bounds in the wrong order
pub within_none : (first x last : ℤ) → last <ℤ first → within first x last ≡ false
within_none first x last h = by_lt_z x first (λ a. within_below first x last a) (λ a. within_above first x last (omega (arith, ints)))

-- the runs that are added are runs, in their place
record Added (at next first last : ℤ) (ss : List Run) : Type 0 where
  are : AreRuns ss
  starts : StartsAfter (at -ℤ pos 1) ss
  ends : EndBefore next ss
  has : (x : ℤ) → in_runs ss x ≡ within first x last

some_added : (at next first last : ℤ) → (first ≤ℤ last → at ≤ℤ first) → (first ≤ℤ last → (last +ℤ pos 1) <ℤ next) → Added at next first last (some_run first last)
some_added at next first last h k =
    by_lt_z last first
    (λ a. rw (some_none first last a)
    (record { are = tt; starts = tt; ends = tt; has = λ x. in_runs_nil x ∙ sym (within_none first x last a) }))
    (λ a. let p = h a in rw (some_is first last a) (record {
      are = (a, tt, tt);
      starts = omega (arith, ints);
      ends = (k a, tt);
      has = λ x. in_runs_cons (record { first = first; last = last }) [] x ∙ (ap (λ w. within first x last || w) (in_runs_nil x) ∙ or-false (within first x last));
    }))

-- A merge has come so far: `out` is `before` with runs after it, each of which leaves the column before `at` free, and the
-- columns that are due are those of these runs and those that are left.
pub record RowState (top bottom : ℤ) (before : List Rectangle) (due : ℤ → Bool) (at : ℤ) (left : ℤ → Bool) (out : List Rectangle) : Type 0 where
  pub runs : List Run
  pub made : out ≡ before ++ run_rectangles top bottom runs
  pub are : AreRuns runs
  pub ends : EndBefore at runs
  pub has : (x : ℤ) → due x ≡ (in_runs runs x || left x)

-- the columns that an operation makes of two bands
abbrev pub due_of : Operation → List Rectangle → List Rectangle → ℤ → Bool
due_of operation a b x = holds operation (in_runs (columns a) x) (in_runs (columns b) x)

module _ (top bottom : ℤ) (before : List Rectangle) (due : ℤ → Bool) where
  -- before the first run
  pub row_begin : (at : ℤ) (left : ℤ → Bool) → ((x : ℤ) → due x ≡ left x) → RowState top bottom before due at left before
  row_begin at left e =
      record {
        runs = [];
        made = sym (ap (λ w. before ++ w) (no_rectangles top bottom) ∙ append-nil before);
        are = tt;
        ends = tt;
        has = λ x. e x ∙ ap (λ w. w || left x) (sym (in_runs_nil x));
      }

  -- the same columns are left
  pub row_move : (at next : ℤ) (left left' : ℤ → Bool) (out : List Rectangle) → RowState top bottom before due at left out → at ≤ℤ next → ((x : ℤ) → left x ≡ left' x)
      → RowState top bottom before due next left' out
  row_move at next left left' out s h e =
      record {
        runs = s.runs;
        made = s.made;
        are = s.are;
        ends = end_later at next s.runs h s.ends;
        has = λ x. s.has x ∙ ap (λ w. in_runs s.runs x || w) (e x);
      }

  -- the rectangles with further runs
  more_made : (rs ss : List Run) (out out' : List Rectangle) → out ≡ before ++ run_rectangles top bottom rs → out' ≡ out ++ run_rectangles top bottom ss
      → out' ≡ before ++ run_rectangles top bottom (rs ++ ss)
  more_made rs ss out out' e f =
      f ∙ (ap (λ w. w ++ run_rectangles top bottom ss) e
      ∙ (append_assoc before (run_rectangles top bottom rs) (run_rectangles top bottom ss) ∙ ap (λ w. before ++ w) (sym (rectangles_append top bottom rs ss))))

  -- the columns with further runs
  more_has : (rs ss : List Run) (x : ℤ) (l l' : Bool) → l ≡ (in_runs ss x || l') → (in_runs rs x || l) ≡ (in_runs (rs ++ ss) x || l')
  more_has rs ss x l l' e =
      ap (λ w. in_runs rs x || w) e ∙ (sym (or_assoc (in_runs rs x) (in_runs ss x) l') ∙ ap (λ w. w || l') (sym (in_append rs ss x)))

  -- a further run, if it is one
  pub row_push : (at next first last : ℤ) (left left' : ℤ → Bool) (out out' : List Rectangle) → RowState top bottom before due at left out
      → (first ≤ℤ last → at ≤ℤ first) → at ≤ℤ next → (first ≤ℤ last → (last +ℤ pos 1) <ℤ next) → ((x : ℤ) → left x ≡ (within first x last || left' x))
      → out' ≡ out ++ run_rectangles top bottom (some_run first last) → RowState top bottom before due next left' out'
  row_push at next first last left left' out out' s h k l e f =
      let ss = some_run first last in
      let a = some_added at next first last h l in
      record {
        runs = s.runs ++ ss;
        made = more_made s.runs ss out out' s.made f;
        are = runs_append at s.runs ss s.are a.are s.ends a.starts;
        ends = end_append next s.runs ss (end_later at next s.runs k s.ends) a.ends;
        has = λ x. s.has x ∙ more_has s.runs ss x (left x) (left' x) (e x ∙ ap (λ w. w || left' x) (sym (a.has x)));
      }

  -- the last runs
  pub row_end : (operation : Operation) (a b : List Rectangle) (at : ℤ) (left : ℤ → Bool) (ss : List Run) (out out' : List Rectangle)
      → ((x : ℤ) → due x ≡ due_of operation a b x) → RowState top bottom before due at left out
      → AreRuns ss → StartsAfter (at -ℤ pos 1) ss → ((x : ℤ) → left x ≡ in_runs ss x) → out' ≡ out ++ run_rectangles top bottom ss
      → IsRowOf operation a b top bottom before out'
  row_end operation a b at left ss out out' d s h k e f =
      record {
        runs = s.runs ++ ss;
        made = more_made s.runs ss out out' s.made f;
        are = runs_append at s.runs ss s.are h s.ends k;
        has = λ x. in_append s.runs ss x ∙ (ap (λ w. in_runs s.runs x || w) (sym (e x)) ∙ (sym (s.has x) ∙ d x));
      }

  -- where nothing is left
  pub row_done : (operation : Operation) (a b : List Rectangle) (at : ℤ) (left : ℤ → Bool) (out : List Rectangle)
      → ((x : ℤ) → due x ≡ due_of operation a b x) → RowState top bottom before due at left out → ((x : ℤ) → left x ≡ false)
      → IsRowOf operation a b top bottom before out
  row_done operation a b at left out d s e =
      row_end operation a b at left [] out out d s tt tt (λ x. e x ∙ sym (in_runs_nil x))
      (sym (ap (λ w. out ++ w) (no_rectangles top bottom) ∙ append-nil out))

-- the same row by other terms
pub row_of_move : (operation : Operation) (a b : List Rectangle) (top bottom : ℤ) (before after : List Rectangle) (top' bottom' : ℤ)
    → top' ≡ top → bottom' ≡ bottom → IsRowOf operation a b top bottom before after → IsRowOf operation a b top' bottom' before after
row_of_move operation a b top bottom before after top' bottom' e f s = rw (e, f) s

-- a row of one band, where the operation keeps it or leaves it out
pub kept : (operation : Operation) (t p : Bool) → holds operation true false ≡ t → holds operation p false ≡ cond t p false
kept operation true true e = e
kept operation false true e = e
kept operation true false e = holds_none operation
kept operation false false e = holds_none operation

-- the same for the second band
pub kept_second : (operation : Operation) (t p : Bool) → holds operation false true ≡ t → holds operation false p ≡ cond t p false
kept_second operation true true e = e
kept_second operation false true e = e
kept_second operation true false e = holds_none operation
kept_second operation false false e = holds_none operation

module _ (operation : Operation) (top bottom : ℤ) (before after : List Rectangle) where
  -- the first band is copied, or nothing is made of it
  pub row_of_first : (t : Bool) (a : List Rectangle) → AreRuns (columns a) → holds operation true false ≡ t → after ≡ before ++ run_rectangles top bottom (cond t (columns a) [])
      → IsRowOf operation a [] top bottom before after
  row_of_first true a h k e =
      record { runs = columns a; made = e; are = h; has = λ x. sym (ap (λ w. holds operation (in_runs (columns a) x) w) (in_runs_nil x) ∙ kept operation true (in_runs (columns a) x) k) }
  row_of_first false a h k e =
      record { runs = []; made = e; are = tt; has = λ x. in_runs_nil x ∙ sym (ap (λ w. holds operation (in_runs (columns a) x) w) (in_runs_nil x) ∙ kept operation false (in_runs (columns a) x) k) }

  -- the second band is copied, or nothing is made of it
  pub row_of_second : (t : Bool) (b : List Rectangle) → AreRuns (columns b) → holds operation false true ≡ t → after ≡ before ++ run_rectangles top bottom (cond t (columns b) [])
      → IsRowOf operation [] b top bottom before after
  row_of_second true b h k e =
      record { runs = columns b; made = e; are = h; has = λ x. sym (ap (λ w. holds operation w (in_runs (columns b) x)) (in_runs_nil x) ∙ kept_second operation true (in_runs (columns b) x) k) }
  row_of_second false b h k e =
      record { runs = []; made = e; are = tt; has = λ x. in_runs_nil x ∙ sym (ap (λ w. holds operation w (in_runs (columns b) x)) (in_runs_nil x) ∙ kept_second operation false (in_runs (columns b) x) k) }

-- nothing is added
pub nothing_made : (top bottom : ℤ) (before after : List Rectangle) → after ≡ before → after ≡ before ++ run_rectangles top bottom []
nothing_made top bottom before after e = e ∙ sym (ap (λ w. before ++ w) (no_rectangles top bottom) ∙ append-nil before)
