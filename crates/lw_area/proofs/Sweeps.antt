-- The rows of an area, from the lowest up.
use Rattle.std.proofs.Common.{◌≡◌, ℕ, ◌+◌, ◌%◌, ◌==◌, ◌<◌, ◌≤◌, Bool, true, false, ◌&&◌, List, [], ◌∷◌, length, ℤ, pos, negsuc, ◌+ℤ◌, ◌<ℤ◌, ◌≤ℤ◌, refl, ap, sym, ◌∙◌, subst, arith}
use Rattle.std.specs.Prelude.{int_le, reverse}
use Rattle.std.specs.List.{All, list_all, flat_map}
use Rattle.std.proofs.lemmas.Int.{ints, by_lt_z}
use Rattle.std.proofs.lemmas.Bool.Decides.{nat_tests}
use Rattle.std.proofs.lemmas.List.Elements.{All-weaker, All-nil}
use Rattle.lw_region.specs.Rectangle.{Rectangle}
use Rattle.lw_region.specs.Order.{natural}
use Rattle.lw_region.specs.Pixels.{contains_pixel}
use Rattle.lw_region.specs.Bands.{Run, Band, bands}
use Rattle.lw_region.specs.Banded.{AreRuns, AreBands, flat}
use Rattle.lw_region.proofs.Runs.{one_run_list}
use Rattle.lw_region.proofs.Canonical.{flat_nil}
use Rattle.lw_region.proofs.Columns.{le_true}
use Rattle.lw_region.proofs.Edges.{differ}
use Rattle.lw_area.specs.declared.point.Point.{Point}
use Rattle.lw_area.specs.declared.slab.Edge.{Edge}
use Rattle.lw_area.specs.Polygons.{is_in_range, IsPolygon, sides, is_inside, holds_of_odd}
use Rattle.lw_area.specs.Patterns.{word_at, pattern_has, word_has}
use Rattle.lw_area.specs.Areas.{area_set, area_rectangles, is_in_area}
use Rattle.lw_area.specs.Rows.{IsInRange, Crosses, crossing, is_passed, HaveColumns, odd_columns, AreColumns, IsRowPut, AreRunsOf, IsSlab}
use Rattle.lw_area.proofs.Odd.{odd_nil, odd_cons, odd_all}
use Rattle.lw_area.proofs.Slabs.{AgreesAt, agrees, all_in_range, ends_sides, crossing_odd, crossing_crosses}
use Rattle.lw_area.proofs.Closed.{area_pixels, right_of_all, above_all, below_all}
use Rattle.lw_area.proofs.Stacked.{AreStacked, row_runs, are_row_runs, in_row_runs, stacked_none, stacked_empty, stacked_rows, stacked_all, stacked_fewer}

-- columns of half rows that cancel out at the right are pairs
right_odd : (cs : List ℤ) → HaveColumns cs → odd_columns cs (pos 4095) ≡ holds_of_odd (λ c. true) cs
right_odd [] h = odd_nil (λ c. int_le c (pos 4095)) ∙ sym (odd_nil (λ (c : ℤ). true))
right_odd (c ∷ cs) h =
    odd_cons (λ c. int_le c (pos 4095)) c cs ∙ (ap (λ w. differ w (odd_columns cs (pos 4095))) (le_true c (pos 4095) h.0.1)
    ∙ (ap (λ w. differ true w) (right_odd cs h.1) ∙ sym (odd_cons (λ (c : ℤ). true) c cs)))

even_of : (n : ℕ) → (n % 2 == 1) ≡ false → n % 2 ≡ 0
even_of n e = grind (arith, nat_tests)

pub are_pairs : (edges : List Edge) (row : ℤ) (cs : List ℤ) → AreColumns edges row cs → holds_of_odd (is_passed (pos 4095) row) edges ≡ false → length cs % 2 ≡ 0
are_pairs edges row cs s e = even_of (length cs) (sym (odd_all (λ (c : ℤ). true) cs (λ c. refl)) ∙ (sym (right_odd cs s.range) ∙ (s.odd (pos 4095) ∙ e)))

-- the edges that cross a row cross those up to where a point lies
pub slab_made : (points : List Point) (top row : ℤ) (edges : List Edge) → list_all is_in_range points ≡ true → All (λ p. p.y ≤ℤ row → p.y ≤ℤ top) points
    → edges ≡ flat_map (crossing row) (sides points) → IsSlab points top (row +ℤ pos 1) edges
slab_made points top row edges h f e =
    let ends : (r : ℤ) → top ≤ℤ r → r ≤ℤ row → All (AgreesAt row r) points = λ r k l.
    All-weaker (λ p. p.y ≤ℤ row → p.y ≤ℤ top) (AgreesAt row r) (λ p g. agrees top row r p k l g) points f in
    rw e (record {
      crosses = λ r k l. let m : r ≤ℤ row = omega (arith, ints) in
          crossing_crosses row r (sides points) (ends_sides (AgreesAt row r) points (ends r k m)) (ends_sides IsInRange points (all_in_range points h));
      odd = λ r x k l. let m : r ≤ℤ row = omega (arith, ints) in crossing_odd row r x (sides points) (ends_sides (AgreesAt row r) points (ends r k m));
    })

-- How far the sweep is.
pub record IsSwept (points : List Point) (words : List ℕ) (top row slab : ℤ) (edges : List Edge) (limit count : ℕ) (kept : List Band) : Type 0 where
  pub bottom : ℤ
  pub below : All (λ p. p.y ≤ℤ bottom) points
  pub low : negsuc 2047 ≤ℤ top
  pub high : row ≤ℤ pos 4095
  pub rows : AreStacked (area_set points words) bottom row kept
  pub edges_are : IsSlab points slab row edges
  pub counted : count ≡ length (flat (reverse kept))
  pub few : count ≤ limit

-- no pixel is above the first row or from the last one on
nothing_above : (points : List Point) (words : List ℕ) (top x y : ℤ) → All (λ p. top ≤ℤ p.y) points → y <ℤ top → contains_pixel (area_set points words) x y ≡ false
nothing_above points words top x y h l =
    area_pixels points words x y ∙ ap (λ w. w && pattern_has words x y) (above_all x y points (All-weaker (λ p. top ≤ℤ p.y) (λ p. y <ℤ p.y) (λ p k. omega (arith, ints)) points h))

nothing_below : (points : List Point) (words : List ℕ) (bottom x y : ℤ) → All (λ p. p.y ≤ℤ bottom) points → bottom ≤ℤ y → contains_pixel (area_set points words) x y ≡ false
nothing_below points words bottom x y h l =
    area_pixels points words x y ∙ ap (λ w. w && pattern_has words x y) (below_all x y points (All-weaker (λ p. p.y ≤ℤ bottom) (λ p. p.y ≤ℤ y) (λ p k. omega (arith, ints)) points h))

-- at the right end no edge is left over
pub closed_row : (points : List Point) (slab below row : ℤ) (edges : List Edge) → list_all is_in_range points ≡ true → IsSlab points slab below edges → slab ≤ℤ row → row <ℤ below
    → holds_of_odd (is_passed (pos 4095) row) edges ≡ false
closed_row points slab below row edges h s l m =
    s.odd row (pos 4095) l m ∙ right_of_all (pos 4095) row points (All-weaker IsInRange (λ p. p.x ≤ℤ pos 4095) (λ p r. r.column.1) points (all_in_range points h))

-- before the first row
pub swept_start : (points : List Point) (words : List ℕ) (top row slab : ℤ) (edges : List Edge) (limit count : ℕ) (kept : List Band) → list_all is_in_range points ≡ true
    → All (λ p. p.y ≤ℤ pos 4095 → p.y ≤ℤ row) points → negsuc 2047 ≤ℤ top → row ≤ℤ pos 4095 → slab ≡ row → kept ≡ [] → count ≡ 0 → IsSwept points words top row slab edges limit count kept
swept_start points words top row slab edges limit count kept h f low m e g k = record {
  bottom = row;
  below = λ k d l. f k d l (all_in_range points h k d l).row.1;
  low = low;
  high = m;
  rows = stacked_none (area_set points words) row row kept refl g;
  edges_are = record { crosses = λ r a b. absurd (omega (arith, ints)); odd = λ r x a b. absurd (omega (arith, ints)) };
  counted = k ∙ sym (ap (λ w. length (flat (reverse w))) g ∙ ap length flat_nil);
  few = omega arith;
}

-- the runs of a row
runs_are : (points : List Point) (words : List ℕ) (slab below row : ℤ) (edges : List Edge) (runs : List Run) → IsSlab points slab below edges → slab ≤ℤ row → row <ℤ below
    → AreRunsOf (word_at words row) row edges runs → runs ≡ row_runs (area_set points words) row
runs_are points words slab below row edges runs s l m a =
    one_run_list runs (row_runs (area_set points words) row) a.made (are_row_runs (area_set points words) row) (λ x.
    a.has x ∙ (ap (λ w. w && word_has (word_at words row) x) (s.odd row x l m) ∙ sym (in_row_runs (area_set points words) x row ∙ area_pixels points words x row)))

module _ (points : List Point) (words : List ℕ) (top row slab : ℤ) (edges : List Edge) (limit count : ℕ) (kept : List Band) where
  -- what is left of the slab for the rows above
  pub slab_above : (to : ℤ) → IsSwept points words top row slab edges limit count kept → to +ℤ pos 1 ≡ row → IsSlab points slab (to +ℤ pos 1) edges
  slab_above to s e = subst (λ w. IsSlab points slab w edges) (sym e) s.edges_are

  module _ (to slab' : ℤ) (edges' : List Edge) (runs : List Run) (more count' : ℕ) (kept' : List Band) where
    row_stacked : (s : IsSwept points words top row slab edges limit count kept) → to +ℤ pos 1 ≡ row → IsSlab points slab' (to +ℤ pos 1) edges' → slab' ≤ℤ to
        → AreRunsOf (word_at words to) to edges' runs → IsRowPut to runs more kept kept' → AreStacked (area_set points words) s.bottom to kept'
    row_stacked s e f l a p =
        stacked_rows (area_set points words) s.bottom row to kept kept' runs more s.rows e
        (runs_are points words slab' (to +ℤ pos 1) to edges' runs f l (omega (arith, ints)) a) p

    -- one row more
    pub swept_next : IsSwept points words top row slab edges limit count kept → to +ℤ pos 1 ≡ row → IsSlab points slab' (to +ℤ pos 1) edges' → slab' ≤ℤ to
        → AreRunsOf (word_at words to) to edges' runs → IsRowPut to runs more kept kept' → count' ≡ count + more → count' ≤ limit → IsSwept points words top to slab' edges' limit count' kept'
    swept_next s e f l a p g h =
        let high = s.high in record {
          bottom = s.bottom;
          below = s.below;
          low = s.low;
          high = omega (arith, ints);
          rows = row_stacked s e f l a p;
          edges_are = record { crosses = λ r b d. f.crosses r b (omega (arith, ints)); odd = λ r x b d. f.odd r x b (omega (arith, ints)) };
          counted = g ∙ (ap (λ w. w + more) s.counted ∙ sym p.count);
          few = h;
        }

    -- more rectangles than were asked for
    pub swept_many : IsSwept points words top row slab edges limit count kept → to +ℤ pos 1 ≡ row → IsSlab points slab' (to +ℤ pos 1) edges' → slab' ≤ℤ to
        → AreRunsOf (word_at words to) to edges' runs → IsRowPut to runs more kept kept' → count' ≡ count + more → limit < count' → top ≤ℤ to
        → All (λ p. top ≤ℤ p.y) points → limit < length (area_rectangles points words)
    swept_many s e f l a p g h m above =
        let fewer = stacked_fewer (area_set points words) s.bottom to top kept' (row_stacked s e f l a p) m (λ x y k. nothing_above points words top x y above k)
        (λ x y k. nothing_below points words s.bottom x y s.below k) in
        let counted : count' ≡ length (flat (reverse kept')) = g ∙ (ap (λ w. w + more) s.counted ∙ sym p.count) in
        omega arith

  -- all rows
  pub swept_bands : IsSwept points words top row slab edges limit count kept → row ≤ℤ top → All (λ p. top ≤ℤ p.y) points → (flat (reverse kept) ≡ area_rectangles points words) × AreBands (reverse kept)
  swept_bands s l above =
      stacked_all (area_set points words) s.bottom row kept s.rows (λ x y k. nothing_above points words top x y above (omega (arith, ints)))
      (λ x y k. nothing_below points words s.bottom x y s.below k)

  pub swept_end : (rects : List Rectangle) → IsSwept points words top row slab edges limit count kept → row ≤ℤ top → All (λ p. top ≤ℤ p.y) points → rects ≡ flat (reverse kept)
      → (rects ≡ area_rectangles points words) × (length rects ≤ limit)
  swept_end rects s l above e =
      let few = s.few in
      let counted = s.counted in
      let long = ap length e in
      (e ∙ (swept_bands s l above).0, omega arith)

-- the first row is above all points
pub above_points : (points : List Point) (top : ℤ) → list_all is_in_range points ≡ true → All (λ p. negsuc 2047 ≤ℤ p.y → top ≤ℤ p.y) points → All (λ p. top ≤ℤ p.y) points
above_points points top h f = λ k d l. f k d l (all_in_range points h k d l).row.0

pub natural_less : (a b : ℤ) → pos 0 ≤ℤ a → a <ℤ b → natural a < natural b
natural_less (pos a) (pos b) h k = omega (arith, ints)
natural_less (pos a) (negsuc b) h k = absurd (omega (arith, ints))
natural_less (negsuc a) b h k = absurd (omega (arith, ints))
