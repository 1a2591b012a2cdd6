-- Rows that are put on top of bands, from the lowest up.
use Rattle.std.proofs.Common.{◌≡◌, ℕ, zero, suc, ◌+◌, ◌<◌, ◌≤◌, Bool, true, false, cond, ◌&&◌, ◌||◌, List, [], ◌∷◌, ◌++◌, map, length, get_or, take, ℤ, pos, negsuc, ◌+ℤ◌, ◌-ℤ◌, ◌<ℤ◌, ◌≤ℤ◌, refl, ap, sym, ◌∙◌, subst, arith}
use Rattle.std.specs.Prelude.{int_lt, reverse}
use Rattle.std.specs.List.{All, list_any, filter}
use Rattle.std.specs.Ordering.{int_eq}
use Rattle.std.proofs.lemmas.Int.{ints, by_lt_z}
use Rattle.std.proofs.lemmas.Bool.{and_parts, or_from, or_left}
use Rattle.std.proofs.lemmas.List.{append-nil, append_assoc, map-append, take_more, reverse-append, length-append, length-map}
use Rattle.std.proofs.lemmas.List.Elements.{All-nil, All-cons}
use Rattle.std.proofs.Math.Bool.{and_comm, or-false}
use Rattle.lw_region.specs.Rectangle.{Rectangle, within}
use Rattle.lw_region.specs.Order.{ComesBefore, IsInOrder, natural}
use Rattle.lw_region.specs.Pixels.{Pixel, is_at, contains_pixel}
use Rattle.lw_region.specs.Bands.{Run, Band, band_rectangles, columns_in, longest_runs, same_runs, put_row, tallest_bands, bands}
use Rattle.lw_region.specs.Banded.{in_runs, AreRuns, IsBand, AreBands, in_bands, flat}
use Rattle.lw_area.specs.Rows.{IsPut, IsRowPut}
use Rattle.lw_region.proofs.Within.{within_true, within_below, within_above}
use Rattle.lw_region.proofs.Numbers.{eq_true, eq_below, eq_above, eq_of, int_total, int_trans, of_lt}
use Rattle.lw_region.proofs.Order.{any_in_order, ordered_in_order}
use Rattle.lw_region.proofs.Lists.{any_agree, any_map, any_filter}
use Rattle.lw_region.proofs.Runs.{in_runs_nil, are_longest, in_longest, same_runs_true}
use Rattle.lw_region.proofs.Stacks.{HaveRuns, are_tallest, in_tallest}
use Rattle.lw_region.proofs.Canonical.{flat_nil, flat_cons, covers_flat, flat_is_bands}

-- the last of a list is the first of the list turned round
pub reverse_push : {X : Type 0} (xs : List X) (x : X) → reverse (xs ++ x ∷ []) ≡ x ∷ reverse xs
reverse_push xs x = reverse-append xs (x ∷ [])

-- how many rectangles bands have
flat_length : (b : Band) (bs : List Band) → length (flat (b ∷ bs)) ≡ length b.runs + length (flat bs)
flat_length b bs = ap length (flat_cons b bs) ∙ (length-append (map _ b.runs) (flat bs) ∙ ap (λ w. w + length (flat bs)) (length-map b.runs _))

-- a row that goes into the first band
pub put_joined : (row : ℤ) (runs : List Run) (b c : Band) (rest before after : List Band) → before ≡ rest ++ b ∷ []
    → (int_eq (row +ℤ pos 1) b.top && same_runs runs b.runs) ≡ true → c ≡ record { top = row; bottom = b.bottom; runs = b.runs } → after ≡ rest ++ c ∷ []
    → IsPut row runs false before after
put_joined row runs b c rest before after e t f g =
    let same : runs ≡ b.runs = same_runs_true runs b.runs (and_parts (int_eq (row +ℤ pos 1) b.top) (same_runs runs b.runs) t).1 in
    let now : reverse after ≡ c ∷ reverse rest = ap reverse g ∙ reverse_push rest c in
    let old : reverse before ≡ b ∷ reverse rest = ap reverse e ∙ reverse_push rest b in
    record {
      bands = now ∙ (ap (λ w. w ∷ reverse rest) (f ∙ ap (λ w. record { top = row; bottom = b.bottom; runs = w }) (sym same))
          ∙ (sym (ap (λ w. cond w (record { top = row; bottom = b.bottom; runs = runs } ∷ reverse rest) (record { top = row; bottom = row; runs = runs } ∷ b ∷ reverse rest)) t)
          ∙ ap (put_row row runs) (sym old)));
      count = ap (λ w. length (flat w)) now ∙ (flat_length c (reverse rest) ∙ (ap (λ w. length w.runs + length (flat (reverse rest))) f
          ∙ (sym (flat_length b (reverse rest)) ∙ (ap (λ w. length (flat w)) (sym old) ∙ plus_none _))));
    }
  where
    plus_none : (n : ℕ) → n ≡ n + 0
    plus_none n = omega arith

-- a row that is a band of its own
pub put_new : (row : ℤ) (runs : List Run) (c : Band) (before after : List Band) → put_row row runs (reverse before) ≡ record { top = row; bottom = row; runs = runs } ∷ reverse before
    → c ≡ record { top = row; bottom = row; runs = runs } → after ≡ before ++ c ∷ [] → IsPut row runs true before after
put_new row runs c before after e f g =
    let now : reverse after ≡ c ∷ reverse before = ap reverse g ∙ reverse_push before c in
    record {
      bands = now ∙ (ap (λ w. w ∷ reverse before) f ∙ sym e);
      count = ap (λ w. length (flat w)) now ∙ (flat_length c (reverse before) ∙ (ap (λ w. length w.runs + length (flat (reverse before))) f ∙ omega arith));
    }

-- it is one where there is no band, and where it doesn't go on
pub first_band : (row : ℤ) (runs : List Run) (before : List Band) → before ≡ [] → put_row row runs (reverse before) ≡ record { top = row; bottom = row; runs = runs } ∷ reverse before
first_band row runs before e = rw e refl

pub other_band : (row : ℤ) (runs : List Run) (b : Band) (rest before : List Band) → before ≡ rest ++ b ∷ [] → (int_eq (row +ℤ pos 1) b.top && same_runs runs b.runs) ≡ false
    → put_row row runs (reverse before) ≡ record { top = row; bottom = row; runs = runs } ∷ reverse before
other_band row runs b rest before e t =
    let old : reverse before ≡ b ∷ reverse rest = ap reverse e ∙ reverse_push rest b in
    ap (put_row row runs) old
    ∙ (ap (λ w. cond w (record { top = row; bottom = b.bottom; runs = runs } ∷ reverse rest) (record { top = row; bottom = row; runs = runs } ∷ b ∷ reverse rest)) t
    ∙ ap (λ w. record { top = row; bottom = row; runs = runs } ∷ w) (sym old))

-- the rows of these that have runs: n of them from row y on
abbrev with_row : ℤ → List Run → List ℤ → List ℤ
with_row y [] ys = ys
with_row y (r ∷ rs) ys = y ∷ ys

abbrev rows_from : (ℤ → List Run) → ℤ → ℕ → List ℤ
rows_from f y zero = []
rows_from f y (suc n) = with_row y (f y) (rows_from f (y +ℤ pos 1) n)

-- and the bands of these rows
abbrev pub stack : (ℤ → List Run) → ℤ → ℕ → List Band
stack f y n = tallest_bands f (rows_from f y n)

before_with : (w y : ℤ) (rs : List Run) (ys : List ℤ) → w <ℤ y → ComesBefore int_lt w ys → ComesBefore int_lt w (with_row y rs ys)
before_with w y [] ys h k = k
before_with w y (r ∷ rs) ys h k = (of_lt w y h, k)

before_rows : (f : ℤ → List Run) (w y : ℤ) (n : ℕ) → w <ℤ y → ComesBefore int_lt w (rows_from f y n)
before_rows f w y zero h = tt
before_rows f w y (suc n) h = before_with w y (f y) _ h (before_rows f w (y +ℤ pos 1) n (omega (arith, ints)))

order_with : (y : ℤ) (rs : List Run) (ys : List ℤ) → ComesBefore int_lt y ys → IsInOrder int_lt ys → IsInOrder int_lt (with_row y rs ys)
order_with y [] ys h k = k
order_with y (r ∷ rs) ys h k = (h, k)

order_rows : (f : ℤ → List Run) (y : ℤ) (n : ℕ) → IsInOrder int_lt (rows_from f y n)
order_rows f y zero = tt
order_rows f y (suc n) = order_with y (f y) _ (before_rows f y (y +ℤ pos 1) n (omega (arith, ints))) (order_rows f (y +ℤ pos 1) n)

have_with : (f : ℤ → List Run) (y : ℤ) (rs : List Run) (ys : List ℤ) → f y ≡ rs → AreRuns (f y) → HaveRuns f ys → HaveRuns f (with_row y rs ys)
have_with f y [] ys e h k = k
have_with f y (r ∷ rs) ys e h k = (h, (λ n. let z : (r ∷ rs) ≡ [] = sym e ∙ n in cc), k)

have_rows : (f : ℤ → List Run) (y : ℤ) (n : ℕ) → ((z : ℤ) → AreRuns (f z)) → HaveRuns f (rows_from f y n)
have_rows f y zero h = tt
have_rows f y (suc n) h = have_with f y (f y) _ refl (h y) (have_rows f (y +ℤ pos 1) n h)

-- a row that has no runs isn't missed
any_with : (y z x : ℤ) (f : ℤ → List Run) (rs : List Run) (ys : List ℤ) → f y ≡ rs
    → (list_any (λ w. int_eq w z) (with_row y rs ys) && in_runs (f z) x) ≡ ((int_eq y z || list_any (λ w. int_eq w z) ys) && in_runs (f z) x)
any_with y z x f [] ys e = missed (int_eq y z) refl
  where
    missed : (t : Bool) → int_eq y z ≡ t → (list_any (λ w. int_eq w z) ys && in_runs (f z) x) ≡ ((t || list_any (λ w. int_eq w z) ys) && in_runs (f z) x)
    missed true g =
        let none : in_runs (f z) x ≡ false = ap (λ w. in_runs w x) (ap f (sym (eq_of y z g)) ∙ e) ∙ in_runs_nil x in
        rw none (and_comm _ false)
    missed false g = refl
any_with y z x f (r ∷ rs) ys e = refl

nothing : (y z : ℤ) → within y z (y +ℤ pos 0 -ℤ pos 1) ≡ false
nothing y z = by_lt_z z y (λ a. within_below y z _ a) (λ a. within_above y z _ (omega (arith, ints)))

further : (y z : ℤ) (n : ℕ) → y <ℤ z → within (y +ℤ pos 1) z (y +ℤ pos 1 +ℤ pos n -ℤ pos 1) ≡ within y z (y +ℤ pos (suc n) -ℤ pos 1)
further y z n h =
    let e : y +ℤ pos 1 +ℤ pos n -ℤ pos 1 ≡ y +ℤ pos (suc n) -ℤ pos 1 = omega (arith, ints) in
    let last = y +ℤ pos (suc n) -ℤ pos 1 in
    ap (λ w. within (y +ℤ pos 1) z w) e ∙ by_lt_z last z
    (λ a. within_above (y +ℤ pos 1) z last a ∙ sym (within_above y z last a))
    (λ a. within_true (y +ℤ pos 1) z last (omega (arith, ints)) a ∙ sym (within_true y z last (omega (arith, ints)) a))

any_rows : (f : ℤ → List Run) (y z x : ℤ) (n : ℕ) → (list_any (λ w. int_eq w z) (rows_from f y n) && in_runs (f z) x) ≡ (within y z (y +ℤ pos n -ℤ pos 1) && in_runs (f z) x)
any_rows f y z x zero = ap (λ w. w && in_runs (f z) x) (sym (nothing y z))
any_rows f y z x (suc n) =
    any_with y z x f (f y) _ refl ∙ by_lt_z y z
    (λ a. rw (eq_below y z a) (any_rows f (y +ℤ pos 1) z x n ∙ ap (λ w. w && in_runs (f z) x) (further y z n a)))
    (λ a. by_lt_z z y
    (λ b. rw (eq_above y z b) (any_rows f (y +ℤ pos 1) z x n
    ∙ (ap (λ w. w && in_runs (f z) x) (within_below (y +ℤ pos 1) z _ (omega (arith, ints))) ∙ sym (ap (λ w. w && in_runs (f z) x) (within_below y z _ b)))))
    (λ b. rw (eq_true y z (omega (arith, ints)), within_true y z (y +ℤ pos (suc n) -ℤ pos 1) b (omega (arith, ints))) refl))

-- the bands of rows have the runs of these rows
are_stack : (f : ℤ → List Run) (y : ℤ) (n : ℕ) → ((z : ℤ) → AreRuns (f z)) → AreBands (stack f y n)
are_stack f y n h = are_tallest f (rows_from f y n) (order_rows f y n) (have_rows f y n h)

in_stack : (f : ℤ → List Run) (y : ℤ) (n : ℕ) (x z : ℤ) → ((z : ℤ) → AreRuns (f z)) → in_bands (stack f y n) x z ≡ (within y z (y +ℤ pos n -ℤ pos 1) && in_runs (f z) x)
in_stack f y n x z h = in_tallest f (rows_from f y n) x z (order_rows f y n) (have_rows f y n h) ∙ any_rows f y z x n

-- the runs of a row of a set, which has the set's pixels
abbrev pub row_runs : List Pixel → ℤ → List Run
row_runs s y = longest_runs (columns_in s y)

ordered_columns : (s : List Pixel) (y : ℤ) → IsInOrder int_lt (columns_in s y)
ordered_columns s y = ordered_in_order int_lt int_trans (map (λ p. p.x) (filter (λ p. int_eq p.y y) s))

pub are_row_runs : (s : List Pixel) (y : ℤ) → AreRuns (row_runs s y)
are_row_runs s y = are_longest (columns_in s y) (ordered_columns s y)

pub in_row_runs : (s : List Pixel) (x y : ℤ) → in_runs (row_runs s y) x ≡ contains_pixel s x y
unfolding contains_pixel
in_row_runs s x y =
    in_longest (columns_in s y) x (ordered_columns s y)
    ∙ (any_in_order int_lt int_total (λ w. int_eq w x) (map (λ p. p.x) (filter (λ p. int_eq p.y y) s))
    ∙ (any_map (λ w. int_eq w x) (λ (p : Pixel). p.x) (filter (λ p. int_eq p.y y) s)
    ∙ (any_filter (λ p. int_eq p.x x) (λ p. int_eq p.y y) s
    ∙ any_agree _ (is_at x y) (λ p. and_comm (int_eq p.y y) (int_eq p.x x)) s)))

-- Bands, kept from the lowest up, are those of the rows of a set from row `row` to the one above row `bottom`.
pub record AreStacked (s : List Pixel) (bottom row : ℤ) (bands : List Band) : Type 0 where
  pub count : ℕ
  pub rows : row +ℤ pos count ≡ bottom
  pub are : reverse bands ≡ stack (row_runs s) row count

pub stacked_none : (s : List Pixel) (bottom row : ℤ) (bands : List Band) → row ≡ bottom → bands ≡ [] → AreStacked s bottom row bands
stacked_none s bottom row bands e f = record { count = 0; rows = omega (arith, ints); are = ap reverse f }

module _ (s : List Pixel) (bottom row to : ℤ) (before after : List Band) (runs : List Run) where
  -- a row without runs
  pub stacked_empty : AreStacked s bottom row before → to +ℤ pos 1 ≡ row → runs ≡ row_runs s to → runs ≡ [] → after ≡ before → AreStacked s bottom to after
  stacked_empty h e f g k = record {
    count = suc h.count;
    rows = let r = h.rows in omega (arith, ints);
    are = ap reverse k ∙ (h.are ∙ (ap (λ w. stack (row_runs s) w h.count) (sym e)
        ∙ ap (λ w. tallest_bands (row_runs s) (with_row to w (rows_from (row_runs s) (to +ℤ pos 1) h.count))) (sym g ∙ f)));
  }

  -- a row with runs
  some_step : (rs : List Run) (ys : List ℤ) (g : ℤ → List Run) → (rs ≡ [] → ⊥) → tallest_bands g (with_row to rs ys) ≡ put_row to (g to) (tallest_bands g ys)
  some_step [] ys g n = absurd (n refl)
  some_step (r ∷ rs) ys g n = refl

  pub stacked_some : AreStacked s bottom row before → to +ℤ pos 1 ≡ row → runs ≡ row_runs s to → (runs ≡ [] → ⊥) → reverse after ≡ put_row to runs (reverse before)
      → AreStacked s bottom to after
  stacked_some h e f n p = record {
    count = suc h.count;
    rows = let r = h.rows in omega (arith, ints);
    are = p ∙ (ap (λ w. put_row to runs w) (h.are ∙ ap (λ w. stack (row_runs s) w h.count) (sym e))
        ∙ (ap (λ w. put_row to w (stack (row_runs s) (to +ℤ pos 1) h.count)) f
        ∙ sym (some_step (row_runs s to) (rows_from (row_runs s) (to +ℤ pos 1) h.count) (row_runs s) (λ z. n (f ∙ z)))));
  }

pub stacked_rows : (s : List Pixel) (bottom row to : ℤ) (before after : List Band) (runs : List Run) (more : ℕ) → AreStacked s bottom row before → to +ℤ pos 1 ≡ row
    → runs ≡ row_runs s to → IsRowPut to runs more before after → AreStacked s bottom to after
stacked_rows s bottom row to before after [] more h e f p = stacked_empty s bottom row to before after [] h e f refl (p.none refl)
stacked_rows s bottom row to before after (r ∷ rs) more h e f p = stacked_some s bottom row to before after (r ∷ rs) h e f (λ n. cc) (p.some (λ n. cc))

-- Rows that are put on top take no rectangle away.
fewer_put : (y : ℤ) (rs : List Run) (bs : List Band) → length (flat bs) ≤ length (flat (put_row y rs bs))
fewer_put y rs [] = rw flat_nil (omega arith)
fewer_put y rs (b ∷ bs) = fewer_step (int_eq (y +ℤ pos 1) b.top && same_runs rs b.runs) refl
  where
    fewer_step : (t : Bool) → (int_eq (y +ℤ pos 1) b.top && same_runs rs b.runs) ≡ t → length (flat (b ∷ bs))
        ≤ length (flat (cond t (record { top = y; bottom = b.bottom; runs = rs } ∷ bs) (record { top = y; bottom = y; runs = rs } ∷ b ∷ bs)))
    fewer_step true e =
        let same : rs ≡ b.runs = same_runs_true rs b.runs (and_parts (int_eq (y +ℤ pos 1) b.top) (same_runs rs b.runs) e).1 in
        let long = ap length same in
        omega (arith, flat_length b bs, flat_length (record { top = y; bottom = b.bottom; runs = rs }) bs)
    fewer_step false e = omega (arith, flat_length (record { top = y; bottom = y; runs = rs }) (b ∷ bs))

fewer_with : (f : ℤ → List Run) (y : ℤ) (rs : List Run) (ys : List ℤ) → length (flat (tallest_bands f ys)) ≤ length (flat (tallest_bands f (with_row y rs ys)))
fewer_with f y [] ys = omega arith
fewer_with f y (r ∷ rs) ys = fewer_put y (f y) (tallest_bands f ys)

pub fewer_rows : (f : ℤ → List Run) (top row : ℤ) (n m k : ℕ) → row ≡ top +ℤ pos k → n + k ≡ m → length (flat (stack f row n)) ≤ length (flat (stack f top m))
fewer_rows f top row n m zero e g =
    let same : row ≡ top = omega (arith, ints) in
    let long : n ≡ m = omega arith in rw (same, long) (omega arith)
fewer_rows f top row n zero (suc k) e g = absurd (omega arith)
fewer_rows f top row n (suc m) (suc k) e g =
    let p = fewer_rows f (top +ℤ pos 1) row n m k (omega (arith, ints)) (omega arith) in
    let q = fewer_with f top (f top) (rows_from f (top +ℤ pos 1) m) in omega arith

-- where the set has no pixel above row `top` and none from row `bottom` on, the rows between are its bands
pub stack_is_bands : (s : List Pixel) (top : ℤ) (n : ℕ) → ((x y : ℤ) → y <ℤ top → contains_pixel s x y ≡ false) → ((x y : ℤ) → (top +ℤ pos n) ≤ℤ y → contains_pixel s x y ≡ false)
    → flat (stack (row_runs s) top n) ≡ bands s
stack_is_bands s top n above below =
    flat_is_bands (stack (row_runs s) top n) s (are_stack (row_runs s) top n (are_row_runs s)) (λ x y.
    covers_flat (stack (row_runs s) top n) x y ∙ (in_stack (row_runs s) top n x y (are_row_runs s)
    ∙ (ap (λ w. within top y (top +ℤ pos n -ℤ pos 1) && w) (in_row_runs s x y) ∙ by_lt_z y top
    (λ a. ap (λ w. w && contains_pixel s x y) (within_below top y _ a) ∙ sym (above x y a))
    (λ a. by_lt_z y (top +ℤ pos n)
    (λ b. ap (λ w. w && contains_pixel s x y) (within_true top y (top +ℤ pos n -ℤ pos 1) a (omega (arith, ints))))
    (λ b. ap (λ w. w && contains_pixel s x y) (within_above top y (top +ℤ pos n -ℤ pos 1) (omega (arith, ints))) ∙ sym (below x y b))))))

natural_is : (z : ℤ) → pos 0 ≤ℤ z → pos (natural z) ≡ z
natural_is (pos n) h = refl
natural_is (negsuc n) h = absurd (omega (arith, ints))

-- all rows are there
pub stacked_all : (s : List Pixel) (bottom top : ℤ) (kept : List Band) → AreStacked s bottom top kept → ((x y : ℤ) → y <ℤ top → contains_pixel s x y ≡ false)
    → ((x y : ℤ) → bottom ≤ℤ y → contains_pixel s x y ≡ false) → (flat (reverse kept) ≡ bands s) × AreBands (reverse kept)
stacked_all s bottom top kept h above below =
    let r = h.rows in (
      ap flat h.are ∙ stack_is_bands s top h.count above (λ x y l. below x y (omega (arith, ints))),
      rw h.are (are_stack (row_runs s) top h.count (are_row_runs s)),
    )

-- the bands so far have at most as many rectangles
pub stacked_fewer : (s : List Pixel) (bottom row top : ℤ) (kept : List Band) → AreStacked s bottom row kept → top ≤ℤ row → ((x y : ℤ) → y <ℤ top → contains_pixel s x y ≡ false)
    → ((x y : ℤ) → bottom ≤ℤ y → contains_pixel s x y ≡ false) → length (flat (reverse kept)) ≤ length (bands s)
stacked_fewer s bottom row top kept h l above below =
    let r = h.rows in
    let k = natural (row -ℤ top) in
    let is : pos k ≡ row -ℤ top = natural_is (row -ℤ top) (omega (arith, ints)) in
    let all : flat (stack (row_runs s) top (h.count + k)) ≡ bands s = stack_is_bands s top (h.count + k) above (λ x y m. below x y (omega (arith, ints))) in
    let p = fewer_rows (row_runs s) top row h.count (h.count + k) k (omega (arith, ints)) refl in
    rw (h.are, sym all) p

-- no band yet, and one after which there is another
pub put_first : (row : ℤ) (runs : List Run) (c : Band) (before mid after : List Band) → before ≡ [] → mid ≡ [] → c ≡ record { top = row; bottom = row; runs = runs } → after ≡ mid ++ c ∷ []
    → IsPut row runs true before after
put_first row runs c before mid after e f g h = put_new row runs c before after (first_band row runs before e) g (h ∙ ap (λ w. w ++ c ∷ []) (f ∙ sym e))

pub put_other : (row : ℤ) (runs : List Run) (b c : Band) (rest before mid after : List Band) → before ≡ rest ++ b ∷ [] → (int_eq (row +ℤ pos 1) b.top && same_runs runs b.runs) ≡ false
    → c ≡ record { top = row; bottom = row; runs = runs } → mid ≡ rest ++ b ∷ [] → after ≡ mid ++ c ∷ [] → IsPut row runs true before after
put_other row runs b c rest before mid after e t f g h = put_new row runs c before after (other_band row runs b rest before e t) f (h ∙ ap (λ w. w ++ c ∷ []) (g ∙ sym e))

-- the rectangles of a band, one after another
pub rects_more : (top bottom : ℤ) (before out to : List Rectangle) (runs : List Run) (i : ℕ) (r : Run) (n : Rectangle)
    → out ≡ before ++ band_rectangles (record { top = top; bottom = bottom; runs = take i runs }) → i < length runs → r ≡ get_or runs i r
    → n ≡ record { min_x = r.first; min_y = top; max_x = r.last; max_y = bottom } → to ≡ out ++ n ∷ []
    → to ≡ before ++ band_rectangles (record { top = top; bottom = bottom; runs = take (i + 1) runs })
rects_more top bottom before out to runs i r n e l f g h =
    let rect : Run → Rectangle = λ s. record { min_x = s.first; min_y = top; max_x = s.last; max_y = bottom } in
    h ∙ (ap (λ w. w ++ n ∷ []) e ∙ (append_assoc before (map rect (take i runs)) (n ∷ [])
    ∙ ap (λ w. before ++ w) (ap (λ w. map rect (take i runs) ++ w ∷ []) (g ∙ ap rect f)
    ∙ (sym (map-append rect (take i runs) (get_or runs i r ∷ [])) ∙ ap (map rect) (sym (take_more runs i r l))))))

-- each run is in order
pub runs_ordered : (rs : List Run) → AreRuns rs → All (λ r. r.first ≤ℤ r.last) rs
runs_ordered [] h = All-nil _
runs_ordered (r ∷ rs) h = All-cons (λ (s : Run). s.first ≤ℤ s.last) r rs h.0 (runs_ordered rs h.2)

-- The rectangles that are made, and the bands that are left, are all bands.
pub record AreLeft (all left : List Band) (out : List Rectangle) : Type 0 where
  pub bands : AreBands (reverse left)
  pub rects : out ++ flat (reverse left) ≡ flat (reverse all)

pub left_start : (all left : List Band) (out : List Rectangle) → AreBands (reverse all) → left ≡ all → out ≡ [] → AreLeft all left out
left_start all left out h e f = rw (e, f) (record { bands = h; rects = refl })

pub left_band : (all left rest : List Band) (b : Band) (out : List Rectangle) → AreLeft all left out → left ≡ rest ++ b ∷ [] → IsBand b
left_band all left rest b out s e = let h : AreBands (b ∷ reverse rest) = subst AreBands (ap reverse e ∙ reverse_push rest b) s.bands in h.0

pub left_more : (all left rest : List Band) (b : Band) (out to : List Rectangle) → AreLeft all left out → left ≡ rest ++ b ∷ [] → to ≡ out ++ band_rectangles b → AreLeft all rest to
left_more all left rest b out to s e f =
    let g : reverse left ≡ b ∷ reverse rest = ap reverse e ∙ reverse_push rest b in
    let h : AreBands (b ∷ reverse rest) = subst AreBands g s.bands in
    record {
      bands = h.2;
      rects = ap (λ w. w ++ flat (reverse rest)) f ∙ (append_assoc out (band_rectangles b) (flat (reverse rest))
          ∙ (ap (λ w. out ++ w) (sym (flat_cons b (reverse rest)) ∙ ap flat (sym g)) ∙ s.rects));
    }

pub left_end : (all left : List Band) (out : List Rectangle) → AreLeft all left out → left ≡ [] → out ≡ flat (reverse all)
left_end all left out s e = sym (append-nil out) ∙ (ap (λ w. out ++ w) (sym (ap (λ w. flat (reverse w)) e ∙ flat_nil)) ∙ s.rects)
