-- Rectangles that are apart, each with its upper left corner on a grid of columns and rows, are no more than the grid has places.
use Rattle.std.proofs.Common.{◌≡◌, ◌≢◌, ℕ, suc, ◌+◌, ◌*◌, ◌<◌, ◌≤◌, Bool, true, false, ◌||◌, List, [], ◌∷◌, length, ℤ, pos, ◌≤ℤ◌}
use Rattle.std.proofs.Common.{◌/◌, refl, sym, ap, subst, ◌∙◌, arith, eqb-true}
use Rattle.std.specs.Prelude.{if◌then◌else◌, map, get_or}
use Rattle.std.specs.List.{All, AllPairs, IsDistinct, list_any}
use Rattle.std.specs.Ordering.{int_eq}
use Rattle.std.proofs.Math.Dec.{eqb}
use Rattle.std.proofs.lemmas.Bool.{false≢true, and_from}
use Rattle.std.proofs.lemmas.Bool.Decides.{Decides-eqb, Decides-int_eq}
use Rattle.std.proofs.lemmas.Int.{ints}
use Rattle.std.proofs.lemmas.Nat.{div-mul-add, mul-add-lt}
use Rattle.std.proofs.lemmas.List.{length-map, get_or-map}
use Rattle.std.proofs.lemmas.List.Elements.{All-map, All-head, All-tail}
use Rattle.std.proofs.lemmas.Map.Made.{IsDistinct-from_AllPairs}
use Rattle.std.proofs.lemmas.Map.Steps.{length-le_from_distinct_below}
use Rattle.lw_region.specs.Rectangle.{Rectangle, has_pixel, AreApart}
use Rattle.lw_region.proofs.Within.{within_true}
use Rattle.lw_bounds.specs.Cuts.{is_cut}

-- the place of a number in a list that has it
abbrev place_in : List ℤ → ℤ → ℕ
place_in [] z = 0
place_in (c ∷ cuts) z = if int_eq z c then 0 else place_in cuts z + 1

place_below : (cuts : List ℤ) (z : ℤ) → is_cut cuts z ≡ true → place_in cuts z < length cuts
place_below [] z has = absurd (cc)
place_below (c ∷ cuts) z has = go (int_eq z c) has (place_below cuts z)
  where
    go : (b : Bool) → (b || is_cut cuts z) ≡ true → (is_cut cuts z ≡ true → place_in cuts z < length cuts)
        → (if b then 0 else place_in cuts z + 1) < suc (length cuts)
    go true h rest = omega arith
    go false h rest = let below = rest h in omega (arith, below)

-- numbers at one place are one
one_place : (cuts : List ℤ) (y z : ℤ) → is_cut cuts y ≡ true → is_cut cuts z ≡ true → place_in cuts y ≡ place_in cuts z → y ≡ z
one_place [] y z has_y has_z same = absurd (cc)
one_place (c ∷ cuts) y z has_y has_z same = go (int_eq y c) refl (int_eq z c) refl has_y has_z same (one_place cuts y z)
  where
    go : (a : Bool) → int_eq y c ≡ a → (b : Bool) → int_eq z c ≡ b → (a || is_cut cuts y) ≡ true → (b || is_cut cuts z) ≡ true
        → (if a then 0 else place_in cuts y + 1) ≡ (if b then 0 else place_in cuts z + 1)
        → (is_cut cuts y ≡ true → is_cut cuts z ≡ true → place_in cuts y ≡ place_in cuts z → y ≡ z) → y ≡ z
    go true e true f h k g rest = let p = (Decides-int_eq y c).0 e in let q = (Decides-int_eq z c).0 f in p ∙ sym q
    go true e false f h k g rest = absurd (omega (arith, g))
    go false e true f h k g rest = absurd (omega (arith, g))
    go false e false f h k g rest = rest h k (omega (arith, g))

-- A rectangle that has a pixel, with its upper left corner in these columns and rows.
pub record IsCornered (columns rows : List ℤ) (r : Rectangle) : Type 0 where
  pub wide : r.min_x ≤ℤ r.max_x
  pub high : r.min_y ≤ℤ r.max_y
  pub column : is_cut columns r.min_x ≡ true
  pub row : is_cut rows r.min_y ≡ true

-- the number of a corner
abbrev corner_number : List ℤ → List ℤ → Rectangle → ℕ
corner_number columns rows r = place_in columns r.min_x * length rows + place_in rows r.min_y

number_below : (columns rows : List ℤ) (r : Rectangle) → IsCornered columns rows r
    → corner_number columns rows r < length rows * length columns
number_below columns rows r is =
    mul-add-lt (place_in columns r.min_x) (length rows) (place_in rows r.min_y) (length columns)
    (place_below columns r.min_x is.column) (place_below rows r.min_y is.row)

-- two numbers a * w + b and c * w + d are equal where their parts are
parts_equal : (a b c d w : ℕ) → b < w → d < w → a * w + b ≡ c * w + d → (a ≡ c) × (b ≡ d)
parts_equal a b c d w low_b low_d same =
    let rows : a ≡ c = sym (div-mul-add a w b low_b) ∙ (ap (λ n. n / w) same ∙ div-mul-add c w d low_d) in
    let same_here : a * w + b ≡ a * w + d = same ∙ ap (λ n. n * w + d) (sym rows) in
    (rows, omega (arith, same_here))

-- rectangles with one corner have a pixel in common
apart_numbers : (columns rows : List ℤ) (r q : Rectangle) → IsCornered columns rows r → IsCornered columns rows q → AreApart r q
    → corner_number columns rows r ≡ corner_number columns rows q → ⊥
apart_numbers columns rows r q is_r is_q apart same =
    let parts =
    parts_equal (place_in columns r.min_x) (place_in rows r.min_y) (place_in columns q.min_x) (place_in rows q.min_y)
    (length rows) (place_below rows r.min_y is_r.row) (place_below rows q.min_y is_q.row) same in
    let column : r.min_x ≡ q.min_x = one_place columns r.min_x q.min_x is_r.column is_q.column parts.0 in
    let row : r.min_y ≡ q.min_y = one_place rows r.min_y q.min_y is_r.row is_q.row parts.1 in
    let corner_r : has_pixel r r.min_x r.min_y ≡ true = own_corner r is_r.wide is_r.high in
    let corner_q : has_pixel q r.min_x r.min_y ≡ true =
    ap (λ x. has_pixel q x r.min_y) column ∙ (ap (λ y. has_pixel q q.min_x y) row ∙ own_corner q is_q.wide is_q.high) in
    false≢true (sym (apart r.min_x r.min_y) ∙ and_from _ _ corner_r corner_q)
  where
    own_corner : (p : Rectangle) → p.min_x ≤ℤ p.max_x → p.min_y ≤ℤ p.max_y → has_pixel p p.min_x p.min_y ≡ true
    own_corner p wide high =
        and_from _ _ (within_true p.min_x p.min_x p.max_x (omega (arith, ints)) wide)
        (within_true p.min_y p.min_y p.max_y (omega (arith, ints)) high)

-- the numbers of the corners of rectangles that are apart differ
numbers_differ : (columns rows : List ℤ) (rects : List Rectangle) → All (IsCornered columns rows) rects → AllPairs AreApart rects
    → AllPairs (λ a b. a ≢ b) (map (corner_number columns rows) rects)
numbers_differ columns rows rects are apart i j d low high same =
    let number = corner_number columns rows in
    let blank : Rectangle = record { min_x = pos 0; min_y = pos 0; max_x = pos 0; max_y = pos 0 } in
    let high_j : j < length rects = subst (λ n. j < n) (length-map rects number) high in
    let low_i : i < length rects = omega (arith, low, high_j) in
    apart_numbers columns rows (get_or rects i blank) (get_or rects j blank) (are i blank low_i) (are j blank high_j)
    (apart i j blank low high_j)
    (sym (get_or-map number rects i blank d low_i) ∙ (same ∙ get_or-map number rects j blank d high_j))

-- each number that is found among some below n is below n
found_below : (n : ℕ) (ns : List ℕ) → All (λ m. m < n) ns → (q : ℕ) → list_any (eqb q) ns ≡ true → q < n
found_below n [] below q has = absurd (cc)
found_below n (m ∷ ns) below q has = go (eqb q m) refl has (found_below n ns (All-tail (λ k. k < n) m ns below) q)
  where
    go : (b : Bool) → eqb q m ≡ b → (b || list_any (eqb q) ns) ≡ true → (list_any (eqb q) ns ≡ true → q < n) → q < n
    go true e h rest = subst (λ k. k < n) (sym (eqb-true q m e)) (All-head (λ k. k < n) m ns below)
    go false e h rest = rest h

pub corners_few : (columns rows : List ℤ) (rects : List Rectangle) → All (IsCornered columns rows) rects
    → AllPairs AreApart rects → length rects ≤ length columns * length rows
corners_few columns rows rects are apart =
    let number = corner_number columns rows in
    let many = length rows * length columns in
    let numbers = map number rects in
    let distinct : IsDistinct eqb numbers =
    IsDistinct-from_AllPairs Decides-eqb numbers (numbers_differ columns rows rects are apart) in
    let below : All (λ m. m < many) numbers =
    All-map (λ m. m < many) number rects (λ i d low. number_below columns rows (get_or rects i d) (are i d low)) in
    let few : length numbers ≤ many = length-le_from_distinct_below numbers many distinct (found_below many numbers below) in
    subst (λ n. n ≤ length columns * length rows) (length-map rects number)
    (subst (λ n. length numbers ≤ n) (mul_comm (length rows) (length columns)) few)
  where
    mul_comm : (a b : ℕ) → a * b ≡ b * a
    mul_comm a b = omega arith
