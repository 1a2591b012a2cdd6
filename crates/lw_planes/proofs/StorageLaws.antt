-- Laws of bitmaps that are kept as one list of bytes.
use Rattle.std.proofs.Common.{◌≡◌, ◌≢◌, ℕ, zero, suc, ◌+◌, ◌-◌, ◌*◌, ◌/◌, ◌%◌, ◌^◌, ◌<◌, ◌≤◌, ◌==◌, ◌&&◌, if◌then◌else◌, List, length, get_or, replicate, ◌∙◌, sym, refl, ap, ⊎_elim, arith}
use Rattle.std.specs.Int.{bit_at}
use Rattle.std.specs.List.{between}
use Rattle.std.proofs.lemmas.Bool.{cases_lt, cases_eq}
use Rattle.std.proofs.lemmas.List.{get_or-replicate, length-replicate, get_or_past}
use Rattle.std.proofs.lemmas.List.Edits.{get_or-between}
use Rattle.std.proofs.lemmas.Nat.{mul-le, same_from_place}
use Rattle.std.proofs.lemmas.Nat.Bits.{bit_at-zero}
use Rattle.std.proofs.lemmas.Bool.Decides.{nat_tests}
use Rattle.lw_planes.specs.Pen.{pen_of}
use Rattle.lw_planes.specs.Row.{row_bit}
use Rattle.lw_planes.specs.Bitmap.{Bitmap, IsBitmap, bitmap, pen_at, row_bytes}
use Rattle.lw_planes.specs.Sizes.{AreSizes, IsPlanes}
use Rattle.lw_planes.specs.Storage.{row_start, bit_place, stored, IsStored}
use Rattle.lw_planes.specs.Change.{with_pen}
use Rattle.lw_planes.proofs.GridLaws.{grid_same}
use Rattle.lw_planes.proofs.PenLaws.{pen_of_lt, pen_of_same, bit_pen_of, pen_same}
use Rattle.lw_planes.proofs.RowLaws.{row_bit_lt}
use Rattle.lw_planes.proofs.BitmapLaws.{IsBitmap_bitmap, pen_at_bitmap, row_bytes_wide}

-- a bitmap by its rows
abbrev pub bitmap_of_rows : ℕ → ℕ → ℕ → List (List ℕ) → Bitmap
bitmap_of_rows w h d rows = record { width = w; height = h; depth = d; rows = rows }

-- the pen of no bits is 0
pen_of_zeros : (n : ℕ) → pen_of n (λ _. 0) ≡ 0
unfolding pen_of
pen_of_zeros zero = refl
pen_of_zeros (suc n) = let front = pen_of_zeros n in omega arith

-- every bit of zeros is 0
row_bit_zeros : (n x : ℕ) → row_bit (replicate n 0) x ≡ 0
unfolding row_bit
row_bit_zeros n x =
    let zero_byte : get_or (replicate n 0) (x / 8) 0 ≡ 0 =
    ⊎_elim
    (λ (low : x / 8 < n). get_or-replicate n (x / 8) 0 0 low)
    (λ (past : n ≤ x / 8). let long : length (replicate n 0) ≤ x / 8 = omega (arith, length-replicate {A = ℕ} n 0, past) in get_or_past (replicate n 0) (x / 8) 0 long)
    (cases_lt (x / 8) n)
    in
    ap (λ p. bit_at p (7 - x % 8)) zero_byte ∙ bit_at-zero (7 - x % 8)

-- a bit of a row that stands before the end
place_below : (start n all w x : ℕ) → start + n ≤ all → w ≤ 8 * n → x < w → 8 * start + x < 8 * all
place_below start n all w x whole wide left = omega arith

-- the step from plane to plane, over plain numbers
step_of : (h n k x y : ℕ) → y * n * 8 + x + k * (h * n * 8) ≡ 8 * ((k * h + y) * n) + x
step_of h n k x y = omega arith

-- the pen that stored bits give is below 2 to the depth
stored_small : (w h d : ℕ) (bytes : List ℕ) (x y : ℕ) → pen_of d (λ k. row_bit bytes (bit_place w h k x y)) < 2 ^ d
stored_small w h d bytes x y = pen_of_lt d (λ k. row_bit bytes (bit_place w h k x y)) (λ k _. row_bit_lt bytes (bit_place w h k x y))

-- what bytes store is a bitmap
pub IsBitmap_stored : (w h d : ℕ) (bytes : List ℕ) → IsBitmap (stored w h d bytes)
IsBitmap_stored w h d bytes = IsBitmap_bitmap w h d _ (λ x y _ _. stored_small w h d bytes x y)

-- what bytes for a bitmap store is one of the sizes for planes
pub IsPlanes_stored : (w h d : ℕ) (bytes : List ℕ) → IsStored w h d bytes → IsPlanes (stored w h d bytes)
IsPlanes_stored w h d bytes ok = record { bitmap = IsBitmap_stored w h d bytes; sizes = ok.sizes }

-- a stored pen
pub pen_at_stored : (w h d : ℕ) (bytes : List ℕ) (x y : ℕ) → x < w → y < h → pen_at (stored w h d bytes) x y ≡ pen_of d (λ k. row_bit bytes (bit_place w h k x y))
pen_at_stored w h d bytes x y left low = pen_at_bitmap w h d _ x y left low

-- one bit of a stored pen
pub bit_stored : (w h d : ℕ) (bytes : List ℕ) (k x y : ℕ) → k < d → x < w → y < h → bit_at (pen_at (stored w h d bytes) x y) k ≡ row_bit bytes (bit_place w h k x y)
bit_stored w h d bytes k x y deep left low =
    ap (λ p. bit_at p k) (pen_at_stored w h d bytes x y left low) ∙
    bit_pen_of d (λ p. row_bit bytes (bit_place w h p x y)) k (λ p _. row_bit_lt bytes (bit_place w h p x y)) deep

-- so many rows of a plane stand before the end of the planes
pub rows_inside : (h n d k y rows : ℕ) → k < d → y + rows ≤ h → row_start h n k y + rows * n ≤ d * h * n
rows_inside h n d k y rows deep low =
    let planes : (k + 1) * h ≤ d * h = mul-le (k + 1) h d h (omega arith) (omega arith) in
    let below : k * h + y + rows ≤ d * h = omega arith in
    let whole : (k * h + y + rows) * n ≤ d * h * n = mul-le (k * h + y + rows) n (d * h) n below (omega arith) in
    omega arith

-- a row of a plane stands before the end of the planes
pub row_start_inside : (h n d k y : ℕ) → k < d → y < h → row_start h n k y + n ≤ d * h * n
row_start_inside h n d k y deep low = let whole = rows_inside h n d k y 1 deep (omega arith) in omega arith

-- a place by its row among all rows
pub place_row : (w h k x y : ℕ) → bit_place w h k x y ≡ (k * h + y) * (8 * row_bytes w) + x
unfolding bit_place
place_row w h k x y = let n : ℕ = row_bytes w in omega arith

-- a place of the planes is a place of the bytes
pub place_inside : (w h d k x y : ℕ) → k < d → x < w → y < h → bit_place w h k x y < 8 * (d * h * row_bytes w)
unfolding bit_place
place_inside w h d k x y deep left low =
    let wide : w ≤ 8 * row_bytes w = row_bytes_wide w in
    let whole : row_start h (row_bytes w) k y + row_bytes w ≤ d * h * row_bytes w = row_start_inside h (row_bytes w) d k y deep low in
    let start : ℕ = row_start h (row_bytes w) k y in
    let all : ℕ = d * h * row_bytes w in
    place_below start (row_bytes w) all w x whole wide left

-- a pixel's place is apart from those of another pixel in every plane
pub places_apart : (w h p i j k x y : ℕ) → i < w → j < h → x < w → y < h → (i ≡ x → j ≡ y → ⊥) → bit_place w h p i j ≢ bit_place w h k x y
places_apart w h p i j k x y left low right high apart same =
    let wide : w ≤ 8 * row_bytes w = row_bytes_wide w in
    let first : i < 8 * row_bytes w = omega (arith, wide, left) in
    let second : x < 8 * row_bytes w = omega (arith, wide, right) in
    let equal : (p * h + j) * (8 * row_bytes w) + i ≡ (k * h + y) * (8 * row_bytes w) + x = sym (place_row w h p i j) ∙ (same ∙ place_row w h k x y) in
    let columns = same_from_place (p * h + j) i (k * h + y) x (8 * row_bytes w) first second equal in
    let rows = same_from_place p j k y h low high columns.0 in
    apart columns.1 rows.1

-- the places of one pixel's bits, plane by plane
pub places_step : (w h k x y : ℕ) → y * row_bytes w * 8 + x + k * (h * row_bytes w * 8) ≡ bit_place w h k x y
unfolding bit_place
places_step w h k x y = let n : ℕ = row_bytes w in step_of h n k x y

-- the pen that is gathered from a pixel's places is the stored pen
pub gathered_stored : (w h d : ℕ) (bytes : List ℕ) (x y : ℕ) → x < w → y < h → pen_of d (λ k. row_bit bytes (y * row_bytes w * 8 + x + k * (h * row_bytes w * 8))) ≡ pen_at (stored w h d bytes) x y
gathered_stored w h d bytes x y left low =
    pen_of_same d (λ k. row_bit bytes (y * row_bytes w * 8 + x + k * (h * row_bytes w * 8))) (λ k. row_bit bytes (bit_place w h k x y)) (λ k _. ap (λ z. row_bit bytes z) (places_step w h k x y)) ∙
    sym (pen_at_stored w h d bytes x y left low)

-- a stored pen is below 2 to the depth
pub pen_at_stored_lt : (w h d : ℕ) (bytes : List ℕ) (x y : ℕ) → x < w → y < h → pen_at (stored w h d bytes) x y < 2 ^ d
pen_at_stored_lt w h d bytes x y left low = rw (pen_at_stored w h d bytes x y left low) (stored_small w h d bytes x y)

-- a choice by two tests, from both of its cases
pub chosen_at_both : (i x j y v a b : ℕ) → (i ≡ x → j ≡ y → v ≡ a) → ((i ≡ x → j ≡ y → ⊥) → v ≡ b) → v ≡ (if i == x && j == y then a else b)
chosen_at_both i x j y v a b here other =
    ⊎_elim
    (λ (e : i ≡ x). ⊎_elim
    (λ (f : j ≡ y). let is : v ≡ a = here e f in grind (arith, nat_tests))
    (λ (g : j ≢ y). let is : v ≡ b = other (λ _ f. g f) in grind (arith, nat_tests))
    (cases_eq j y))
    (λ (g : i ≢ x). let is : v ≡ b = other (λ e _. g e) in grind (arith, nat_tests))
    (cases_eq i x)

-- once the bits of one pixel are written, the bytes store the bitmap with this pen
pub stored_with_pen : (w h d : ℕ) (bytes new : List ℕ) (x y pen : ℕ) → pen < 2 ^ d → x < w → y < h → ((k : ℕ) → k < d → row_bit new (bit_place w h k x y) ≡ bit_at pen k) → ((z : ℕ) → ((k : ℕ) → k < d → z ≢ bit_place w h k x y) → row_bit new z ≡ row_bit bytes z) → stored w h d new ≡ with_pen (stored w h d bytes) x y pen
stored_with_pen w h d bytes new x y pen small left low written others =
    let pens : (i j : ℕ) → i < w → j < h → pen_of d (λ k. row_bit new (bit_place w h k i j)) ≡ (if i == x && j == y then pen else pen_at (stored w h d bytes) i j) =
    λ i j in_columns in_rows. chosen_at_both i x j y (pen_of d (λ k. row_bit new (bit_place w h k i j))) pen (pen_at (stored w h d bytes) i j)
    (λ e f. pen_of_same d (λ k. row_bit new (bit_place w h k i j)) (λ k. bit_at pen k) (λ k deep. ap (λ n. row_bit new (bit_place w h k n j)) e ∙ (ap (λ n. row_bit new (bit_place w h k x n)) f ∙ written k deep)) ∙ pen_same d pen small)
    (λ apart. pen_of_same d (λ k. row_bit new (bit_place w h k i j)) (λ k. row_bit bytes (bit_place w h k i j)) (λ p deep. others (bit_place w h p i j) (λ k _. places_apart w h p i j k x y in_columns in_rows left low apart)) ∙ sym (pen_at_stored w h d bytes i j in_columns in_rows))
    in
    ap (λ rows. bitmap_of_rows w h d rows) (grid_same w h (λ i j. pen_of d (λ k. row_bit new (bit_place w h k i j))) (λ i j. if i == x && j == y then pen else pen_at (stored w h d bytes) i j) pens)

-- a part of the bytes, by its bits
pub row_bit_part : (bytes : List ℕ) (from to x : ℕ) → 8 * from + x < 8 * to → row_bit (between from to bytes) x ≡ row_bit bytes (8 * from + x)
unfolding row_bit
row_bit_part bytes from to x inside =
    let byte : (8 * from + x) / 8 ≡ from + x / 8 = omega arith in
    let place : (8 * from + x) % 8 ≡ x % 8 = omega arith in
    let before : from + x / 8 < to = omega arith in
    ap (λ p. bit_at p (7 - x % 8)) (get_or-between bytes from to (x / 8) 0 before) ∙ rw (byte, place)

-- zeros store the bitmap whose every pen is 0
pub stored_zeros : (w h d n : ℕ) → stored w h d (replicate n 0) ≡ bitmap w h d (λ _ _. 0)
stored_zeros w h d n =
    ap (λ rows. bitmap_of_rows w h d rows)
    (grid_same w h (λ x y. pen_of d (λ k. row_bit (replicate n 0) (bit_place w h k x y))) (λ _ _. 0)
    (λ x y _ _. pen_of_same d (λ k. row_bit (replicate n 0) (bit_place w h k x y)) (λ _. 0) (λ k _. row_bit_zeros n (bit_place w h k x y)) ∙ pen_of_zeros d))

-- the places of a pixel's bits stand in the bytes, with the numbers as a body computes them
pub step_inside : (w h d k x y n m total : ℕ) → n ≡ row_bytes w → m ≡ row_bytes w → total ≡ d * h * row_bytes w → k < d → x < w → y < h → y * n * 8 + x + k * (h * m * 8) < 8 * total
step_inside w h d k x y n m total is_n is_m is_total deep left low =
    let inside : bit_place w h k x y < 8 * (d * h * row_bytes w) = place_inside w h d k x y deep left low in
    rw (is_n, is_m, is_total, places_step w h k x y) inside

-- the pen that a body gathers is the pen of the bitmap
pub pen_gathered : (w h d : ℕ) (bytes all : List ℕ) (x y n m pen : ℕ) → n ≡ row_bytes w → m ≡ row_bytes w → all ≡ bytes → x < w → y < h → pen ≡ pen_of d (λ k. row_bit all (y * n * 8 + x + k * (h * m * 8))) → pen ≡ pen_at (stored w h d bytes) x y
pen_gathered w h d bytes all x y n m pen is_n is_m is_all left low is =
    is ∙
    (ap (λ q. pen_of d (λ k. row_bit all (y * q * 8 + x + k * (h * m * 8)))) is_n ∙
    (ap (λ q. pen_of d (λ k. row_bit all (y * row_bytes w * 8 + x + k * (h * q * 8)))) is_m ∙
    (ap (λ q. pen_of d (λ k. row_bit q (y * row_bytes w * 8 + x + k * (h * row_bytes w * 8)))) is_all ∙ gathered_stored w h d bytes x y left low)))

-- the places of a pixel's bits, with the numbers as a body computes them
places_are : (w h k x y n m : ℕ) → n ≡ row_bytes w → m ≡ row_bytes w → y * n * 8 + x + k * (h * m * 8) ≡ bit_place w h k x y
places_are w h k x y n m is_n is_m = rw (is_n, is_m) (places_step w h k x y)

-- the bytes that a body scattered a pen into store the bitmap with this pen
pub pen_scattered : (w h d : ℕ) (bytes all new : List ℕ) (x y n m pen : ℕ) → n ≡ row_bytes w → m ≡ row_bytes w → all ≡ bytes → pen < 2 ^ d → x < w → y < h → ((k : ℕ) → k < d → row_bit new (y * n * 8 + x + k * (h * m * 8)) ≡ bit_at pen k) → ((z : ℕ) → ((k : ℕ) → k < d → z ≢ y * n * 8 + x + k * (h * m * 8)) → row_bit new z ≡ row_bit all z) → stored w h d new ≡ with_pen (stored w h d bytes) x y pen
pen_scattered w h d bytes all new x y n m pen is_n is_m is_all small left low written others =
    stored_with_pen w h d bytes new x y pen small left low
    (λ k deep. ap (λ z. row_bit new z) (sym (places_are w h k x y n m is_n is_m)) ∙ written k deep)
    (λ z off. others z (λ k deep same. off k deep (same ∙ places_are w h k x y n m is_n is_m)) ∙ ap (λ q. row_bit q z) is_all)

-- where a row begins, with the numbers as a body computes them
pub row_start_is : (w h k y start n : ℕ) → start ≡ (k * h + y) * n → n ≡ row_bytes w → start ≡ row_start h (row_bytes w) k y
row_start_is w h k y start n is is_n = is ∙ ap (λ m. (k * h + y) * m) is_n

-- a place in a row that is one of many
place_among : (start n rows w x j : ℕ) → w ≤ 8 * n → x < w → j < rows → 8 * start + (8 * (j * n) + x) < 8 * (start + rows * n)
place_among start n rows w x j wide left low = let next = mul-le (j + 1) n rows n (omega arith) (omega arith) in omega arith

-- the part of the bytes that a body lends has that plane's bits of its rows' pixels
pub rows_lent : (w h d : ℕ) (bytes part : List ℕ) (k y rows start n : ℕ) → start ≡ (k * h + y) * n → n ≡ row_bytes w → part ≡ between start (start + rows * n) bytes → k < d → y + rows ≤ h → (x j : ℕ) → x < w → j < rows → row_bit part (8 * (j * row_bytes w) + x) ≡ bit_at (pen_at (stored w h d bytes) x (y + j)) k
unfolding bit_place
rows_lent w h d bytes part k y rows start n is is_n is_part deep low x j left below =
    let m : ℕ = row_bytes w in
    let begins = row_start_is w h k y start n is is_n in
    let place : 8 * start + (8 * (j * m) + x) ≡ 8 * ((k * h + (y + j)) * m) + x = omega (arith, begins) in
    ap (λ q. row_bit q (8 * (j * m) + x)) (is_part ∙ ap (λ q. between start (start + rows * q) bytes) is_n) ∙
    (row_bit_part bytes start (start + rows * m) (8 * (j * m) + x) (place_among start m rows w x j (row_bytes_wide w) left below) ∙
    (ap (λ z. row_bit bytes z) place ∙ sym (bit_stored w h d bytes k x (y + j) deep left (omega arith))))

-- how long rows are
pub rows_near : (w h d : ℕ) (rows y long : ℕ) → AreSizes w h d → y + rows ≤ h → long ≡ rows * row_bytes w → long < 2 ^ 32
rows_near w h d rows y long sizes low is =
    let most = mul-le rows (row_bytes w) 2048 256 (omega (arith, sizes.rows.1)) (omega (arith, sizes.columns.1)) in
    omega arith

-- the bits of the first of many rows
pub first_row : (b : Bitmap) (bytes : List ℕ) (k y x : ℕ) → row_bit bytes (8 * (0 * row_bytes b.width) + x) ≡ bit_at (pen_at b x (y + 0)) k → row_bit bytes x ≡ bit_at (pen_at b x y) k
first_row b bytes k y x is =
    let n : ℕ = row_bytes b.width in
    let place : x ≡ 8 * (0 * n) + x = omega arith in
    let row : y + 0 ≡ y = omega arith in
    ap (λ z. row_bit bytes z) place ∙ (is ∙ ap (λ j. bit_at (pen_at b x j) k) row)
