-- Laws of bitmaps and the rows of their planes.
use Rattle.std.proofs.Common.{◌≡◌, ℕ, ◌+◌, ◌-◌, ◌*◌, ◌/◌, ◌%◌, ◌^◌, ◌<◌, ◌≤◌, length, slice_index, inl, inr, ◌∙◌, sym, ap, zero-add, arith}
use Rattle.std.specs.Int.{bit_at}
use Rattle.std.proofs.lemmas.Bool.Decides.{nat_tests}
use Rattle.std.proofs.lemmas.List.FromFn.{length-map-range_with_len, get_or-map-range_with_len}
use Rattle.std.proofs.lemmas.Nat.Bits.{bit_at-lt}
use Rattle.std.proofs.lemmas.Bool.{cases_lt}
use Rattle.std.proofs.lemmas.Nat.{pow_pos}
use Rattle.lw_planes.specs.Pen.{byte_of}
use Rattle.lw_planes.specs.Row.{row_bit}
use Rattle.lw_planes.specs.Bitmap.{Bitmap, IsBitmap, bitmap, pen_at, row_bytes, plane_bit, plane_row}
use Rattle.lw_planes.proofs.GridLaws.{grid_length, grid_same, grid_row_length, grid_at, grid_past_column, grid_past_row, grid_of_rows, grid_from_rows}
use Rattle.lw_planes.proofs.PenLaws.{bit_byte_of}
use Rattle.lw_planes.proofs.RowLaws.{row_bit_at}

-- a tabulated bitmap whose pens have bits in its planes alone is one
pub IsBitmap_bitmap : (w h d : ℕ) (f : ℕ → ℕ → ℕ) → ((x y : ℕ) → x < w → y < h → f x y < 2 ^ d) → IsBitmap (bitmap w h d f)
IsBitmap_bitmap w h d f small = record {
  rows = grid_length w h f;
  columns = λ y low. grid_row_length w h f y low;
  pens = λ x y left low. let pen = grid_at w h f 0 x y left low in let less = small x y left low in omega (arith, pen, less);
}

-- a tabulated bitmap has each pen in its place
pub pen_at_bitmap : (w h d : ℕ) (f : ℕ → ℕ → ℕ) (x y : ℕ) → x < w → y < h → pen_at (bitmap w h d f) x y ≡ f x y
pen_at_bitmap w h d f x y left low = grid_at w h f 0 x y left low

-- a bitmap is the table of its pens
pub bitmap_again : (b : Bitmap) → IsBitmap b → bitmap b.width b.height b.depth (λ x y. pen_at b x y) ≡ b
bitmap_again b ok = ap (λ rows. record b { rows = rows }) (sym (grid_of_rows b.width b.height 0 b.rows ok.rows ok.columns))

-- a bitmap whose every pen is the tabulated one is the tabulated bitmap
pub bitmap_from_pens : (b : Bitmap) (f : ℕ → ℕ → ℕ) → IsBitmap b → ((x y : ℕ) → x < b.width → y < b.height → pen_at b x y ≡ f x y) → b ≡ bitmap b.width b.height b.depth f
bitmap_from_pens b f ok same = ap (λ rows. record b { rows = rows }) (grid_from_rows b.width b.height f 0 b.rows ok.rows ok.columns same)

-- every pen of a bitmap, and the pen 0 off it, is of its planes
pub pen_at_lt : (b : Bitmap) (x y : ℕ) → IsBitmap b → pen_at b x y < 2 ^ b.depth
pen_at_lt b x y ok =
    let some : 0 < 2 ^ b.depth = pow_pos b.depth in
    let off : pen_at b x y ≡ 0 → pen_at b x y < 2 ^ b.depth = λ zero. omega (arith, some, zero) in
    let again : pen_at b x y ≡ pen_at (bitmap b.width b.height b.depth (λ i j. pen_at b i j)) x y = ap (λ q. pen_at q x y) (sym (bitmap_again b ok)) in
    elim (cases_lt y b.height) [
      | inl low ↦ elim (cases_lt x b.width) [
        | inl left ↦ ok.pens x y left low
        | inr past ↦ off (again ∙ grid_past_column b.width b.height (λ i j. pen_at b i j) 0 x y past low)
      ]
      | inr past ↦ off (again ∙ grid_past_row b.width b.height (λ i j. pen_at b i j) 0 x y past)
    ]

-- a row of whole words has room for every pixel
pub row_bytes_wide : (w : ℕ) → w ≤ 8 * row_bytes w
row_bytes_wide w = omega arith

-- a row of a plane has whole words
pub length_plane_row : (b : Bitmap) (k y : ℕ) → length (plane_row b k y) ≡ row_bytes b.width
unfolding plane_row
length_plane_row b k y = length-map-range_with_len _ 0 (row_bytes b.width)

-- a plane's bit is 0 or 1
pub plane_bit_lt : (b : Bitmap) (k x y : ℕ) → plane_bit b k x y < 2
plane_bit_lt b k x y = let bit = bit_at-lt (pen_at b x y) k in grind (arith, nat_tests)

-- byte i of a row of a plane
pub plane_row_at : (b : Bitmap) (k y i : ℕ) → i < row_bytes b.width → slice_index (plane_row b k y) i ≡ byte_of (λ j. plane_bit b k (8 * i + j) y)
unfolding plane_row
plane_row_at b k y i h = get_or-map-range_with_len (λ n. byte_of (λ j. plane_bit b k (8 * n + j) y)) 0 (row_bytes b.width) i i 0 h (zero-add i)

-- bit x of a row of a plane is that plane's bit of pixel x, and 0 in the padding
pub row_bit_plane_row : (b : Bitmap) (k x y : ℕ) → x < 8 * row_bytes b.width → row_bit (plane_row b k y) x ≡ plane_bit b k x y
row_bit_plane_row b k x y h =
    let i : ℕ = x / 8 in
    let j : ℕ = x % 8 in
    let inside : i < row_bytes b.width = omega arith in
    let small : j < 8 = omega arith in
    let whole : 8 * i + j ≡ x = omega arith in
    ap (λ n. row_bit (plane_row b k y) n) (sym whole) ∙
    (row_bit_at (plane_row b k y) i j small ∙
    (ap (λ p. bit_at p (7 - j)) (plane_row_at b k y i inside) ∙
    (bit_byte_of (λ n. plane_bit b k (8 * i + n) y) j (λ n l. plane_bit_lt b k (8 * i + n) y) small ∙ ap (λ n. plane_bit b k n y) whole)))

-- tabulated bitmaps are equal where their pens are
pub bitmap_same : (w h d : ℕ) (f g : ℕ → ℕ → ℕ) → ((x y : ℕ) → x < w → y < h → f x y ≡ g x y) → bitmap w h d f ≡ bitmap w h d g
bitmap_same w h d f g same = ap (λ rows. record { width = w; height = h; depth = d; rows = rows }) (grid_same w h f g same)
