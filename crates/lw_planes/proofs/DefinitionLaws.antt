-- The laws of the definitions, as their functions promise them.
use Rattle.std.proofs.Common.{refl, ◌≡◌, ℕ, ◌*◌, ◌<◌, ◌≤◌, List, length, ◌∙◌, ⊎_elim, arith}
use Rattle.std.specs.Int.{bit_at}
use Rattle.std.proofs.lemmas.Bool.{cases_lt}
use Rattle.std.proofs.lemmas.Bool.Decides.{nat_tests}
use Rattle.lw_planes.specs.Grid.{grid, at}
use Rattle.lw_planes.specs.Row.{row_bit}
use Rattle.lw_planes.specs.Bitmap.{Bitmap, IsBitmap, pen_at, row_bytes, plane_bit, plane_row}
use Rattle.lw_planes.specs.Laws.{TableHasItsValues, PenHasItsBits, BitmapIsItsPens, PlaneRowHasItsBits, RowWriteChangesItsRow}
use Rattle.lw_planes.proofs.WriteLaws.{IsBitmap_with_row, width_with_row, height_with_row, depth_with_row, bit_with_row_written, with_row_plane_row, bit_with_row_other}
use Rattle.lw_planes.proofs.GridLaws.{grid_at, grid_past_column, grid_past_row}
use Rattle.lw_planes.proofs.PenLaws.{pen_of_lt, bit_pen_of, pen_same}
use Rattle.lw_planes.proofs.RowLaws.{row_bit_past}
use Rattle.lw_planes.proofs.BitmapLaws.{bitmap_again, length_plane_row, row_bit_plane_row, row_bytes_wide}

-- right of a table is the default, in its rows and below them
table_right : (w h : ℕ) (f : ℕ → ℕ → ℕ) (d x y : ℕ) → w ≤ x → at d (grid w h f) x y ≡ d
table_right w h f d x y past =
    ⊎_elim (λ (low : y < h). grid_past_column w h f d x y past low) (λ (under : h ≤ y). grid_past_row w h f d x y under) (cases_lt y h)

-- a table has its values
pub table_has_its_values : (w h : ℕ) (f : ℕ → ℕ → ℕ) (d : ℕ) → TableHasItsValues w h f d
table_has_its_values w h f d = record {
  inside = λ x y left low. grid_at w h f d x y left low;
  right = λ x y past. table_right w h f d x y past;
  below = λ x y under. grid_past_row w h f d x y under;
}

-- a pen has its bits
pub pen_has_its_bits : (n : ℕ) → PenHasItsBits n
pen_has_its_bits n = record {
  small = λ b bits. pen_of_lt n b bits;
  bits = λ b bits k h. bit_pen_of n b k bits h;
  whole = λ pen small. pen_same n pen small;
}

-- a bitmap is the table of its pens
pub bitmap_is_its_pens : (b : Bitmap) → IsBitmap b → BitmapIsItsPens b
bitmap_is_its_pens b ok = record { again = bitmap_again b ok }

-- a plane's bit inside the bitmap
pub plane_bit_inside : (b : Bitmap) (k x y : ℕ) → x < b.width → plane_bit b k x y ≡ bit_at (pen_at b x y) k
plane_bit_inside b k x y left = let bit : ℕ = bit_at (pen_at b x y) k in grind (arith, nat_tests)

-- a plane's bit in the padding
pub plane_bit_padding : (b : Bitmap) (k x y : ℕ) → b.width ≤ x → plane_bit b k x y ≡ 0
plane_bit_padding b k x y past = let bit : ℕ = bit_at (pen_at b x y) k in grind (arith, nat_tests)

-- bit x of a row is the bit of the pixel there
row_pixel : (b : Bitmap) (k x y : ℕ) → x < b.width → row_bit (plane_row b k y) x ≡ bit_at (pen_at b x y) k
row_pixel b k x y left =
    let wide : b.width ≤ 8 * row_bytes b.width = row_bytes_wide b.width in
    let inside : x < 8 * row_bytes b.width = omega (arith, wide, left) in
    row_bit_plane_row b k x y inside ∙ plane_bit_inside b k x y left

-- bit x of the padding is 0
row_padding : (b : Bitmap) (k x y : ℕ) → b.width ≤ x → row_bit (plane_row b k y) x ≡ 0
row_padding b k x y past =
    ⊎_elim
    (λ (inside : x < 8 * row_bytes b.width). row_bit_plane_row b k x y inside ∙ plane_bit_padding b k x y past)
    (λ (beyond : 8 * row_bytes b.width ≤ x).
    let far : 8 * length (plane_row b k y) ≤ x = rw (length_plane_row b k y) beyond in
    row_bit_past (plane_row b k y) x far)
    (cases_lt x (8 * row_bytes b.width))

-- a row of a plane has its bits
pub plane_row_has_its_bits : (b : Bitmap) (k y : ℕ) → PlaneRowHasItsBits b k y
plane_row_has_its_bits b k y = record {
  long = length_plane_row b k y;
  wide = row_bytes_wide b.width;
  pixels = λ x left. row_pixel b k x y left;
  padding = λ x past. row_padding b k x y past;
}

-- a row that is written back changes that row alone
pub row_write_changes_its_row : (b : Bitmap) (k y : ℕ) (row : List ℕ) → k < b.depth → y < b.height → length row ≡ row_bytes b.width → RowWriteChangesItsRow b k y row
row_write_changes_its_row b k y row deep low long = record {
  bitmap = IsBitmap_with_row b k y row;
  width = width_with_row b k y row;
  height = height_with_row b k y row;
  depth = depth_with_row b k y row;
  whole = with_row_plane_row b k y row (λ x. row_bit row x) deep low long (λ x _. refl);
  written = λ x left. bit_with_row_written b k y row x deep low left long;
  others = λ p i j in_planes in_columns in_rows apart. bit_with_row_other b k y row p i j in_planes in_columns in_rows low long apart;
}
