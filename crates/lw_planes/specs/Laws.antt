-- What the definitions of tables, pens and bitmaps promise.
use Rattle.std.specs.Prelude.{◌≡◌, ℕ, ◌*◌, ◌^◌, ◌<◌, ◌≤◌, List, length}
use Rattle.std.specs.Int.{bit_at}
use Rattle.lw_planes.specs.Grid.{grid, at}
use Rattle.lw_planes.specs.Pen.{pen_of}
use Rattle.lw_planes.specs.Row.{row_bit}
use Rattle.lw_planes.specs.Bitmap.{Bitmap, IsBitmap, bitmap, pen_at, row_bytes, plane_row}
use Rattle.lw_planes.specs.Change.{with_row, with_plane_row}

-- A table of w columns and h rows has at each of its places what was tabulated there, and the default at every other place.
pub record TableHasItsValues (w h : ℕ) (f : ℕ → ℕ → ℕ) (d : ℕ) : Type 0 where
  pub inside : (x y : ℕ) → x < w → y < h → at d (grid w h f) x y ≡ f x y
  pub right : (x y : ℕ) → w ≤ x → at d (grid w h f) x y ≡ d
  pub below : (x y : ℕ) → h ≤ y → at d (grid w h f) x y ≡ d

-- The pen of n planes with these bits is below 2 ^ n and has them, and a pen is the pen with its bits.
pub record PenHasItsBits (n : ℕ) : Type 0 where
  pub small : (b : ℕ → ℕ) → ((k : ℕ) → k < n → b k < 2) → pen_of n b < 2 ^ n
  pub bits : (b : ℕ → ℕ) → ((k : ℕ) → k < n → b k < 2) → (k : ℕ) → k < n → bit_at (pen_of n b) k ≡ b k
  pub whole : (pen : ℕ) → pen < 2 ^ n → pen_of n (λ k. bit_at pen k) ≡ pen

-- A bitmap is the table of its pens.
pub record BitmapIsItsPens (b : Bitmap) : Type 0 where
  pub again : bitmap b.width b.height b.depth (λ x y. pen_at b x y) ≡ b

-- Row y of plane k has whole words that are wide enough, bit k of each pen in its place, and zeros in the padding.
pub record PlaneRowHasItsBits (b : Bitmap) (k y : ℕ) : Type 0 where
  pub long : length (plane_row b k y) ≡ row_bytes b.width
  pub wide : b.width ≤ 8 * row_bytes b.width
  pub pixels : (x : ℕ) → x < b.width → row_bit (plane_row b k y) x ≡ bit_at (pen_at b x y) k
  pub padding : (x : ℕ) → b.width ≤ x → row_bit (plane_row b k y) x ≡ 0

-- Once as many bytes as a row has were written back to row y of plane k, the pixels of that row have their bits in that
-- plane, every other bit is as it was, and so is the size.
pub record RowWriteChangesItsRow (b : Bitmap) (k y : ℕ) (row : List ℕ) : Type 0 where
  pub bitmap : IsBitmap (with_row b k y row)
  pub width : (with_row b k y row).width ≡ b.width
  pub height : (with_row b k y row).height ≡ b.height
  pub depth : (with_row b k y row).depth ≡ b.depth
  pub whole : with_row b k y row ≡ with_plane_row b k y (λ x. row_bit row x)
  pub written : (x : ℕ) → x < b.width → bit_at (pen_at (with_row b k y row) x y) k ≡ row_bit row x
  pub others : (p i j : ℕ) → p < b.depth → i < b.width → j < b.height → (p ≡ k → j ≡ y → ⊥) →
      bit_at (pen_at (with_row b k y row) i j) p ≡ bit_at (pen_at b i j) p
