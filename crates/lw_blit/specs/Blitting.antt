-- For private contracts.
-- What a blit makes of a layer's bits (the manual's Graphics Primitives chapter).
use Rattle.std.specs.Prelude.{◌≡◌, ℕ, ◌+◌, ◌-◌, ◌<◌, Bool, true, false, nat_lt, ◌==◌, not, ◌&&◌, ◌||◌, if◌then◌else◌, List, []}
use Rattle.std.specs.Prelude.{ℤ, pos, negsuc, ◌+ℤ◌, ◌-ℤ◌, ◌≤ℤ◌, int_le}
use Rattle.std.specs.Int.{bit_at}
use Rattle.std.specs.List.{slice_index_or}
use Rattle.lw_planes.specs.Row.{bit_of, row_bit}
use Rattle.lw_planes.specs.Bitmap.{Bitmap}
use Rattle.lw_planes.specs.Minterm.{minterm_bit}
use Rattle.lw_calls.specs.declared.area.Area.{Area}
use Rattle.lw_machine.specs.Kept.{holds_at}
use Rattle.lw_machine.specs.Blits.{source_column, source_row, source_pen}
use Rattle.lw_layer.specs.View.{LiveView, keeps}
use Rattle.lw_layer.specs.Copied.{kept_bit}
use Rattle.lw_draw.specs.Drawn.{in_rows}
use Rattle.lw_draw.specs.declared.blocks.Block.{Block}
use Rattle.lw_blit.specs.declared.sources.SourceRows.{SourceRows}
use Rattle.lw_blit.specs.declared.transfers.Transfer.{Transfer}

-- a place is one of those from 0 on, before the extent
abbrev pub has_place : ℕ → ℤ → Bool
has_place extent z = int_le (pos 0) z && not (int_le (pos extent) z)

-- the minterm's value where a pixel takes its source, and its old bit where it takes none
abbrev pub blended : ℕ → Bool → ℕ → ℕ → ℕ
blended minterm takes source old = if takes then minterm_bit minterm source old else old

-- the sources of a blit
abbrev pub blit_by : Area → Transfer
blit_by a = record { dx = a.sx -ℤ a.x; dy = a.sy -ℤ a.y; minterm = a.minterm; clears = false }

-- where the source of a column lies, and of a row
abbrev pub taken_column : Transfer → ℕ → ℤ
taken_column t x = pos x +ℤ t.dx

abbrev pub taken_row : Transfer → ℕ → ℤ
taken_row t y = pos y +ℤ t.dy

-- the layer keeps the source of a pixel
abbrev pub has_source : LiveView → Transfer → ℕ → ℕ → Bool
has_source source t x y = holds_at (λ i j. keeps source i j) (taken_column t x) (taken_row t y)

-- a plane's bit of that source, and 0 where the layer doesn't keep it
abbrev pub source_bit : LiveView → Transfer → ℕ → ℕ → ℕ → ℕ
source_bit source t p x y = kept_bit source p (taken_column t x) (taken_row t y)

-- what a plane's bit becomes with the pixels of a layer as sources
unfoldable pub from_layer : LiveView → Transfer → ℕ → ℕ → ℕ → ℕ → ℕ
from_layer source t p x y old = blended t.minterm (t.clears || has_source source t x y) (source_bit source t p x y) old

-- one plane of rows that were read
abbrev pub plane_of : SourceRows → ℕ → List ℕ
plane_of r p = slice_index_or r.bits p []

-- the n-th pixel takes its source in this plane
abbrev pub takes : SourceRows → ℕ → ℕ → Bool
takes r p n = r.all || (row_bit (plane_of r p) n == 1 || row_bit r.kept n == 1)

-- what it becomes with the rows that were read, which go to the columns from `first` on
abbrev pub from_rows : ℕ → SourceRows → ℕ → ℕ → ℕ → ℕ → ℕ → ℕ
from_rows minterm r first p x y old = blended minterm (takes r p (x - first)) (row_bit (plane_of r p) (x - first)) old

-- what it becomes with all pixels of a bitmap as sources
abbrev pub from_bits : Bitmap → Area → ℕ → ℕ → ℕ → ℕ → ℕ
from_bits source a p x y old = minterm_bit a.minterm (bit_at (source_pen source a x y) p) old

-- the drawable pixels of some rows and columns, in the planes of a mask
abbrev pub masked : ℕ → LiveView → ℕ → ℕ → ℕ → ℕ → ℕ → ℕ → ℕ → Bool
masked mask c top bottom from end p i j = bit_at mask p == 1 && in_rows c top bottom from end i j

-- some pixels in the planes of a mask, and in those before one of them
abbrev pub in_planes : ℕ → (ℕ → ℕ → Bool) → ℕ → ℕ → ℕ → Bool
in_planes mask inside p i j = bit_at mask p == 1 && inside i j

abbrev pub planes_before : ℕ → ℕ → (ℕ → ℕ → Bool) → ℕ → ℕ → ℕ → Bool
planes_before mask k inside p i j = nat_lt p k && in_planes mask inside p i j

-- The planes of a mask before one of them were read, from this place of a layer on, and which pixels it keeps.
pub record AreRead (c : LiveView) (mask k : ℕ) (x y : ℤ) (n : ℕ) (r : SourceRows) : Type 0 where
  pub pens : (p i : ℕ) → p < k → (bit_at mask p == 1) ≡ true → i < n → row_bit (plane_of r p) i ≡ kept_bit c p (x +ℤ pos i) y
  pub kept : (p i : ℕ) → p < k → (bit_at mask p == 1) ≡ true → i < n
      → row_bit r.kept i ≡ bit_of (holds_at (λ u v. keeps c u v) (x +ℤ pos i) y)

-- The rows are the sources of some columns of a row, in the first planes that the mask has.
pub record AreSources (c : LiveView) (t : Transfer) (mask planes y from end : ℕ) (r : SourceRows) : Type 0 where
  pub pens : (p i : ℕ) → p < planes → (bit_at mask p == 1) ≡ true → i < end - from
      → row_bit (plane_of r p) i ≡ source_bit c t p (from + i) y
  pub kept : (p i : ℕ) → p < planes → (bit_at mask p == 1) ≡ true → i < end - from
      → row_bit r.kept i ≡ bit_of (has_source c t (from + i) y)
  pub all : (i : ℕ) → i < end - from → (r.all || row_bit r.kept i == 1) ≡ (t.clears || row_bit r.kept i == 1)

-- the places and sizes of a blit are far from the ends of the numbers
pub record IsNear (a : Area) : Type 0 where
  pub sx_low : negsuc 65535 ≤ℤ a.sx
  pub sx_high : a.sx ≤ℤ pos 65535
  pub sy_low : negsuc 65535 ≤ℤ a.sy
  pub sy_high : a.sy ≤ℤ pos 65535
  pub x_low : negsuc 65535 ≤ℤ a.x
  pub x_high : a.x ≤ℤ pos 65535
  pub y_low : negsuc 65535 ≤ℤ a.y
  pub y_high : a.y ≤ℤ pos 65535
  pub w_low : pos 0 ≤ℤ a.w
  pub w_high : a.w ≤ℤ pos 65535
  pub h_low : pos 0 ≤ℤ a.h
  pub h_high : a.h ≤ℤ pos 65535

-- and so are the sources of a transfer
pub record AreNear (t : Transfer) : Type 0 where
  pub dx_low : negsuc 131071 ≤ℤ t.dx
  pub dx_high : t.dx ≤ℤ pos 131071
  pub dy_low : negsuc 131071 ≤ℤ t.dy
  pub dy_high : t.dy ≤ℤ pos 131071

-- a bitmap has the source of a pixel
abbrev pub is_source : Bitmap → Area → ℕ → ℕ → Bool
is_source b a x y = has_place b.width (source_column a x) && has_place b.height (source_row a y)

-- a layer keeps the source of a pixel
abbrev pub keeps_source : LiveView → Area → ℕ → ℕ → Bool
keeps_source source a x y = holds_at (λ i j. keeps source i j) (source_column a x) (source_row a y)

-- the drawable pixels of some rows and columns whose sources a layer keeps, in the planes of a mask
abbrev pub taken : ℕ → LiveView → LiveView → Area → ℕ → ℕ → ℕ → ℕ → ℕ → ℕ → ℕ → Bool
taken mask c source a top bottom from end p i j =
    bit_at mask p == 1 && (in_rows c top bottom from end i j && keeps_source source a i j)

-- a block has the source of a pixel
abbrev pub leads_to : Block → Area → ℕ → ℕ → Bool
leads_to b a x y =
    (int_le (pos b.x) (source_column a x) && not (int_le (pos (b.x + b.run.len)) (source_column a x)))
    && (int_le (pos b.y) (source_row a y) && not (int_le (pos (b.y + b.rows)) (source_row a y)))
