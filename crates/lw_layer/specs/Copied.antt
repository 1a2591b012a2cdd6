-- What reading a row of one plane of a layer's pixels gives, laying all of them on a bitmap, and the strips that it lends.
use Rattle.std.specs.Prelude.{◌≡◌, ℕ, ◌+◌, ◌<◌, true, List, ◌++◌, ℤ, pos, ◌+ℤ◌, ◌-ℤ◌, Option, Some, None}
use Rattle.std.specs.Int.{bit_at}
use Rattle.std.specs.List.{All}
use Rattle.lw_region.specs.Rectangle.{Rectangle}
use Rattle.lw_region.specs.Bands.{covers}
use Rattle.lw_planes.specs.Row.{bit_of, row_bit}
use Rattle.lw_planes.specs.Bitmap.{Bitmap, bitmap, pen_at}
use Rattle.lw_strips.specs.Strips.{StripView}
use Rattle.lw_strips.specs.Strips as strips
use Rattle.lw_buffers.specs.Lookup.{pen_in}
use Rattle.lw_machine.specs.Screen.{distance}
use Rattle.lw_machine.specs.Kept.{holds_at}
use Rattle.lw_layer.specs.View.{LiveView, keeps, kept_pen}
use Rattle.lw_layer.specs.Pieces.{Layout}
use Rattle.lw_layer.specs.Drafts.{own_list}
use Rattle.lw_layer.specs.declared.draft.LiveDraft.{LiveDraft}

-- a plane's bit of a pen, and 0 of no pen
abbrev pub bit_in : ℕ → Option ℕ → ℕ
bit_in plane None = 0
bit_in plane (Some pen) = bit_at pen plane

-- the plane's bit of the pen of the pixel (x, y), and 0 where the layer doesn't keep that pixel
unfoldable pub kept_bit : LiveView → ℕ → ℤ → ℤ → ℕ
kept_bit c plane x y = bit_in plane (kept_pen c x y)

-- The first n bits are the plane's bits of the pixels of row y from column x on, and tell which of them are kept.
pub record IsRowOf (c : LiveView) (plane : ℕ) (x y : ℤ) (n : ℕ) (bits kept : List ℕ) : Type 0 where
  pub pens : (i : ℕ) → i < n → row_bit bits i ≡ kept_bit c plane (x +ℤ pos i) y
  pub there : (i : ℕ) → i < n → row_bit kept i ≡ bit_of (holds_at (λ u v. keeps c u v) (x +ℤ pos i) y)

-- the pen that was told, and another one where none was
abbrev pub pen_over : ℕ → Option ℕ → ℕ
pen_over old None = old
pen_over old (Some pen) = pen

-- The bitmap with the pens that the layer keeps, its pixel (0, 0) on the layer's pixel (x, y). Where the layer keeps no pixel, it
-- is as it was.
abbrev pub with_kept : LiveView → ℤ → ℤ → Bitmap → Bitmap
with_kept c x y b = bitmap b.width b.height b.depth (λ i j. pen_over (pen_at b i j) (kept_pen c (x +ℤ pos i) (y +ℤ pos j)))

-- the pen of the layer's pixel that lies on the place (x, y) of the screen, for a place that its bounds have
abbrev pub pen_shown : LiveView → ℕ → ℕ → ℕ
pen_shown c x y =
    pen_at c.layer.bits (distance c.bounds.min_x (pos x) + c.layer.scroll_x) (distance c.bounds.min_y (pos y) + c.layer.scroll_y)

-- The strips are solid, have as many planes as the layer, and where it is visible on the screen they have the pens that it shows.
pub record HaveShown (c : LiveView) (s : List StripView) : Type 0 where
  pub solid : All (λ q. q.solid ≡ true) s
  pub planes : All (λ q. q.planes.depth ≡ c.layer.bits.depth) s
  pub pens : (x y : ℕ) → covers c.visible (pos x) (pos y) ≡ true → strips.pen_in s (pos x) (pos y) ≡ pen_shown c x y

-- What reading a row gives of the places of a list of rectangles with a bitmap each, for private contracts.
pub record HasPlaces
    (rects : List Rectangle) (buffers : List Bitmap) (plane : ℕ) (x y : ℤ) (n : ℕ) (bits kept : List ℕ) : Type 0 where
  pub pens : (i : ℕ) → i < n → row_bit bits i ≡ bit_at (pen_in rects buffers (x +ℤ pos i) y) plane
  pub there : (i : ℕ) → i < n → row_bit kept i ≡ bit_of (covers rects (x +ℤ pos i) y)

-- all bits are 0
pub record AreClear (bits kept : List ℕ) : Type 0 where
  pub pens : (i : ℕ) → row_bit bits i ≡ 0
  pub there : (i : ℕ) → row_bit kept i ≡ 0

-- where the layer's column x lies on the plane of the screen, for any x
abbrev pub across_at : Layout → ℤ → ℤ
across_at l x = (l.bounds.min_x +ℤ x) -ℤ pos l.scroll_x

-- where the layer's row y lies there, for any y
abbrev pub down_at : Layout → ℤ → ℤ
down_at l y = (l.bounds.min_y +ℤ y) -ℤ pos l.scroll_y

-- all buffers but those of the visible rectangles
abbrev pub rest_buffers : LiveDraft → List Bitmap
rest_buffers d = d.covered.items ++ own_list d.superbits

-- all pixels of a bitmap
abbrev pub area_of : Bitmap → Rectangle
area_of b = record { min_x = pos 0; min_y = pos 0; max_x = pos b.width -ℤ pos 1; max_y = pos b.height -ℤ pos 1 }
