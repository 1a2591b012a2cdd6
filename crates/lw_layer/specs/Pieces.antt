-- Where a live layer's pens lie: in rectangles of the screen's plane, each with a buffer of its size (the manual's
-- Layers Library chapter: the ClipRect structure; which rectangles have a buffer is this project's own).
use Rattle.std.specs.Prelude.{◌≡◌, ℕ, ◌==◌, ◌<◌, ◌≤◌, ◌+◌, ◌-◌, ◌*◌, Bool, true, false, ◌&&◌, nat_le, nat_lt, if◌then◌else◌}
use Rattle.std.specs.Prelude.{List, [], ◌∷◌, ◌++◌, length, ℤ, pos, ◌+ℤ◌, ◌-ℤ◌, Option, Some, None}
use Rattle.std.specs.Int.{bit_at}
use Rattle.std.specs.List.{position, slice_index_or}
use Rattle.lw_region.specs.Rectangle.{Rectangle, has_pixel, width, height}
use Rattle.lw_planes.specs.Pen.{pen_of}
use Rattle.lw_planes.specs.Row.{row_bit}
use Rattle.lw_planes.specs.Bitmap.{Bitmap, pen_at, row_bytes}
use Rattle.lw_planes.specs.Change.{overwritten_bit}
use Rattle.lw_planes.specs.Grid.{grid}
use Rattle.lw_region.specs.Bands.{covers}
use Rattle.lw_calls.specs.Kinds.{is_super}
use Rattle.lw_damage.specs.Damaged.{Damaged}
use Rattle.lw_calls.specs.declared.make.Kind.{Kind}
use Rattle.lw_calls.specs.declared.make.Kind.TheVariants.{Simple, Smart, SuperBitmap}
use Rattle.lw_cliprects.specs.Parts.{hidden_of}
use Rattle.lw_machine.specs.Layer.{is_framed}
use Rattle.lw_machine.specs.Desk.{is_the}
use Rattle.lw_machine.specs.Screen.{distance}
use Rattle.lw_machine.specs.Kept.{screen_place, holds_at}
use Rattle.lw_layer.specs.View.{LiveView, keeps, repainted}

-- Where a layer's pixels lie: its bounds and visible rectangles in screen coordinates, its kind, its scroll, and its bits' size.
pub record Layout : Type 0 where
  pub bounds : Rectangle
  pub visible : List Rectangle
  pub kind : Kind
  pub scroll_x : ℕ
  pub scroll_y : ℕ
  pub width : ℕ
  pub height : ℕ

abbrev pub layout_of : LiveView → Layout
layout_of c = record {
  bounds = c.bounds;
  visible = c.visible;
  kind = c.layer.kind;
  scroll_x = c.layer.scroll_x;
  scroll_y = c.layer.scroll_y;
  width = c.layer.bits.width;
  height = c.layer.bits.height;
}

-- where all pixels of the layer's bits lie on the screen's plane
abbrev pub whole_of : Layout → Rectangle
whole_of l =
    let left = l.bounds.min_x -ℤ pos l.scroll_x in
    let upper = l.bounds.min_y -ℤ pos l.scroll_y in
    record { min_x = left; min_y = upper; max_x = (left +ℤ pos l.width) -ℤ pos 1; max_y = (upper +ℤ pos l.height) -ℤ pos 1 }

-- The rectangles with a buffer beside the visible ones: a simple layer has none, a smart layer its hidden ones, and a
-- super-bitmap layer its whole bitmap.
abbrev pub rest_as : Kind → List Rectangle → Rectangle → List Rectangle
rest_as Simple hidden whole = []
rest_as Smart hidden whole = hidden
rest_as SuperBitmap hidden whole = whole ∷ []

abbrev pub rest_of : Layout → List Rectangle
rest_of l = rest_as l.kind (hidden_of l.bounds l.visible) (whole_of l)

-- all rectangles with a buffer, the visible ones first
abbrev pub buffered : Layout → List Rectangle
buffered l = l.visible ++ rest_of l

-- the rectangle of the buffer with a number
abbrev pub buffer_rectangle : Layout → ℕ → Rectangle
buffer_rectangle l n = slice_index_or (buffered l) n l.bounds

-- where the layer's column x and its row y lie on the screen's plane
abbrev pub across : Layout → ℕ → ℤ
across l x = screen_place l.bounds.min_x l.scroll_x x

abbrev pub down : Layout → ℕ → ℤ
down l y = screen_place l.bounds.min_y l.scroll_y y

-- the number of the first of these rectangles on which the pixel (x, y) lies
abbrev pub found_in : Layout → List Rectangle → ℕ → ℕ → Option ℕ
found_in l rects x y = position (λ r. has_pixel r (across l x) (down l y)) rects

-- The number of the buffer that has the pen of the pixel (x, y) of the layer's bits: that of the first rectangle with a
-- buffer on which the pixel lies.
unfoldable pub buffer_at : Layout → ℕ → ℕ → Option ℕ
buffer_at l x y = if nat_lt x l.width && nat_lt y l.height then found_in l (buffered l) x y else None

-- the column of the layer's column x in a buffer, and the line of the layer's row y
abbrev pub column_in : Layout → ℕ → ℕ → ℕ
column_in l n x = distance (buffer_rectangle l n).min_x (across l x)

abbrev pub line_in : Layout → ℕ → ℕ → ℕ
line_in l n y = distance (buffer_rectangle l n).min_y (down l y)

-- the pen of the pixel (x, y) is in this line of this buffer
unfoldable pub in_line : Layout → ℕ → ℕ → ℕ → ℕ → Bool
in_line l n line x y = is_the (buffer_at l x y) n && line_in l n y == line

-- there is this line of this buffer
pub record HasLine (l : Layout) (n line : ℕ) : Type 0 where
  pub buffer : n < length (buffered l)
  pub below : line < height (buffer_rectangle l n)

-- there are so many lines of this buffer from this line on
pub record HaveLines (l : Layout) (n line rows : ℕ) : Type 0 where
  pub buffer : n < length (buffered l)
  pub below : line + rows ≤ height (buffer_rectangle l n)

-- the pen of the pixel (x, y) is in one of so many lines of this buffer from a line on
unfoldable pub in_lines : Layout → ℕ → ℕ → ℕ → ℕ → ℕ → Bool
in_lines l n line rows x y = is_the (buffer_at l x y) n && (nat_le line (line_in l n y) && nat_lt (line_in l n y) (line + rows))

-- where in the bytes of lines of a buffer, from a line on, the bit is of a pixel (x, y) whose pen is in one of them
abbrev pub place_from : Layout → ℕ → ℕ → ℕ → ℕ → ℕ
place_from l n line x y = 8 * ((line_in l n y - line) * row_bytes (width (buffer_rectangle l n))) + column_in l n x

-- the bytes have in a plane the bits of the pixels whose pens are in so many lines of a buffer from a line on
abbrev pub HaveLinesBits : LiveView → ℕ → ℕ → ℕ → ℕ → List ℕ → Type 0
HaveLinesBits c plane n line rows bytes =
    (x y : ℕ) → in_lines (layout_of c) n line rows x y ≡ true
    → row_bit bytes (place_from (layout_of c) n line x y) ≡ bit_at (pen_at c.layer.bits x y) plane

-- The live layer once these bytes were written over those of a buffer's planes from a line of a plane on.
unfoldable pub with_bytes : LiveView → ℕ → ℕ → ℕ → List ℕ → LiveView
with_bytes c plane n line bytes =
    let l = layout_of c in
    let r = buffer_rectangle l n in
    repainted (λ x y. if is_the (buffer_at l x y) n
    then pen_of c.layer.bits.depth
    (λ p. overwritten_bit (width r) (height r) plane line bytes (column_in l n x) (line_in l n y) p
    (bit_at (pen_at c.layer.bits x y) p))
    else pen_at c.layer.bits x y) c

-- The live layer whose pixels with their pens in so many lines of a buffer from a line on have in a plane the bits that these
-- bytes hold; and all else is as it was.
abbrev pub with_lines : LiveView → ℕ → ℕ → ℕ → ℕ → List ℕ → LiveView
with_lines c plane n line rows bytes =
    let l = layout_of c in
    repainted (λ x y. pen_of c.layer.bits.depth
    (λ p. if p == plane && in_lines l n line rows x y then row_bit bytes (place_from l n line x y)
    else bit_at (pen_at c.layer.bits x y) p)) c

-- Where damage may lie in a layer w wide and h high: nowhere in a super-bitmap layer, in what the frame leaves of a framed
-- window, and in all of any other layer.
abbrev pub inner_of : Bool → Bool → ℕ → ℕ → Option Rectangle
inner_of true framed w h = None
inner_of false true w h = Some (record { min_x = pos 4; min_y = pos 11; max_x = pos (w - 5); max_y = pos (h - 3) })
inner_of false false w h = Some (record { min_x = pos 0; min_y = pos 0; max_x = pos (w - 1); max_y = pos (h - 1) })

abbrev pub inner_in : LiveView → Option Rectangle
inner_in c = inner_of (is_super c.layer.kind) (is_framed c.layer.window) c.layer.bits.width c.layer.bits.height

-- a frame has room in bounds that are at least 9 wide and 14 high
pub record HasFrameRoom (r : Rectangle) : Type 0 where
  pub wide : 9 ≤ width r
  pub high : 14 ≤ height r

-- which pixels of a layer with these bits are damaged, by the rectangles of its damage
abbrev pub damage_table : Bitmap → List Rectangle → List (List Bool)
damage_table bits rects = grid bits.width bits.height (λ x y. covers rects (pos x) (pos y))

-- The damage is that of the layer: its pixels, which are kept and lie in the layer's inner rectangle, and whether an update is
-- on.
pub record IsDamageOf (c : LiveView) (d : Damaged) : Type 0 where
  pub pixels : c.layer.damage ≡ damage_table c.layer.bits d.rects
  pub kept : (x y : ℤ) → covers d.rects x y ≡ true → holds_at (λ i j. keeps c i j) x y ≡ true
  pub inner : d.inner ≡ inner_in c
  pub updating : d.updating ≡ c.layer.updating
