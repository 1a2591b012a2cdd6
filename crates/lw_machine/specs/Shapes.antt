-- The shapes of the drawing calls, and what each call leaves of a layer. A call paints each drawable pixel of its shape
-- once, decided from the layer before it (the manual's chapters Graphics Primitives and, for text, Graphics Library and Text;
-- the rule of the line, the cell of a text and that a fill, a line and a pixel take no notice of INVERSVID are this project's
-- own).
use Rattle.std.specs.Prelude.{ℕ, ◌+◌, ◌-◌, ◌*◌, ◌/◌, ◌%◌, ◌==◌, Bool, true, not, ◌&&◌, nat_le, if◌then◌else◌, List, [], length, ℤ}
use Rattle.std.specs.Prelude.{pos, ◌+ℤ◌, ◌-ℤ◌, int_le, unsigned_abs}
use Rattle.std.specs.Int.{bit_at, int_min, int_max}
use Rattle.std.specs.List.{slice_index_or}
use Rattle.std.specs.Ordering.{int_eq}
use Rattle.lw_region.specs.Rectangle.{Rectangle, within, has_pixel}
use Rattle.lw_machine.specs.Layer.{Layer}
use Rattle.lw_machine.specs.Paint.{has_inversvid, paint_where, set_where}

-- the bounds that a box of w columns and h rows has at its place
abbrev pub box_at : ℤ → ℤ → ℤ → ℤ → Rectangle
box_at x y w h = record { min_x = x; min_y = y; max_x = (x +ℤ w) -ℤ pos 1; max_y = (y +ℤ h) -ℤ pos 1 }

-- WritePixel: the one pixel, in the foreground.
abbrev pub write_pixel : (ℕ → ℕ → Bool) → ℤ → ℤ → Layer → Layer
write_pixel visible px py l = paint_where visible (λ x y. int_eq (pos x) px && int_eq (pos y) py) (λ x y. true) l

-- RectFill: the rectangle's pixels, in the foreground.
abbrev pub rect_fill : (ℕ → ℕ → Bool) → Rectangle → Layer → Layer
rect_fill visible rect l = paint_where visible (λ x y. has_pixel rect (pos x) (pos y)) (λ x y. true) l

-- How far a line has moved on its short axis after i steps on its long axis, where it moves by m on the short axis in its
-- n steps in all: i * m / n, rounded to the nearest whole number, and a half up.
unfoldable pub line_offset : ℕ → ℕ → ℕ → ℕ
line_offset n m i = if n == 0 then 0 else (2 * i * m + n) / (2 * n)

-- The place a is this many steps away from the place from, in the direction of the place to.
abbrev pub is_steps_towards : ℤ → ℤ → ℕ → ℤ → Bool
is_steps_towards from to steps a = int_eq a (if int_le from to then from +ℤ pos steps else from -ℤ pos steps)

-- A pixel lies on the line, by its place on the line's long axis and that on its short axis; the line goes on the long
-- axis from long_from to long_to in n steps, of which i lead to the pixel, and on the short axis from short_from to short_to
-- by m.
abbrev pub is_on_axes : ℤ → ℤ → ℤ → ℤ → ℤ → ℤ → Bool
is_on_axes long_from long_to short_from short_to long short =
    let n = unsigned_abs (long_to -ℤ long_from) in
    let m = unsigned_abs (short_to -ℤ short_from) in
    let i = unsigned_abs (long -ℤ long_from) in
    within (int_min long_from long_to) long (int_max long_from long_to)
    && is_steps_towards short_from short_to (line_offset n m i) short

-- The pixel (x, y) lies on the line from (x0, y0) to (x1, y1). The long axis is that of x where the line moves on it at
-- least as far as on that of y.
unfoldable pub is_on_line : ℤ → ℤ → ℤ → ℤ → ℤ → ℤ → Bool
is_on_line x0 y0 x1 y1 x y =
    if nat_le (unsigned_abs (y1 -ℤ y0)) (unsigned_abs (x1 -ℤ x0)) then is_on_axes x0 x1 y0 y1 x y else is_on_axes y0 y1 x0 x1 y x

-- the layer with its cursor on a pixel
abbrev pub with_cursor : ℤ → ℤ → Layer → Layer
with_cursor x y l = record l { raster = record l.raster { cursor_x = x; cursor_y = y } }

-- Draw: the line from the cursor, in the foreground. The cursor then stands at its end.
abbrev pub draw_line : (ℕ → ℕ → Bool) → ℤ → ℤ → Layer → Layer
draw_line visible x1 y1 l =
    with_cursor x1 y1
    (paint_where visible (λ x y. is_on_line l.raster.cursor_x l.raster.cursor_y x1 y1 (pos x) (pos y)) (λ x y. true) l)

-- The glyph of a code has at this column and row, each from 0 to 7, its foreground. A code outside 0x20 to 0x7e has the empty
-- glyph, and so has one to which the script gives none.
unfoldable pub glyph_has : List (List ℕ) → ℕ → ℕ → ℕ → Bool
glyph_has glyphs code column row =
    (nat_le 32 code && nat_le code 126)
    && (bit_at (slice_index_or (slice_index_or glyphs (code - 32) []) row 0) (7 - column) == 1)

-- The place lies in the cells of so many characters, of 8 columns each, of which the first begins at this left column and
-- top row.
unfoldable pub in_cells : ℤ → ℤ → ℕ → ℤ → ℤ → Bool
in_cells left top_row count x y =
    (int_le left x && int_le (x +ℤ pos 1) (left +ℤ pos (8 * count))) && within top_row y (top_row +ℤ pos 7)

-- The glyph in whose cell the place lies has its foreground there.
unfoldable pub cell_has : List (List ℕ) → List ℕ → ℤ → ℤ → ℤ → ℤ → Bool
cell_has glyphs text left top_row x y =
    let column = unsigned_abs (x -ℤ left) in
    glyph_has glyphs (slice_index_or text (column / 8) 0) (column % 8) (unsigned_abs (y -ℤ top_row))

-- one of two truth values is the case, and the other isn't
abbrev pub differ : Bool → Bool → Bool
differ a b = if a then not b else b

-- Text: one cell for each character, from the cursor's column on and in its rows y - 6 to y + 1, with the glyph's bits,
-- inverted under INVERSVID. The cursor moves past the cells.
abbrev pub draw_text : List (List ℕ) → (ℕ → ℕ → Bool) → List ℕ → Layer → Layer
draw_text glyphs visible text l =
    let left = l.raster.cursor_x in
    let top_row = l.raster.cursor_y -ℤ pos 6 in
    with_cursor (left +ℤ pos (8 * length text)) l.raster.cursor_y
    (paint_where visible (λ x y. in_cells left top_row (length text) (pos x) (pos y))
    (λ x y. differ (has_inversvid l.raster) (cell_has glyphs text left top_row (pos x) (pos y)))
    l)

-- SetRast: all drawable pixels take the pen through the mask, whatever the mode.
abbrev pub set_rast : (ℕ → ℕ → Bool) → ℕ → Layer → Layer
set_rast visible pen l = set_where visible (λ x y. true) (λ x y. pen) l
