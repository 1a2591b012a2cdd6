-- How many rectangles the visible and the hidden pixels of some bounds have, by the columns and rows at which they are cut.
use Rattle.std.specs.Prelude.{◌≡◌, ℕ, ◌+◌, ◌*◌, ◌≤◌, Bool, false, not, ◌&&◌, List, [], ◌∷◌, length, ℤ, pos, ◌+ℤ◌, ◌-ℤ◌}
use Rattle.std.specs.List.{list_any, flat_map}
use Rattle.std.specs.Ordering.{int_eq}
use Rattle.lw_region.specs.Rectangle.{Rectangle, has_pixel}
use Rattle.lw_region.specs.Bands.{covers}
use Rattle.lw_region.specs.Banded.{IsCanonical}
use Rattle.lw_cliprects.specs.Parts.{hidden_of}

-- the place is one of these
abbrev pub is_cut : List ℤ → ℤ → Bool
is_cut cuts z = list_any (λ c. int_eq z c) cuts

-- The test of a place changes, from a column to the next or from a row to the next, at these columns and rows alone.
pub record ChangesAt (columns rows : List ℤ) (test : ℤ → ℤ → Bool) : Type 0 where
  pub across : (x y : ℤ) → is_cut columns x ≡ false → test x y ≡ test (x -ℤ pos 1) y
  pub down : (x y : ℤ) → is_cut rows y ≡ false → test x y ≡ test x (y -ℤ pos 1)

-- The canonical list has the pixels of the bounds for which the test holds.
pub record IsVisible (bounds : Rectangle) (test : ℤ → ℤ → Bool) (visible : List Rectangle) : Type 0 where
  pub canonical : IsCanonical visible
  pub pixels : (x y : ℤ) → covers visible x y ≡ (has_pixel bounds x y && test x y)

-- how many rectangles bounds have: these visible ones, and those of what they leave of the bounds
abbrev pub rectangle_count : Rectangle → List Rectangle → ℕ
rectangle_count bounds visible = length visible + length (hidden_of bounds visible)

-- Bounds in which what is visible changes at these columns and rows alone have at most as many rectangles, visible and hidden
-- together, as one more than the columns times one more than the rows.
abbrev pub RectanglesUnderCutsAreFew : Type 0
RectanglesUnderCutsAreFew =
    (bounds : Rectangle) (columns rows : List ℤ) (test : ℤ → ℤ → Bool) (visible : List Rectangle)
    → ChangesAt columns rows test → IsVisible bounds test visible
    → rectangle_count bounds visible ≤ (length columns + 1) * (length rows + 1)

-- the columns at which covers begin and those right after them, and the rows
abbrev pub cut_columns : List Rectangle → List ℤ
cut_columns cut = flat_map (λ c. c.min_x ∷ (c.max_x +ℤ pos 1) ∷ []) cut

abbrev pub cut_rows : List Rectangle → List ℤ
cut_rows cut = flat_map (λ c. c.min_y ∷ (c.max_y +ℤ pos 1) ∷ []) cut

-- Bounds of which is visible what n rectangles leave of a screen have at most (2n + 3) (2n + 3) rectangles, visible and hidden
-- together.
abbrev pub RectanglesOnScreensAreFew : Type 0
RectanglesOnScreensAreFew =
    (bounds screen : Rectangle) (front visible : List Rectangle)
    → IsVisible bounds (λ x y. has_pixel screen x y && not (covers front x y)) visible
    → rectangle_count bounds visible ≤ (2 * length front + 3) * (2 * length front + 3)

-- Bounds of which is visible what n rectangles leave have at most (2n + 1) (2n + 1) rectangles, visible and hidden together.
abbrev pub RectanglesUnderCoversAreFew : Type 0
RectanglesUnderCoversAreFew =
    (bounds : Rectangle) (front visible : List Rectangle) → IsVisible bounds (λ x y. not (covers front x y)) visible
    → rectangle_count bounds visible ≤ (2 * length front + 1) * (2 * length front + 1)
