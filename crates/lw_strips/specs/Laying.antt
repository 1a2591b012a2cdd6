-- Strips that are laid on a bitmap, each pen at its place. A bitmap on a window of the screen has the window's top left corner
-- for its pixel (0, 0).
use Rattle.std.specs.Prelude.{◌≡◌, ℕ, ◌<◌, Bool, true, if◌then◌else◌, List, [], ◌∷◌, ◌++◌, length, slice_index_or, Some, ℤ, pos}
use Rattle.std.specs.Prelude.{negsuc, ◌+ℤ◌, ◌-ℤ◌}
use Rattle.lw_region.specs.Rectangle.{Rectangle, has_pixel, AreApart, width, height}
use Rattle.lw_region.specs.Bands.{covers}
use Rattle.lw_planes.specs.Bitmap.{Bitmap, bitmap, pen_at}
use Rattle.lw_strips.specs.Strips.{StripView, blank_planes, strip_of, rects_of, strip_pen, pen_in}

-- the bitmap whose pixel (0, 0) is the place (left, top), with these pens where the test holds, both asked at places
abbrev pub laid : (ℤ → ℤ → Bool) → (ℤ → ℤ → ℕ) → ℤ → ℤ → Bitmap → Bitmap
laid on pen left top b =
    bitmap b.width b.height b.depth
    (λ x y. if on (left +ℤ pos x) (top +ℤ pos y) then pen (left +ℤ pos x) (top +ℤ pos y) else pen_at b x y)

-- the bitmap on a window with the strip's pens where the strip is
abbrev pub with_strip : Rectangle → StripView → Bitmap → Bitmap
with_strip window s b = laid (λ x y. has_pixel s.rect x y) (λ x y. strip_pen s x y) window.min_x window.min_y b

-- the bitmap on a window with the pens of a rectangle's bitmap where the rectangle is
abbrev pub with_planes : Rectangle → Rectangle → Bitmap → Bitmap → Bitmap
with_planes window r planes b = with_strip window (strip_of r planes.depth (Some planes)) b

-- the bitmap on a window with the strips' pens where some strip is, that of the first one that has the place
abbrev pub with_strips : Rectangle → List StripView → Bitmap → Bitmap
with_strips window strips b = laid (λ x y. covers (rects_of strips) x y) (λ x y. pen_in strips x y) window.min_x window.min_y b

-- the bitmap of a window, of so many planes: the strips' pens at their places, and pen 0 elsewhere
abbrev pub composed : Rectangle → ℕ → List StripView → Bitmap
composed window depth strips =
    bitmap (width window) (height window) depth (λ x y. pen_in strips (window.min_x +ℤ pos x) (window.min_y +ℤ pos y))

-- a screen of these sizes
abbrev pub screen : ℕ → ℕ → Rectangle
screen w h = record { min_x = pos 0; min_y = pos 0; max_x = pos w -ℤ pos 1; max_y = pos h -ℤ pos 1 }

-- the bitmap of a whole screen of these sizes, with each strip's pens at their places
abbrev pub assembled : ℕ → ℕ → ℕ → List StripView → Bitmap
assembled w h depth strips = bitmap w h depth (λ x y. pen_in strips (pos x) (pos y))

-- all pixels of r are in s
abbrev pub LiesIn : Rectangle → Rectangle → Type 0
LiesIn r s = (x y : ℤ) → has_pixel r x y ≡ true → has_pixel s x y ≡ true

-- the copy of a rectangle of the strip
abbrev pub part_of : StripView → Rectangle → StripView
part_of s r = record {
  rect = r;
  planes = bitmap (width r) (height r) s.planes.depth (λ x y. strip_pen s (r.min_x +ℤ pos x) (r.min_y +ℤ pos y));
  solid = true;
}

-- no two strips have a place in common
abbrev pub AreDisjoint : List StripView → Type 0
AreDisjoint strips =
    (i j : ℕ) (d : StripView) → i < j → j < length strips
    → AreApart (slice_index_or strips i d).rect (slice_index_or strips j d).rect

-- Laying b and then a is laying all of a and b, a's pens in front. What is laid on pen 0 is composed, and the screen is a window.
pub record LayingLaw : Type 0 where
  pub twice : (window : Rectangle) (a b : List StripView) (planes : Bitmap)
      → with_strips window a (with_strips window b planes) ≡ with_strips window (a ++ b) planes
  pub blank : (window : Rectangle) (depth : ℕ) (strips : List StripView)
      → with_strips window strips (blank_planes window depth) ≡ composed window depth strips
  pub whole : (w h depth : ℕ) (strips : List StripView) → composed (screen w h) depth strips ≡ assembled w h depth strips

-- Where strips are disjoint, each one's pens are at its places, and on a screen that is assembled of them at those on the screen.
pub record PlacesLaw : Type 0 where
  pub pens : (strips : List StripView) → AreDisjoint strips → (k : ℕ) (d : StripView) (x y : ℤ) → k < length strips
      → has_pixel (slice_index_or strips k d).rect x y ≡ true → pen_in strips x y ≡ strip_pen (slice_index_or strips k d) x y
  pub assembled : (w h depth : ℕ) (strips : List StripView) → AreDisjoint strips → (k : ℕ) (d : StripView) (x y : ℕ) → x < w
      → y < h → k < length strips
      → has_pixel (slice_index_or strips k d).rect (pos x) (pos y) ≡ true
      → pen_at (assembled w h depth strips) x y ≡ strip_pen (slice_index_or strips k d) (pos x) (pos y)

-- the strip of a row of pens, of 2 planes, that begins at this column of row 0
abbrev pub row_strip : ℤ → List ℕ → StripView
row_strip x pens = strip_of (record { min_x = x; min_y = pos 0; max_x = x +ℤ pos (length pens) -ℤ pos 1; max_y = pos 0 }) 2
    (Some (record { width = length pens; height = 1; depth = 2; rows = pens ∷ [] }))

-- A worked example: the pens 1 and 2 at columns 1 and 2 of row 0, before and behind a 3 at column 2, on a window of the columns 0
-- to 3 of that row; on one of the columns 2 and 3 and the rows -1 and 0; and laid there on pen 3. Then parts of one column and
-- row, of that row, and of a strip with the pens 1 and 2 at rows 1 and 2 of column 1.
abbrev pub WorkedExample : Type 0
WorkedExample =
    let one = row_strip (pos 1) (1 ∷ 2 ∷ []) in
    let two = row_strip (pos 2) (3 ∷ []) in
    let window : Rectangle = record { min_x = pos 0; min_y = pos 0; max_x = pos 3; max_y = pos 0 } in
    let far : Rectangle = record { min_x = pos 2; min_y = negsuc 0; max_x = pos 3; max_y = pos 0 } in
    let last : Rectangle = record { min_x = pos 2; min_y = pos 0; max_x = pos 2; max_y = pos 0 } in
    let tall : StripView = strip_of (record { min_x = pos 1; min_y = pos 1; max_x = pos 1; max_y = pos 2 }) 2
    (Some (record { width = 1; height = 2; depth = 2; rows = (1 ∷ []) ∷ (2 ∷ []) ∷ [] })) in
    let foot : Rectangle = record { min_x = pos 1; min_y = pos 2; max_x = pos 1; max_y = pos 2 } in
    ((composed window 2 (one ∷ two ∷ [])).rows ≡ (0 ∷ 1 ∷ 2 ∷ 0 ∷ []) ∷ [])
    × ((composed window 2 (two ∷ one ∷ [])).rows ≡ (0 ∷ 1 ∷ 3 ∷ 0 ∷ []) ∷ [])
    × ((composed far 2 (one ∷ two ∷ [])).rows ≡ (0 ∷ 0 ∷ []) ∷ (2 ∷ 0 ∷ []) ∷ [])
    × ((with_strips far (one ∷ []) (bitmap 2 2 2 (λ _ _. 3))).rows ≡ (3 ∷ 3 ∷ []) ∷ (2 ∷ 3 ∷ []) ∷ [])
    × ((part_of one last).planes.rows ≡ (2 ∷ []) ∷ [])
    × ((part_of tall foot).planes.rows ≡ (2 ∷ []) ∷ [])
