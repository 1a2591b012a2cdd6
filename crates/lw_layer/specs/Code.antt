-- For private contracts.
-- What the code of a cell is told of places, buffers and runs.
use Rattle.std.specs.Prelude.{◌≡◌, ℕ, ◌+◌, ◌<◌, ◌≤◌, Bool, true, false, not, ◌&&◌, ◌||◌, if◌then◌else◌, List, [], All, ℤ, pos}
use Rattle.std.specs.Prelude.{◌+ℤ◌, ◌≤ℤ◌, Option, Some, None, length}
use Rattle.lw_region.specs.Bands.{covers}
use Rattle.lw_damage.specs.Damaged.{Damaged}
use Rattle.lw_machine.specs.Kept.{in_clip}
use Rattle.lw_layer.specs.Pieces.{Layout, buffered, buffer_rectangle, across, down, column_in, line_in, buffer_at}
use Rattle.lw_layer.specs.Drafts.{clip_set}
use Rattle.lw_layer.specs.declared.draft.LiveDraft.{LiveDraft}
use Rattle.lw_region.specs.Rectangle.{Rectangle, within, has_pixel, width, height}
use Rattle.lw_layer.specs.declared.places.Edges.{Edges}

-- the edges are those of the rectangle
pub record AreEdges (e : Edges) (r : Rectangle) : Type 0 where
  pub left : e.left ≡ r.min_x
  pub top : e.top ≡ r.min_y
  pub right : e.right ≡ r.max_x

-- what is told of a buffer that has a pixel
pub record HasPlace (l : Layout) (x y n : ℕ) : Type 0 where
  pub left : x < l.width
  pub low : y < l.height
  pub there : n < length (buffered l)
  pub has : has_pixel (buffer_rectangle l n) (across l x) (down l y) ≡ true
  pub first : (k : ℕ) → k < n → has_pixel (buffer_rectangle l k) (across l x) (down l y) ≡ false
  pub column : column_in l n x < width (buffer_rectangle l n)
  pub line : line_in l n y < height (buffer_rectangle l n)

-- Of len places from x on, the test holds for the first n, and n is 0 only where it doesn't hold for x.
pub record IsReach (test : ℕ → Bool) (x len n : ℕ) : Type 0 where
  pub upto : n ≤ len
  pub holds : (u : ℕ) → x ≤ u → u < x + n → test u ≡ true
  pub none : n ≡ 0 → 0 < len → test x ≡ false

-- the pixels from (x, y) on have their pens in one buffer, and there is one at least
pub record IsKeptReach (l : Layout) (number x y n : ℕ) : Type 0 where
  pub some : 0 < n
  pub found : (u : ℕ) → x ≤ u → u < x + n → buffer_at l u y ≡ Some number

-- the clip region and the damage let the pixel be drawn
abbrev pub lets_draw : LiveDraft → ℕ → ℕ → Bool
lets_draw d y x = in_clip (clip_set d.clip) x y && (not d.damage.updating || covers d.damage.rects (pos x) (pos y))

-- a place as one of so many from 0 on, or none where it isn't one
abbrev pub IsPlaceIn : ℕ → ℤ → Option ℕ → Type 0
IsPlaceIn n z None = (x : ℕ) → z ≡ pos x → n ≤ x
IsPlaceIn n z (Some x) = (z ≡ pos x) × (x < n)

-- r is the first place from x on for which the test may hold, and it holds for x where that is r
pub record IsStart (test : ℕ → Bool) (x r : ℕ) : Type 0 where
  pub reaches : x ≤ r
  pub before : (u : ℕ) → x ≤ u → u < r → test u ≡ false
  pub here : r ≡ x → test x ≡ true

-- the first place from x to end, end excluded, for which the test holds, or none
pub record IsFirstIn (test : ℕ → Bool) (x end u : ℕ) : Type 0 where
  pub reaches : x ≤ u
  pub ends : u < end
  pub holds : test u ≡ true
  pub before : (v : ℕ) → x ≤ v → v < u → test v ≡ false

abbrev pub IsNextIn : (ℕ → Bool) → ℕ → ℕ → Option ℕ → Type 0
IsNextIn test x end None = (v : ℕ) → x ≤ v → v < end → test v ≡ false
IsNextIn test x end (Some u) = IsFirstIn test x end u

-- the least number that isn't before a place, and the least one that is after a place
pub record IsFrom (place : ℤ) (n : ℕ) : Type 0 where
  pub reached : place ≤ℤ pos n
  pub least : (u : ℕ) → place ≤ℤ pos u → n ≤ u

pub record IsBehind (place : ℤ) (n : ℕ) : Type 0 where
  pub upto : (u : ℕ) → u < n → pos u ≤ℤ place
  pub all : (u : ℕ) → pos u ≤ℤ place → u < n

-- the rectangle has both rows or neither
abbrev pub HasBoth : ℤ → ℤ → Rectangle → Type 0
HasBoth j k r = within r.min_y j r.max_y ≡ within r.min_y k r.max_y

-- Of as many rows from a row on as there are at most, each of these rectangles has the first n or none of them, and there is one.
pub record AreRowsAlike (rects : List Rectangle) (row : ℤ) (most n : ℕ) : Type 0 where
  pub some : 0 < n
  pub upto : n ≤ most
  pub alike : (k : ℕ) → k < n → All (HasBoth row (row +ℤ pos k)) rects

-- the rectangles of a region, if there is one
abbrev pub rectangles_in : Option (List Rectangle) → List Rectangle
rectangles_in None = []
rectangles_in (Some rects) = rects

-- the rectangles of the damage, where only damaged pixels are drawable
abbrev pub drawn_in : Damaged → List Rectangle
drawn_in d = if d.updating then d.rects else []
