-- Polygons and the pixels inside them (Graphics Primitives: AreaMove, AreaDraw, AreaEnd; which pixels are inside is this
-- project's own rule).
use Rattle.std.specs.Prelude.{◌≡◌, ℕ, nat_le, ◌%◌, ◌==◌, Bool, true, false, cond, ◌&&◌, List, [], ◌∷◌, ◌++◌, length, ℤ, pos}
use Rattle.std.specs.Prelude.{negsuc, ◌-ℤ◌, ◌*ℤ◌, int_lt, int_le}
use Rattle.std.specs.List.{list_all, filter}
use Rattle.std.specs.Int.{int_min, int_max}
use Rattle.lw_area.specs.declared.point.Point.{Point}
use Rattle.lw_region.specs.Rectangle.{Rectangle, within}

-- both coordinates are from -2048 to 4095
abbrev pub is_in_range : Point → Bool
is_in_range p = within (negsuc 2047) p.x (pos 4095) && within (negsuc 2047) p.y (pos 4095)

-- so many points make a polygon
abbrev pub is_point_count : ℕ → Bool
is_point_count n = nat_le 3 n && nat_le n 32

-- 3 to 32 points in range
pub record IsPolygon (points : List Point) : Type 0 where
  pub count : is_point_count (length points) ≡ true
  pub range : list_all is_in_range points ≡ true

-- An edge by its two ends.
pub record Side : Type 0 where
  pub from : Point
  pub to : Point

-- the edges from p to the first of these points, from that to the second, and so on
abbrev pub way : Point → List Point → List Side
way p [] = []
way p (q ∷ qs) = record { from = p; to = q } ∷ way q qs

-- the edges of a polygon: from each point to the next, and the closing edge, from the last point to the first
abbrev pub sides : List Point → List Side
sides [] = []
sides (p ∷ ps) = way p (ps ++ p ∷ [])

-- The edge from point a down to point b is left of the pixel (x, y): the row is one from a's to the one above b's, and the edge
-- meets it in column x or left of that.
unfoldable pub passes : Point → Point → ℤ → ℤ → Bool
passes a b x y = (int_le a.y y && int_lt y b.y) && int_le ((y -ℤ a.y) *ℤ (b.x -ℤ a.x)) ((x -ℤ a.x) *ℤ (b.y -ℤ a.y))

-- an edge is left of a pixel: its ends are put in order by their rows, and one with both ends in one row is left of no
-- pixel
abbrev pub is_left : ℤ → ℤ → Side → Bool
is_left x y s =
    cond (int_lt s.from.y s.to.y) (passes s.from s.to x y) (cond (int_lt s.to.y s.from.y) (passes s.to s.from x y) false)

-- the test holds of an odd number of these
unfoldable pub holds_of_odd : {A : Type 0} → (A → Bool) → List A → Bool
holds_of_odd test xs = length (filter test xs) % 2 == 1

-- a pixel is inside a polygon where an odd number of its edges is left of it
abbrev pub is_inside : List Point → ℤ → ℤ → Bool
is_inside points x y = holds_of_odd (is_left x y) (sides points)

-- the smallest rectangle that has all these points
abbrev pub box_of : Point → List Point → Rectangle
box_of p [] = record { min_x = p.x; min_y = p.y; max_x = p.x; max_y = p.y }
box_of p (q ∷ qs) = record {
  min_x = int_min p.x (box_of q qs).min_x;
  min_y = int_min p.y (box_of q qs).min_y;
  max_x = int_max p.x (box_of q qs).max_x;
  max_y = int_max p.y (box_of q qs).max_y;
}
