-- A short list of rectangles that grows: what it covers it goes on covering.
use Rattle.std.specs.Prelude.{Bool, ◌&&◌, if◌then◌else◌, nat_lt, List, [], ◌∷◌, ◌++◌, length, ℤ, int_le}
use Rattle.std.specs.Int.{int_max, int_min}
use Rattle.std.specs.List.{list_any, list_all}
use Rattle.lw_region.specs.Rectangle.{Rectangle}

-- all from the least to the greatest lies between low and high
unfoldable pub lie_in : ℤ → ℤ → ℤ → ℤ → Bool
lie_in least greatest low high = int_le low least && int_le greatest high

-- the second rectangle has all of the first
abbrev pub is_inside : Rectangle → Rectangle → Bool
is_inside r q = lie_in r.min_x r.max_x q.min_x q.max_x && lie_in r.min_y r.max_y q.min_y q.max_y

-- a rectangle has all of a list
abbrev pub has_all : Rectangle → List Rectangle → Bool
has_all frame rects = list_all (λ r. is_inside r frame) rects

-- the least rectangle that has both
abbrev pub hull : Rectangle → Rectangle → Rectangle
hull r q = record {
  min_x = int_min r.min_x q.min_x;
  min_y = int_min r.min_y q.min_y;
  max_x = int_max r.max_x q.max_x;
  max_y = int_max r.max_y q.max_y;
}

-- the least one that has a rectangle and all of a list
abbrev pub hull_of : List Rectangle → Rectangle → Rectangle
hull_of [] r = r
hull_of (q ∷ rects) r = hull_of rects (hull r q)

-- A list of at most 16 with one more rectangle: as it was where one of the list has it all, and one rectangle that has all of
-- them where there is no room.
abbrev pub with_rect : List Rectangle → Rectangle → List Rectangle
with_rect rects r =
    if list_any (is_inside r) rects then rects
    else if nat_lt (length rects) 16 then rects ++ (r ∷ []) else hull_of rects r ∷ []
