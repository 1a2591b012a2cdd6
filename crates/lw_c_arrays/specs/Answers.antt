-- What the calls answer, and what they leave in the arrays.
use Rattle.std.specs.Prelude.{◌≡◌, ℕ, ◌+◌, ◌*◌, Bool, true, ◌&&◌, ◌||◌, nat_le, ◌==◌, if◌then◌else◌, List, [], ◌∷◌, ◌++◌, map}
use Rattle.std.specs.Prelude.{length, drop, ℤ, pos, negsuc, ◌≤ℤ◌}
use Rattle.std.specs.List.{All, list_any}
use Rattle.std.specs.Ordering.{int_eq}
use Rattle.lw_region.specs.Rectangle.{Rectangle, has_pixel}
use Rattle.lw_c_rectangles.specs.declared.bounds.Bounds.{Bounds}
use Rattle.lw_c_rectangles.specs.Bounds.{rectangle_of, bounds_of}
use Rattle.lw_c_arrays.specs.Lists.{are_ordered}

-- All was done; memory ran out; a maximum of a rectangle is below its minimum; the array for the result is too short; there is no
-- rectangle; bits or rows that are named lie outside.
abbrev pub done : ℤ
done = pos 0

abbrev pub no_memory : ℤ
no_memory = negsuc 0

abbrev pub bad_rectangle : ℤ
bad_rectangle = negsuc 1

abbrev pub no_room : ℤ
no_room = negsuc 2

abbrev pub empty : ℤ
empty = negsuc 3

abbrev pub outside : ℤ
outside = negsuc 4

-- the answer where the result is to be the list `made` and there is room for so many rectangles
abbrev pub region_answer : Bool → List Rectangle → ℕ → ℤ
region_answer ordered made room = if ordered then (if nat_le (length made) room then done else no_room) else bad_rectangle

-- What a call that makes a region leaves. Unless memory runs out the answer is that one. The array begins with the list where all
-- was done, and the rest of it is as before; the count is told also where there is no room.
pub record IsMade
    (ordered : Bool) (made : List Rectangle) (old new : List Bounds) (old_count new_count : ℕ) (answer : ℤ) : Type 0 where
  pub answered : (answer ≡ no_memory → ⊥) → answer ≡ region_answer ordered made (length old)
  pub list : new ≡ (if int_eq answer done then map bounds_of made ++ drop (length made) old else old)
  pub count : new_count ≡ (if int_eq answer done || int_eq answer no_room then length made else old_count)

-- the answer to whether a rectangle of the array has a pixel
abbrev pub has_answer : List Bounds → ℤ → ℤ → ℤ
has_answer list x y =
    if are_ordered list then (if list_any (λ b. has_pixel (rectangle_of b) x y) list then pos 1 else pos 0) else bad_rectangle

-- every pixel of the rectangle with the bounds s is in that with the bounds r
pub record IsInside (s r : Bounds) : Type 0 where
  pub left : r.min_x ≤ℤ s.min_x
  pub top : r.min_y ≤ℤ s.min_y
  pub right : s.max_x ≤ℤ r.max_x
  pub bottom : s.max_y ≤ℤ r.max_y

-- each rectangle of the array is inside r, and r is inside every other one in which each of them is
pub record IsAround (list : List Bounds) (r : Bounds) : Type 0 where
  pub inside : All (λ s. IsInside s r) list
  pub least : (t : Bounds) → All (λ s. IsInside s t) list → IsInside r t

-- what the call for the bounds of an array answers and leaves
pub record IsBounded (list : List Bounds) (old new : Bounds) (answer : ℤ) : Type 0 where
  pub answered : answer ≡ (if are_ordered list then (if length list == 0 then empty else done) else bad_rectangle)
  pub around : answer ≡ done → IsAround list new
  pub kept : (answer ≡ done → ⊥) → new ≡ old
