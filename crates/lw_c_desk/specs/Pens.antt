-- What C reads of the screen: of each desk of the machine for which it stands.
use Rattle.std.specs.Prelude.{◌≡◌, ℕ, ◌*◌, Bool, ◌&&◌, ◌||◌, nat_le, int_le, int_lt, if◌then◌else◌}
use Rattle.std.specs.Prelude.{List, ◌++◌, length, take, drop, ℤ, pos}
use Rattle.std.specs.List.{flat_map}
use Rattle.std.specs.Ordering.{int_eq}
use Rattle.lw_region.specs.Rectangle.{width, height}
use Rattle.lw_planes.specs.Bitmap.{Bitmap, row_bytes}
use Rattle.lw_planes.specs.Storage.{stored}
use Rattle.lw_calls.specs.declared.sizes.Sizes.{Sizes}
use Rattle.lw_engine.specs.ScreenParts.{screen_part}
use Rattle.lw_program_desk.specs.Views.{DeskView}
use Rattle.lw_c_rectangles.specs.declared.bounds.Bounds.{Bounds}
use Rattle.lw_c_rectangles.specs.Bounds.{rectangle_of, is_ordered}
use Rattle.lw_c_desk.specs.Answered.{done, no_memory, bad_rectangle, no_room, outside}
use Rattle.lw_c_desk.specs.Read.{OfEachDesk}

-- A rectangle of the screen: it lies on it, and how many bytes its pens take, and its planes.
abbrev pub lies_on : Sizes → Bounds → Bool
lies_on s b =
    (int_le (pos 0) b.min_x && int_le (pos 0) b.min_y) && (int_lt b.max_x (pos s.width) && int_lt b.max_y (pos s.height))

abbrev pub pen_count : Bounds → ℕ
pen_count b = height (rectangle_of b) * width (rectangle_of b)

abbrev pub plane_bytes : ℕ → Bounds → ℕ
plane_bytes depth b = depth * height (rectangle_of b) * row_bytes (width (rectangle_of b))

-- the answer where so many bytes are due
abbrev pub part_answer : Sizes → Bounds → ℕ → ℕ → ℤ
part_answer s b due room =
    if is_ordered b then (if lies_on s b then (if nat_le due room then done else no_room) else outside) else bad_rectangle

-- the pens of a bitmap, row by row
abbrev pub pens_in : Bitmap → List ℕ
pens_in b = flat_map (λ row. row) b.rows

-- What reading a rectangle's pens leaves. Unless memory runs out the answer is that one, and memory runs out only where nothing
-- else is amiss. Where all was done the array begins with them.
pub record ArePens (v : DeskView) (part : Bounds) (old new : List ℕ) (answer : ℤ) : Type 0 where
  pub answered : (answer ≡ no_memory → ⊥) → answer ≡ part_answer v.sizes part (pen_count part) (length old)
  pub memory : answer ≡ no_memory → part_answer v.sizes part (pen_count part) (length old) ≡ done
  pub pens : answer ≡ done → OfEachDesk (λ d. new ≡ pens_in (screen_part d (rectangle_of part)) ++ drop (pen_count part) old) v
  pub kept : (answer ≡ done → ⊥) → new ≡ old

-- The same of its planes, with how many bytes they have. What the padding of a row holds isn't told.
pub record ArePlanes (v : DeskView) (part : Bounds) (old new : List ℕ) (old_count new_count : ℕ) (answer : ℤ) : Type 0 where
  pub answered : (answer ≡ no_memory → ⊥) → answer ≡ part_answer v.sizes part (plane_bytes v.sizes.depth part) (length old)
  pub memory : answer ≡ no_memory → part_answer v.sizes part (plane_bytes v.sizes.depth part) (length old) ≡ done
  pub planes : answer ≡ done → OfEachDesk (λ d. stored (width (rectangle_of part)) (height (rectangle_of part)) v.sizes.depth
      (take (plane_bytes v.sizes.depth part) new) ≡ screen_part d (rectangle_of part)) v
  pub rest : answer ≡ done → drop (plane_bytes v.sizes.depth part) new ≡ drop (plane_bytes v.sizes.depth part) old
  pub kept : (answer ≡ done → ⊥) → new ≡ old
  pub count : new_count ≡ (if int_eq answer done || int_eq answer no_room then plane_bytes v.sizes.depth part else old_count)
