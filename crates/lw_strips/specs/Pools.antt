-- Pools: strips on their way from one owner to another (this project's own).
use Rattle.std.specs.Prelude.{◌≡◌, ℕ, ◌+◌, ◌<◌, ◌≤◌, Bool, ◌&&◌, List, length, remove, count_by, slice_index_or}
use Rattle.std.specs.Ordering.{int_eq}
use Rattle.lw_region.specs.Rectangle.{Rectangle}
use Rattle.lw_strips.specs.Strips.{StripView}

-- A pool: its strips, and how many more may be given before room is reserved again.
pub record PoolView : Type 0 where
  pub strips : List StripView
  pub spare : ℕ

-- both rectangles have the same bounds
unfoldable pub same_rectangle : Rectangle → Rectangle → Bool
same_rectangle a b = int_eq a.min_x b.min_x && (int_eq a.min_y b.min_y && (int_eq a.max_x b.max_x && int_eq a.max_y b.max_y))

-- how often a rectangle is in the list
abbrev pub copies : Rectangle → List Rectangle → ℕ
copies r rects = count_by (λ q. same_rectangle r q) rects

-- how many of the strips have this rectangle
abbrev pub copies_in : Rectangle → List StripView → ℕ
copies_in r strips = count_by (λ s. same_rectangle r s.rect) strips

-- a strip of the rectangle was taken out of the pool, and no other one
pub record IsClaimed (r : Rectangle) (s : StripView) (old new : PoolView) : Type 0 where
  pub place : ℕ
  pub inside : place < length old.strips
  pub strip : s ≡ slice_index_or old.strips place s
  pub rect : s.rect ≡ r
  pub others : new.strips ≡ remove old.strips place
  pub spare : new.spare ≡ old.spare + 1

-- whatever is asked of the strips, no more of them answer it than before: so each is one that was there
abbrev pub HasNoOther : PoolView → PoolView → Type 0
HasNoOther old new = (test : StripView → Bool) → count_by test new.strips ≤ count_by test old.strips

-- the strip at this place of the list has the rectangle
pub record IsPlaceOf (r : Rectangle) (place : ℕ) (strips : List StripView) : Type 0 where
  pub inside : place < length strips
  pub rect : (s : StripView) → (slice_index_or strips place s).rect ≡ r
