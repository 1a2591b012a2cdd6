-- The exchange of pieces of the screen between their owners, told in numbers (this project's own). Owners are numbers.
use Rattle.std.specs.Prelude.{◌≡◌, ℕ, zero, suc, ◌+◌, ◌<◌, ◌==◌, ◌&&◌, if◌then◌else◌, List, [], ◌++◌, map, reverse, count_by}
use Rattle.std.specs.List.{All, filter}
use Rattle.lw_region.specs.Rectangle.{Rectangle}
use Rattle.lw_strips.specs.Strips.{StripView}
use Rattle.lw_strips.specs.Pools.{PoolView, same_rectangle, copies, copies_in, IsClaimed}
use Rattle.lw_strips.specs.declared.piece.Piece.{Piece}

-- how many pieces of this rectangle the owner loses
abbrev pub lost_by : Rectangle → ℕ → List Piece → ℕ
lost_by r owner pieces = count_by (λ p. p.from == owner && same_rectangle r p.rect) pieces

-- how many pieces of this rectangle the owner gains
abbrev pub gained_by : Rectangle → ℕ → List Piece → ℕ
gained_by r owner pieces = count_by (λ p. p.to == owner && same_rectangle r p.rect) pieces

-- the rectangles of the pieces that the owner loses, in their order
abbrev pub lost_rects : ℕ → List Piece → List Rectangle
lost_rects owner pieces = map (λ p. p.rect) (filter (λ p. p.from == owner) pieces)

-- the rectangles of the pieces that the owner gains, in their order
abbrev pub gained_rects : ℕ → List Piece → List Rectangle
gained_rects owner pieces = map (λ p. p.rect) (filter (λ p. p.to == owner) pieces)

-- how many pieces have this rectangle
abbrev pub pieces_of : Rectangle → List Piece → ℕ
pieces_of r pieces = count_by (λ p. same_rectangle r p.rect) pieces

-- the sum over the owners below n
abbrev pub total : ℕ → (ℕ → ℕ) → ℕ
total zero f = 0
total (suc n) f = total n f + f n

-- All owners together lose a rectangle as often as there are pieces of it, and gain it as often. In the list of the rectangles
-- that one owner loses, or gains, a rectangle stands as often as that owner loses, or gains, it.
pub record ExchangeLaw : Type 0 where
  pub losses : (pieces : List Piece) (n : ℕ) (r : Rectangle) → All (λ p. p.from < n) pieces
      → total n (λ owner. lost_by r owner pieces) ≡ pieces_of r pieces
  pub gains : (pieces : List Piece) (n : ℕ) (r : Rectangle) → All (λ p. p.to < n) pieces
      → total n (λ owner. gained_by r owner pieces) ≡ pieces_of r pieces
  pub lost : (r : Rectangle) (owner : ℕ) (pieces : List Piece) → copies r (lost_rects owner pieces) ≡ lost_by r owner pieces
  pub gained : (r : Rectangle) (owner : ℕ) (pieces : List Piece) → copies r (gained_rects owner pieces) ≡ gained_by r owner pieces

-- How a pool's numbers change: by what is given, and by one where a strip is claimed. A pool without any is empty.
pub record CountingLaw : Type 0 where
  pub given : (r : Rectangle) (old given : List StripView)
      → copies_in r (old ++ reverse given) ≡ copies_in r old + copies_in r given
  pub claimed : (r q : Rectangle) (s : StripView) (old new : PoolView) → IsClaimed q s old new
      → copies_in r old.strips ≡ copies_in r new.strips + (if same_rectangle r q then 1 else 0)
  pub empty : (strips : List StripView) → ((r : Rectangle) → copies_in r strips ≡ 0) → strips ≡ []
