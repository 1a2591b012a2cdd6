-- For private contracts.
-- Which former rectangles are new ones, moved with the bounds.
use Rattle.std.specs.Prelude.{◌≡◌, ℕ, ◌<◌, true, false, List, length, pos, negsuc, ◌-ℤ◌, ◌≤ℤ◌, Some, None}
use Rattle.std.specs.List.{slice_index_or}
use Rattle.lw_region.specs.Rectangle.{Rectangle, moved_by}
use Rattle.lw_reveal.specs.declared.pairing.Pairing.{Pairing}
use Rattle.lw_layer.specs.View.{LiveView}
use Rattle.lw_reveal.specs.Changes.{beside_own, IsGiven}

-- the new rectangle i is the former rectangle n, moved
pub record IsPair (p : Pairing) (n i : ℕ) : Type 0 where
  pub former : n < length p.former.items
  pub place : i < length p.news.items
  pub same : (r s : Rectangle) → moved_by (slice_index_or p.former.items n r) p.dx p.dy ≡ slice_index_or p.news.items i s

-- the bounds are moved from one place of the screen's plane to another
pub record IsNear (p : Pairing) : Type 0 where
  pub left : negsuc 99999 ≤ℤ p.dx
  pub right : p.dx ≤ℤ pos 99999
  pub upper : negsuc 99999 ≤ℤ p.dy
  pub lower : p.dy ≤ℤ pos 99999

-- Each former rectangle that has a place is the new one there, moved; and each new one that is given is the place of one.
pub record IsPairing (p : Pairing) : Type 0 where
  pub near : IsNear p
  pub former : length p.handed.items ≡ length p.former.items
  pub news : length p.given.items ≡ length p.news.items
  pub pairs : (n i : ℕ) → n < length p.handed.items → slice_index_or p.handed.items n None ≡ Some i → IsPair p n i
  pub places : (i : ℕ) → i < length p.given.items → slice_index_or p.given.items i false ≡ true → IsGiven p.handed.items i

-- the same rectangles, with other pairs
pub record SameLists (p q : Pairing) : Type 0 where
  pub former : q.former.items ≡ p.former.items
  pub news : q.news.items ≡ p.news.items
  pub dx : q.dx ≡ p.dx
  pub dy : q.dy ≡ p.dy

-- the pairs of a layer's rectangles, as they are and once it has these bounds and visible rectangles
pub record IsPairingOf (c : LiveView) (bounds : Rectangle) (visible : List Rectangle) (p : Pairing) : Type 0 where
  pub sound : IsPairing p
  pub former : p.former.items ≡ beside_own c.layer.kind c.bounds c.visible
  pub news : p.news.items ≡ beside_own c.layer.kind bounds visible
  pub dx : p.dx ≡ bounds.min_x -ℤ c.bounds.min_x
  pub dy : p.dy ≡ bounds.min_y -ℤ c.bounds.min_y
