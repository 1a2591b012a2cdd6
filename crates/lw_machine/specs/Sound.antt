-- What holds of every desk that a history reaches.
use Rattle.std.specs.Prelude.{◌≡◌, ℕ, ◌≤◌, Bool, true, false, if◌then◌else◌, List, [], ◌∷◌, Option, Some, None}
use Rattle.std.specs.List.{list_all}
use Rattle.lw_region.specs.Rectangle.{Rectangle, width, height}
use Rattle.lw_planes.specs.Grid.{at}
use Rattle.lw_planes.specs.Bitmap.{IsBitmap, pen_at}
use Rattle.lw_calls.specs.declared.sizes.Sizes.{Sizes}
use Rattle.lw_calls.specs.Limits.{IsWithinLimits}
use Rattle.lw_machine.specs.Layer.{Layer, Slot, Unopened, Live, Closed, is_live, layer_is, is_window, is_framed}
use Rattle.lw_calls.specs.Kinds.{is_super}
use Rattle.lw_machine.specs.Desk.{Desk}
use Rattle.lw_machine.specs.Kept.{is_visible, is_kept, may_be_damaged}
use Rattle.lw_machine.specs.Arrangement.{layer_may_have_bounds, has_backdrop}
use Rattle.lw_calls.specs.Orders.{occurrences}

-- A layer that shows these of its pixels: its bits are a bitmap of the screen's depth, the pens off the pixels that it keeps
-- are 0, damage lies on kept pixels of the inner rectangle alone, and never on a super-bitmap layer, and no super-bitmap
-- window has a frame.
pub record IsKeeping (depth : ℕ) (visible : ℕ → ℕ → Bool) (l : Layer) : Type 0 where
  pub bitmap : IsBitmap l.bits
  pub planes : l.bits.depth ≡ depth
  pub frameless : is_super l.kind ≡ true → is_framed l.window ≡ false
  pub off_kept : (x y : ℕ) → is_kept visible l x y ≡ false → pen_at l.bits x y ≡ 0
  pub damage_kept : (x y : ℕ) → at false l.damage x y ≡ true → is_kept visible l x y ≡ true
  pub damage_inner : (x y : ℕ) → at false l.damage x y ≡ true → may_be_damaged l x y ≡ true

-- The bounds of a layer: it may have them, so that they lie where a layer may lie and a super-bitmap layer's portion lies in its
-- bitmap. Unless it has a bitmap of its own, they have the size of its bits, and it isn't scrolled.
pub record IsBounded (sizes : Sizes) (l : Layer) (r : Rectangle) : Type 0 where
  pub may : layer_may_have_bounds sizes l r ≡ true
  pub columns : is_super l.kind ≡ false → l.bits.width ≡ width r
  pub rows : is_super l.kind ≡ false → l.bits.height ≡ height r
  pub left : is_super l.kind ≡ false → l.scroll_x ≡ 0
  pub upper : is_super l.kind ≡ false → l.scroll_y ≡ 0

-- A layer is where its bounds are.
abbrev pub IsPlaced : Sizes → Layer → Option Rectangle → Type 0
IsPlaced sizes l None = ⊥
IsPlaced sizes l (Some r) = IsBounded sizes l r

-- What holds of a slot: a live one has a layer that is placed and keeps what it should, and any other has no bounds.
abbrev pub IsSlot : Desk → ℕ → Slot → Type 0
IsSlot d s Unopened = d.bounds s ≡ None
IsSlot d s (Live l) = IsPlaced d.sizes l (d.bounds s) × IsKeeping d.sizes.depth (is_visible d s l) l
IsSlot d s Closed = d.bounds s ≡ None

-- no slot without a backdrop layer stands behind one with a backdrop layer
abbrev pub backdrops_last : (ℕ → Bool) → List ℕ → Bool
backdrops_last backdrop [] = true
backdrops_last backdrop (s ∷ ss) = if backdrop s then list_all backdrop ss else backdrops_last backdrop ss

-- the active window, if there is one, is a live window
abbrev pub active_is_window : Desk → Option ℕ → Bool
active_is_window d None = true
active_is_window d (Some s) = layer_is (λ l. is_window l.window) (d.slot s)

-- A desk that is sound: its sizes are within the limits; slots from the number of slots on are unopened; the list has each live
-- slot once and no other, with all backdrop layers last; each slot is as it should be; and at most one window is active, which is
-- live.
pub record IsDesk (d : Desk) : Type 0 where
  pub limits : IsWithinLimits d.sizes
  pub beyond : (s : ℕ) → d.sizes.slots ≤ s → d.slot s ≡ Unopened
  pub listed : (s : ℕ) → occurrences s d.front_to_back ≡ (if is_live (d.slot s) then 1 else 0)
  pub backdrops : backdrops_last (has_backdrop d) d.front_to_back ≡ true
  pub slots : (s : ℕ) → IsSlot d s (d.slot s)
  pub active : active_is_window d d.active ≡ true
