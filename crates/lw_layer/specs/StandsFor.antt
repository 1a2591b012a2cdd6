-- Which part of a desk a cell stands for, and what holds of every live layer.
use Rattle.std.specs.Prelude.{◌≡◌, ℕ, false, ℤ, Some, None}
use Rattle.lw_region.specs.Rectangle.{IsOrdered, width, height}
use Rattle.lw_region.specs.Bands.{covers}
use Rattle.lw_region.specs.Banded.{IsCanonical}
use Rattle.lw_planes.specs.Bitmap.{pen_at}
use Rattle.lw_planes.specs.Sizes.{IsPlanes}
use Rattle.lw_calls.specs.Kinds.{is_super}
use Rattle.lw_cliprects.specs.Parts.{LieIn}
use Rattle.lw_machine.specs.Layer.{Slot, is_framed}
use Rattle.lw_machine.specs.Layer as layer
use Rattle.lw_machine.specs.Parts.{SlotPart}
use Rattle.lw_layer.specs.View.{State, LiveView, CellView, keeps}
use Rattle.lw_layer.specs.View as view
use Rattle.lw_layer.specs.Pieces.{layout_of}
use Rattle.lw_layer.specs.Drafts.{IsScrolled, FitsFrame}

-- the machine's slot, by what the state and the live layer of a cell say
abbrev pub slot_of : State → LiveView → Slot
slot_of view.Unopened c = layer.Unopened
slot_of view.Live c = layer.Live c.layer
slot_of view.Closed c = layer.Closed

-- The slot has this layer with these bounds, which is shown on the places that the visible rectangles cover.
pub record IsLivePart (c : LiveView) (p : SlotPart) : Type 0 where
  pub slot : p.slot ≡ layer.Live c.layer
  pub bounds : p.bounds ≡ Some c.bounds
  pub shown : (x y : ℤ) → p.shown x y ≡ covers c.visible x y
  pub active : p.active ≡ c.active

-- what the state and the live layer of a cell say of its slot's part; a slot that isn't live has no bounds
abbrev pub IsPartOf : State → LiveView → SlotPart → Type 0
IsPartOf view.Unopened c p = (p.slot ≡ layer.Unopened) × (p.bounds ≡ None)
IsPartOf view.Live c p = IsLivePart c p
IsPartOf view.Closed c p = (p.slot ≡ layer.Closed) × (p.bounds ≡ None)

-- The cell stands for the slot's part of a desk.
abbrev pub StandsFor : CellView → SlotPart → Type 0
StandsFor c p = IsPartOf c.state c.live p

-- What holds of every live layer: its bits are a bitmap with sizes for planes, of the size of its bounds unless it has a bitmap
-- of its own, with pen 0 off the pixels that it keeps; what is visible lies in its bounds, in canonical form; the portion
-- that is shown lies in its bits; it has no hook, which lies beside the cell; and a framed window is no super-bitmap layer and
-- has room for its frame.
pub record IsSound (c : LiveView) : Type 0 where
  pub bits : IsPlanes c.layer.bits
  pub off_kept : (x y : ℕ) → keeps c x y ≡ false → pen_at c.layer.bits x y ≡ 0
  pub wide : is_super c.layer.kind ≡ false → c.layer.bits.width ≡ width c.bounds
  pub high : is_super c.layer.kind ≡ false → c.layer.bits.height ≡ height c.bounds
  pub ordered : IsOrdered c.bounds
  pub inside : LieIn c.bounds c.visible
  pub canonical : IsCanonical c.visible
  pub scrolled : IsScrolled (layout_of c)
  pub hook : c.layer.hook ≡ None
  pub frame : FitsFrame c.layer.kind (is_framed c.layer.window) c.bounds
