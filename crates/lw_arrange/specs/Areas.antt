-- The area of an arrangement: places of the screen, outside which each layer is shown as before; and what is shown of a layer that
-- neither loses nor gains a piece.
use Rattle.std.specs.Prelude.{◌≡◌, ℕ, Bool, false, ◌&&◌, ◌||◌, List, ℤ, Option, Some, None}
use Rattle.lw_region.specs.Rectangle.{Rectangle, has_pixel}
use Rattle.lw_region.specs.Bands.{covers}
use Rattle.lw_calls.specs.declared.call.Call.{Call}
use Rattle.lw_calls.specs.declared.call.Call.TheVariants.{Create, OpenWindow, Close, ToFront, ToBack, InFrontOf, MoveBy, SizeBy}
use Rattle.lw_calls.specs.declared.call.Call.TheVariants.{SetBox}
use Rattle.lw_machine.specs.Screen.{bounds_have, screen_bounds}
use Rattle.lw_layer.specs.View.{State, LiveView, CellView}
use Rattle.lw_layer.specs.View as view
use Rattle.lw_stack.specs.Stack.{Stack, bounds_at, is_top_in}
use Rattle.lw_arrange.specs.Arrangements.{ArrangementView}
use Rattle.lw_arrange.specs.Prepared.{shown_at, cell_after}
use Rattle.lw_arrange.specs.Pieces.{exchanges}
use Rattle.lw_arrange.specs.declared.arrangement.Step.{Step}
use Rattle.lw_arrange.specs.declared.arrangement.Step.TheVariants.{Refused, Arranged}

-- the slot whose bounds or whose place in the list a call may change
abbrev pub slot_arranged : Call → Option ℕ
slot_arranged (Create slot make) = Some slot
slot_arranged (OpenWindow slot make framed nocare asks title) = Some slot
slot_arranged (Close slot) = Some slot
slot_arranged (ToFront slot) = Some slot
slot_arranged (ToBack slot) = Some slot
slot_arranged (InFrontOf slot other) = Some slot
slot_arranged (MoveBy slot dx dy) = Some slot
slot_arranged (SizeBy slot dw dh) = Some slot
slot_arranged (SetBox slot x y w h) = Some slot
slot_arranged call = None

-- the bounds of the slot, if there is one, have the place
abbrev pub slot_has : Stack → Option ℕ → ℤ → ℤ → Bool
slot_has v None x y = false
slot_has v (Some s) x y = bounds_have (bounds_at v.bounds s) x y

-- the area is what the bounds of the call's slot in the one list and in the other have of the screen; it is empty for a call that
-- changes neither bounds nor order
abbrev pub IsAreaOf : Stack → Stack → Call → List Rectangle → Type 0
IsAreaOf v w call area =
    (x y : ℤ) → covers area x y
    ≡ (has_pixel (screen_bounds v.sizes) x y && (slot_has v (slot_arranged call) x y || slot_has w (slot_arranged call) x y))

-- The area of an arrangement is what the former and the new bounds of its call's slot have of the screen, and outside it each
-- layer is shown as before.
pub record HasArea (v : Stack) (a : ArrangementView) : Type 0 where
  pub area : IsAreaOf v a.stack a.call a.area
  pub elsewhere : (s : ℕ) (x y : ℤ) → covers a.area x y ≡ false
      → is_top_in v s x y ≡ is_top_in a.stack s x y

-- so it is with what planning answers, where that is an arrangement
abbrev pub StepHasArea : Stack → Step → Type 0
StepHasArea v (Refused r) = Unit {0}
StepHasArea v (Arranged a) = HasArea v a

-- the visible rectangles of a live layer have the place; a slot that isn't live has none
abbrev pub is_visible : State → LiveView → ℤ → ℤ → Bool
is_visible view.Unopened c x y = false
is_visible view.Live c x y = covers c.visible x y
is_visible view.Closed c x y = false

-- Outside the area of the arrangement, what is visible of the cell is what the plan shows of its slot.
abbrev pub IsShownElsewhere : ArrangementView → CellView → Type 0
IsShownElsewhere a c =
    (x y : ℤ) → covers a.area x y ≡ false
    → is_visible c.state c.live x y ≡ is_top_in a.stack c.number x y

-- If the cell's slot neither loses nor gains a piece, what is visible of the cell is at every place what the plan shows of its slot.
abbrev pub IsShownUnlessExchanged : ArrangementView → CellView → Type 0
IsShownUnlessExchanged a c =
    exchanges c.number a.pieces ≡ false → (x y : ℤ) → is_visible c.state c.live x y ≡ is_top_in a.stack c.number x y

-- The cell's layer is live, keeps its bounds, and neither loses nor gains a piece; and the cell stays as it is.
pub record IsUnaffected (a : ArrangementView) (c : CellView) : Type 0 where
  pub live : c.state ≡ view.Live
  pub bounds : bounds_at a.stack.bounds c.number ≡ Some c.live.bounds
  pub unexchanged : exchanges c.number a.pieces ≡ false
  pub same : cell_after a c ≡ c

-- For private contracts.
-- The visible rectangles of a live layer after an arrangement, in which it then has these bounds; none are told where both stay.
abbrev pub IsVisibleAfter : ArrangementView → ℕ → LiveView → Rectangle → Option (List Rectangle) → Type 0
IsVisibleAfter a s c bounds None = (c.bounds ≡ bounds) × (c.visible ≡ shown_at a s)
IsVisibleAfter a s c bounds (Some visible) = visible ≡ shown_at a s
