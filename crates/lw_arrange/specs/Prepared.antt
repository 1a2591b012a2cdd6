-- What an arrangement makes of the cell of a slot, and what is prepared for it.
use Rattle.std.specs.Prelude.{◌≡◌, ℕ, ◌<◌, true, false, List, Option, Some, None}
use Rattle.lw_region.specs.Rectangle.{Rectangle}
use Rattle.lw_calls.specs.declared.make.Kind.{Kind}
use Rattle.lw_calls.specs.declared.make.Make.{Make}
use Rattle.lw_calls.specs.declared.call.Call.{Call}
use Rattle.lw_calls.specs.declared.call.Call.TheVariants.{Create, OpenWindow}
use Rattle.lw_calls.specs.Kinds.{is_super}
use Rattle.lw_machine.specs.Layer.{Window, is_framed}
use Rattle.lw_machine.specs.Arrangement.{new_window}
use Rattle.lw_layer.specs.View.{State, LiveView, CellView, with_live}
use Rattle.lw_layer.specs.View as view
use Rattle.lw_layer.specs.Pieces.{HasFrameRoom}
use Rattle.lw_layer.specs.Drafts.{no_layer}
use Rattle.lw_layer.specs.New.{IsNewSize, new_live}
use Rattle.lw_stack.specs.Stack.{bounds_at, shown_list}
use Rattle.lw_reveal.specs.Changed.{carried_to, MayHave}
use Rattle.lw_arrange.specs.Arrangements.{ArrangementView}

-- a layer that a call creates: how it is made, and the window that it is, if it is one
pub record Created : Type 0 where
  pub make : Make
  pub window : Option Window

-- the layer that a task's call creates, if it creates one
abbrev pub created_by : ℕ → Call → Option Created
created_by task (Create slot make) = Some (record { make = make; window = None })
created_by task (OpenWindow slot make framed nocare asks title) =
    Some (record { make = make; window = Some (new_window task framed nocare asks title) })
created_by task call = None

-- a layer is created
abbrev pub IsCreation : Option Created → Type 0
IsCreation None = ⊥
IsCreation (Some n) = Unit {0}

-- the kind of the layer that is created, if one is
abbrev pub kind_of : Option Created → Option Kind
kind_of None = None
kind_of (Some n) = Some n.make.kind

-- the new layer that is asked for, if one is
abbrev pub created_live : Option Created → ℕ → Rectangle → List Rectangle → LiveView
created_live None depth bounds visible = no_layer
created_live (Some n) depth bounds visible = new_live n.make depth bounds visible n.window 0

-- the cell of a slot that isn't live afterwards: a live layer is deleted
abbrev pub without_layer : CellView → State → CellView
without_layer c view.Unopened = c
without_layer c view.Live = record { number = c.number; state = view.Closed; live = no_layer }
without_layer c view.Closed = c

-- the cell of a slot that is live afterwards, with these bounds and visible rectangles: its layer is revealed, or a new one
abbrev pub with_bounds : Option Created → ℕ → Rectangle → List Rectangle → CellView → State → CellView
with_bounds new depth bounds visible c view.Live = with_live (carried_to bounds visible) c
with_bounds new depth bounds visible c idle =
    record { number = c.number; state = view.Live; live = created_live new depth bounds visible }

-- the cell of a slot with these bounds and visible rectangles afterwards
abbrev pub becomes : Option Created → ℕ → List Rectangle → CellView → Option Rectangle → CellView
becomes new depth visible c None = without_layer c c.state
becomes new depth visible c (Some r) = with_bounds new depth r visible c c.state

-- the visible rectangles of a slot after a planned arrangement
abbrev pub shown_at : ArrangementView → ℕ → List Rectangle
shown_at a s = shown_list a.stack s

-- the cell after a planned arrangement
abbrev pub cell_after : ArrangementView → CellView → CellView
cell_after a c =
    becomes (created_by a.task a.call) a.stack.sizes.depth (shown_at a c.number) c (bounds_at a.stack.bounds c.number)

-- the classes for which a new window asks, if the layer is one, are of the five that there are
abbrev pub HasClasses : Option Window → Type 0
HasClasses None = Unit {0}
HasClasses (Some w) = w.classes < 32

-- A layer may be created with these bounds: they and an own bitmap have sizes for planes, and a framed window has room for its
-- frame and no bitmap of its own.
pub record MayBeNew (n : Created) (depth : ℕ) (bounds : Rectangle) : Type 0 where
  pub size : IsNewSize n.make depth bounds
  pub frameless : is_super n.make.kind ≡ true → is_framed n.window ≡ false
  pub frame : is_framed n.window ≡ true → HasFrameRoom bounds
  pub classes : HasClasses n.window

-- what a new layer that is asked for asks of its bounds
abbrev pub MayOpen : Option Created → ℕ → Rectangle → Type 0
MayOpen None depth bounds = ⊥
MayOpen (Some n) depth bounds = MayBeNew n depth bounds

-- a slot that is to be live afterwards may have these bounds
abbrev pub MayBecome : Option Created → ℕ → Rectangle → List Rectangle → CellView → State → Type 0
MayBecome new depth bounds visible c view.Live = MayHave c.live bounds visible
MayBecome new depth bounds visible c idle = MayOpen new depth bounds

abbrev pub MayBe : Option Created → ℕ → List Rectangle → CellView → Option Rectangle → Type 0
MayBe new depth visible c None = Unit {0}
MayBe new depth visible c (Some r) = MayBecome new depth r visible c c.state

-- the cell may be prepared for the planned arrangement
abbrev pub MayPrepare : ArrangementView → CellView → Type 0
MayPrepare a c = MayBe (created_by a.task a.call) a.stack.sizes.depth (shown_at a c.number) c (bounds_at a.stack.bounds c.number)
