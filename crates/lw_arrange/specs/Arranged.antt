-- What planning an arrangement asks for and gives.
use Rattle.std.specs.Prelude.{◌≡◌, ℕ, ◌<◌, Bool, false, if◌then◌else◌, List, pos, Option, Some, None}
use Rattle.std.specs.List.{slice_index_or}
use Rattle.lw_region.specs.Rectangle.{Rectangle}
use Rattle.lw_calls.specs.declared.call.Call.{Call}
use Rattle.lw_calls.specs.declared.call.Call.TheVariants.{Create, OpenWindow}
use Rattle.lw_calls.specs.Kinds.{is_super}
use Rattle.lw_machine.specs.Layer.{Layer, Live, may_open, is_live, is_framed}
use Rattle.lw_machine.specs.Desk.{Desk}
use Rattle.lw_machine.specs.Arrangement.{arranged}
use Rattle.lw_machine.specs.Parts.{info_part}
use Rattle.lw_machine.specs.Step.{refusal}
use Rattle.lw_layer.specs.Looks.{owner_of}
use Rattle.lw_layer.specs.declared.look.Look.{Look}
use Rattle.lw_stack.specs.Stack.{Stack, StandsForInfo}
use Rattle.lw_arrange.specs.Arrangements.{ArrangementView}
use Rattle.lw_arrange.specs.declared.arrangement.Step.{Step}
use Rattle.lw_arrange.specs.declared.arrangement.Step.TheVariants.{Refused, Arranged}

-- What is told of a live layer is so: how it is made, its bounds, and of its window whether it has a frame and whose it is.
pub record IsLookOf (l : Layer) (place : Option Rectangle) (k : Look) : Type 0 where
  pub kind : k.kind ≡ l.kind
  pub backdrop : k.backdrop ≡ l.backdrop
  pub bounds : place ≡ Some k.bounds
  pub scroll_x : k.scroll_x ≡ pos l.scroll_x
  pub scroll_y : k.scroll_y ≡ pos l.scroll_y
  pub bits_w : k.bits_w ≡ (if is_super l.kind then l.bits.width else 0)
  pub bits_h : k.bits_h ≡ (if is_super l.kind then l.bits.height else 0)
  pub framed : k.framed ≡ is_framed l.window
  pub owner : k.owner ≡ owner_of l.window

-- What is told of a slot is so: nothing of one that isn't live, which has no bounds either.
abbrev pub IsTold : Desk → ℕ → Option Look → Type 0
IsTold d s None = (is_live (d.slot s) ≡ false) × (d.bounds s ≡ None)
IsTold d s (Some k) = (l : Layer) × (d.slot s ≡ Live l) × IsLookOf l (d.bounds s) k

-- a layer may be created in the slot of a call that creates or opens one, where the flag says so
abbrev pub IsFresh : Desk → Call → Bool → Type 0
IsFresh d (Create slot make) fresh = fresh ≡ may_open d.sizes.version (d.slot slot)
IsFresh d (OpenWindow slot make framed nocare asks title) fresh = fresh ≡ may_open d.sizes.version (d.slot slot)
IsFresh d call fresh = Unit {0}

-- All that planning a call reads is of this desk: its sizes, its list, bounds and active window, what is told of each slot, and
-- whether a layer may be created in the slot of a creation.
pub record AreOf (d : Desk) (v : Stack) (told : List (Option Look)) (free : Bool) (call : Call) : Type 0 where
  pub sizes : d.sizes ≡ v.sizes
  pub info : StandsForInfo v (info_part d)
  pub looks : (s : ℕ) → s < v.sizes.slots → IsTold d s (slice_index_or told s None)
  pub fresh : IsFresh d call free

-- It is the arrangement of the task's call on the desk.
pub record IsArrangementOf (d : Desk) (caller : ℕ) (made : Call) (a : ArrangementView) : Type 0 where
  pub task : a.task ≡ caller
  pub call : a.call ≡ made
  pub info : StandsForInfo a.stack (info_part (arranged d caller made))

-- What planning answers of a desk: the first refusal that holds, or the arrangement where none holds.
abbrev pub IsStepOf : Desk → ℕ → Call → Step → Type 0
IsStepOf d task call (Refused r) = refusal d task call ≡ Some r
IsStepOf d task call (Arranged a) = (refusal d task call ≡ None) × IsArrangementOf d task call a
