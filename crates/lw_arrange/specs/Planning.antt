-- For private contracts.
-- What planning makes of LayerInfo and of what is told of each slot, with no desk at hand.
-- Its proofs show that this is what the machine's definitions say of a desk for which they stand.
use Rattle.std.specs.Prelude.{ℕ, ◌==◌, Bool, true, false, not, ◌&&◌, if◌then◌else◌, List, ◌∷◌}
use Rattle.std.specs.Prelude.{Option, Some, None, option_and_then}
use Rattle.std.specs.List.{slice_index_or, slice_set}
use Rattle.lw_region.specs.Rectangle.{Rectangle}
use Rattle.lw_calls.specs.declared.make.Make.{Make}
use Rattle.lw_calls.specs.declared.call.Call.{Call}
use Rattle.lw_calls.specs.declared.call.Call.TheVariants.{Create, OpenWindow, Close, ToFront, ToBack, InFrontOf, MoveBy, SizeBy}
use Rattle.lw_calls.specs.declared.call.Call.TheVariants.{SetBox, Activate}
use Rattle.lw_calls.specs.declared.reply.Reply.{Reply}
use Rattle.lw_calls.specs.declared.reply.Reply.TheVariants.{NotOpen, AlreadyOpen, NotWindow, NotOwner, Backdrop, OutOfBounds}
use Rattle.lw_machine.specs.Reveal.{has_bounds}
use Rattle.lw_machine.specs.Arrangement.{bounds_of, without, put_before, placed, active_without}
use Rattle.lw_machine.specs.Step.{refuse}
use Rattle.lw_layer.specs.declared.look.Look.{Look}
use Rattle.lw_stack.specs.Stack.{Stack, bounds_at}
use Rattle.lw_arrange.specs.AskedBounds.{IsRect, changed_by, may_lie, needs_of, new_needs}

-- there is a look, and this holds of it
abbrev pub look_is : (Look → Bool) → Option Look → Bool
look_is test None = false
look_is test (Some k) = test k

-- the slot has a backdrop layer
abbrev pub is_backdrop_at : List (Option Look) → ℕ → Bool
is_backdrop_at looks s = look_is (λ k. k.backdrop) (slice_index_or looks s None)

-- the look of a layer that has its place among the others
abbrev pub placed_look : Option Rectangle → Option Look → Option Look
placed_look None k = None
placed_look (Some r) k = k

-- what is told of a live slot, which is one with bounds
abbrev pub live_at : Stack → List (Option Look) → ℕ → Option Look
live_at v looks s = placed_look (bounds_at v.bounds s) (slice_index_or looks s None)

-- a layer may be created in the slot: where that is told of one without bounds
abbrev pub is_free_at : Stack → Bool → ℕ → Bool
is_free_at v fresh s = fresh && not (has_bounds (bounds_at v.bounds s))

-- another task than this one opened the window
abbrev pub is_of_other : ℕ → Option ℕ → Bool
is_of_other task None = false
is_of_other task (Some owner) = not (owner == task)

abbrev pub has_owner : Option ℕ → Bool
has_owner None = false
has_owner (Some owner) = true

-- the refusals of a call on a slot, by what is told of it, or else the next one
abbrev pub unless_live : Option Look → Option Reply → Option Reply
unless_live k next = refuse (not (look_is (λ l. true) k)) NotOpen next

abbrev pub unless_own : ℕ → Option Look → Option Reply → Option Reply
unless_own task k next = refuse (look_is (λ l. is_of_other task l.owner) k) NotOwner next

abbrev pub unless_window : Option Look → Option Reply → Option Reply
unless_window k next = refuse (not (look_is (λ l. has_owner l.owner) k)) NotWindow next

abbrev pub unless_no_backdrop : Option Look → Option Reply → Option Reply
unless_no_backdrop k next = refuse (look_is (λ l. l.backdrop) k) Backdrop next

-- a slot's bounds, changed by the call, are such as its layer may have
abbrev pub may_change : Stack → Option Look → Call → Option Rectangle → Bool
may_change v k call None = false
may_change v k call (Some r) = look_is (λ l. may_lie v.sizes (needs_of l) (changed_by call r)) k

abbrev pub creation_refused : Stack → Bool → ℕ → Make → Bool → Option Reply
creation_refused v fresh slot make framed =
    refuse (not (is_free_at v fresh slot)) AlreadyOpen
    (refuse (not (may_lie v.sizes (new_needs make framed) (bounds_of make))) OutOfBounds None)

abbrev pub closing_refused : Stack → List (Option Look) → ℕ → ℕ → Option Reply
closing_refused v looks task slot = unless_live (live_at v looks slot) (unless_own task (live_at v looks slot) None)

abbrev pub reordering_refused : Stack → List (Option Look) → ℕ → Option Reply
reordering_refused v looks slot = unless_live (live_at v looks slot) (unless_no_backdrop (live_at v looks slot) None)

abbrev pub pair_refused : Stack → List (Option Look) → ℕ → ℕ → Option Reply
pair_refused v looks slot other =
    unless_live (live_at v looks slot) (unless_live (live_at v looks other)
    (unless_no_backdrop (live_at v looks slot) (unless_no_backdrop (live_at v looks other) None)))

abbrev pub change_refused : Stack → List (Option Look) → ℕ → Call → Option Reply
change_refused v looks slot call =
    unless_live (live_at v looks slot) (unless_no_backdrop (live_at v looks slot)
    (refuse (not (may_change v (live_at v looks slot) call (bounds_at v.bounds slot))) OutOfBounds None))

abbrev pub activation_refused : Stack → List (Option Look) → ℕ → Option Reply
activation_refused v looks slot = unless_live (live_at v looks slot) (unless_window (live_at v looks slot) None)

-- The first refusal that holds of a call, by what planning reads.
abbrev pub refused : Stack → List (Option Look) → Bool → ℕ → Call → Option Reply
refused v looks fresh task (Create slot make) = creation_refused v fresh slot make false
refused v looks fresh task (OpenWindow slot make framed nocare asks title) = creation_refused v fresh slot make framed
refused v looks fresh task (Close slot) = closing_refused v looks task slot
refused v looks fresh task (ToFront slot) = reordering_refused v looks slot
refused v looks fresh task (ToBack slot) = reordering_refused v looks slot
refused v looks fresh task (InFrontOf slot other) = pair_refused v looks slot other
refused v looks fresh task (MoveBy slot dx dy) = change_refused v looks slot (MoveBy slot dx dy)
refused v looks fresh task (SizeBy slot dw dh) = change_refused v looks slot (SizeBy slot dw dh)
refused v looks fresh task (SetBox slot x y w h) = change_refused v looks slot (SetBox slot x y w h)
refused v looks fresh task (Activate slot) = activation_refused v looks slot
refused v looks fresh task call = None

-- the bounds that a call makes of some, if there are any
abbrev pub changed_bounds : Call → Option Rectangle → Option Rectangle
changed_bounds call = option_and_then (λ r. Some (changed_by call r))

-- LayerInfo with a new layer, without one, and with another order, other bounds or another active window
abbrev pub with_new : Stack → List (Option Look) → ℕ → Make → Stack
with_new v looks slot make =
    record v {
      front_to_back = placed (is_backdrop_at looks) make.backdrop make.place slot v.front_to_back;
      bounds = slice_set v.bounds slot (Some (bounds_of make));
    }

abbrev pub without_slot : Stack → ℕ → Stack
without_slot v slot =
    record v {
      front_to_back = without slot v.front_to_back;
      bounds = slice_set v.bounds slot None;
      active = active_without slot v.active;
    }

abbrev pub with_order : Stack → List ℕ → Stack
with_order v order = record v { front_to_back = order }

abbrev pub with_change : Stack → ℕ → Call → Stack
with_change v slot call =
    record v { bounds = slice_set v.bounds slot (changed_bounds call (bounds_at v.bounds slot)) }

abbrev pub with_front : Stack → ℕ → Stack
with_front v slot = with_order v (slot ∷ without slot v.front_to_back)

abbrev pub with_back : Stack → List (Option Look) → ℕ → Stack
with_back v looks slot = with_order v (put_before (is_backdrop_at looks) slot (without slot v.front_to_back))

abbrev pub with_pair : Stack → ℕ → ℕ → Stack
with_pair v slot other =
    if slot == other then v else with_order v (put_before (λ t. t == other) slot (without slot v.front_to_back))

abbrev pub with_activated : Stack → ℕ → Stack
with_activated v slot = record v { active = Some slot }

-- What LayerInfo has after a call that isn't refused.
abbrev pub stack_after : Stack → List (Option Look) → Call → Stack
stack_after v looks (Create slot make) = with_new v looks slot make
stack_after v looks (OpenWindow slot make framed nocare asks title) = with_new v looks slot make
stack_after v looks (Close slot) = without_slot v slot
stack_after v looks (ToFront slot) = with_front v slot
stack_after v looks (ToBack slot) = with_back v looks slot
stack_after v looks (InFrontOf slot other) = with_pair v slot other
stack_after v looks (MoveBy slot dx dy) = with_change v slot (MoveBy slot dx dy)
stack_after v looks (SizeBy slot dw dh) = with_change v slot (SizeBy slot dw dh)
stack_after v looks (SetBox slot x y w h) = with_change v slot (SetBox slot x y w h)
stack_after v looks (Activate slot) = with_activated v slot
stack_after v looks call = v

-- what a call makes of some bounds are those of a rectangle
abbrev pub IsChangeRect : Call → Option Rectangle → Type 0
IsChangeRect call None = Unit {0}
IsChangeRect call (Some r) = IsRect (changed_by call r)

-- the bounds that a call gives a layer, if it gives some, are those of a rectangle
abbrev pub HasNewRect : Stack → Call → Type 0
HasNewRect v (Create slot make) = IsRect (bounds_of make)
HasNewRect v (OpenWindow slot make framed nocare asks title) = IsRect (bounds_of make)
HasNewRect v (MoveBy slot dx dy) = IsChangeRect (MoveBy slot dx dy) (bounds_at v.bounds slot)
HasNewRect v (SizeBy slot dw dh) = IsChangeRect (SizeBy slot dw dh) (bounds_at v.bounds slot)
HasNewRect v (SetBox slot x y w h) = IsChangeRect (SetBox slot x y w h) (bounds_at v.bounds slot)
HasNewRect v call = Unit {0}
