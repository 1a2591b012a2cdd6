-- Which parts of the desk a call may read or change.
use Rattle.std.specs.Prelude.{ℕ, ◌==◌, Bool, true, false, ◌||◌, if◌then◌else◌}
use Rattle.lw_calls.specs.declared.call.Call.{Call}
use Rattle.lw_calls.specs.declared.call.Call.TheVariants.{RegRect, RegPair, RegClear, Create, OpenWindow, Close, ToFront, ToBack}
use Rattle.lw_calls.specs.declared.call.Call.TheVariants.{InFrontOf, MoveBy, SizeBy, SetBox, Activate, SetHook, Which, SetA, SetB}
use Rattle.lw_calls.specs.declared.call.Call.TheVariants.{SetMode, SetMask, At, WritePixel, ReadPixel, Fill, DrawTo, Letters}
use Rattle.lw_calls.specs.declared.call.Call.TheVariants.{SetRast, ScrollRaster, Put, Blit, Clip, Unclip, BeginRefresh}
use Rattle.lw_calls.specs.declared.call.Call.TheVariants.{EndRefresh, Scroll, SetTitle, TakeMessage}
use Rattle.lw_calls.specs.declared.touch.CallClass.{CallClass}
use Rattle.lw_calls.specs.declared.touch.CallClass.TheVariants.{OnRegisters, OnInfo, OnLayer, OnLayers, OnAll}
use Rattle.lw_calls.specs.declared.touch.Role.{Role}
use Rattle.lw_calls.specs.declared.touch.Role.TheVariants.{Task, Slot, Info}
use Rattle.lw_calls.specs.declared.touch.Slots.{Slots}
use Rattle.lw_calls.specs.declared.touch.Slots.TheVariants.{Nothing, One, Two, All}
use Rattle.lw_calls.specs.declared.touch.Touch.{Touch}

-- what a call works on
abbrev pub class_of : Call → CallClass
class_of (RegRect op register rect) = OnRegisters
class_of (RegPair op source into) = OnRegisters
class_of (RegClear register) = OnRegisters
class_of (Create slot make) = OnAll
class_of (OpenWindow slot make framed nocare asks title) = OnAll
class_of (Close slot) = OnAll
class_of (ToFront slot) = OnAll
class_of (ToBack slot) = OnAll
class_of (InFrontOf slot other) = OnAll
class_of (MoveBy slot dx dy) = OnAll
class_of (SizeBy slot dw dh) = OnAll
class_of (SetBox slot x y w h) = OnAll
class_of (Activate slot) = OnAll
class_of (SetHook slot hook) = OnAll
class_of (Which x y) = OnInfo
class_of (SetA slot pen) = OnLayer slot
class_of (SetB slot pen) = OnLayer slot
class_of (SetMode slot mode) = OnLayer slot
class_of (SetMask slot mask) = OnLayer slot
class_of (At slot x y) = OnLayer slot
class_of (WritePixel slot x y) = OnLayer slot
class_of (ReadPixel slot x y) = OnLayer slot
class_of (Fill slot rect) = OnLayer slot
class_of (DrawTo slot x y) = OnLayer slot
class_of (Letters slot text) = OnLayer slot
class_of (SetRast slot pen) = OnLayer slot
class_of (ScrollRaster slot dx dy rect) = OnLayer slot
class_of (Put bitmap slot area) = OnLayer slot
class_of (Blit source slot area) = if source == slot then OnLayer slot else OnLayers source slot
class_of (Clip slot register) = OnLayer slot
class_of (Unclip slot) = OnLayer slot
class_of (BeginRefresh slot) = OnLayer slot
class_of (EndRefresh slot full) = OnLayer slot
class_of (Scroll slot dx dy) = OnLayer slot
class_of (SetTitle slot title) = OnLayer slot
class_of (TakeMessage slot) = OnLayer slot

-- The call is an arrangement (Layers, and Intuition's windows): it may change which layers there are, their order, their
-- bounds, or which window is active. A change of a hook is none, though it touches all that an arrangement touches.
abbrev pub is_arrangement : Call → Bool
is_arrangement (Create slot make) = true
is_arrangement (OpenWindow slot make framed nocare asks title) = true
is_arrangement (Close slot) = true
is_arrangement (ToFront slot) = true
is_arrangement (ToBack slot) = true
is_arrangement (InFrontOf slot other) = true
is_arrangement (MoveBy slot dx dy) = true
is_arrangement (SizeBy slot dw dh) = true
is_arrangement (SetBox slot x y w h) = true
is_arrangement (Activate slot) = true
is_arrangement call = false

-- the slots of a class of calls
abbrev pub slots_in : CallClass → Slots
slots_in OnRegisters = Nothing
slots_in OnInfo = Nothing
slots_in (OnLayer slot) = One slot
slots_in (OnLayers source slot) = Two source slot
slots_in OnAll = All

abbrev pub slots_of : Call → Slots
slots_of call = slots_in (class_of call)

-- calls of the class read or change what LayerInfo keeps
abbrev pub is_on_info : CallClass → Bool
is_on_info OnRegisters = false
is_on_info OnInfo = true
is_on_info (OnLayer slot) = false
is_on_info (OnLayers source slot) = false
is_on_info OnAll = true

abbrev pub touches_info : Call → Bool
touches_info call = is_on_info (class_of call)

-- What the call of a task touches: the task's registers, maybe LayerInfo, and slots.
abbrev pub touch_of : ℕ → Call → Touch
touch_of task call = record { task = task; info = touches_info call; slots = slots_of call }

-- the slot is one of these
abbrev pub has_slot : Slots → ℕ → Bool
has_slot Nothing s = false
has_slot (One a) s = a == s
has_slot (Two a b) s = (a == s) || (b == s)
has_slot All s = true

-- these are one slot, or two
abbrev pub is_one_or_two : Slots → Bool
is_one_or_two Nothing = false
is_one_or_two (One a) = true
is_one_or_two (Two a b) = true
is_one_or_two All = false

-- The part is one of those that are touched.
abbrev pub touches_role : Touch → Role → Bool
touches_role t (Task task) = t.task == task
touches_role t (Slot s) = has_slot t.slots s
touches_role t Info = t.info
