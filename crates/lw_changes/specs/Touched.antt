-- Which places of the screen a call may change, as a list of rectangles.
use Rattle.std.specs.Prelude.{ℕ, Bool, true, false, ◌&&◌, if◌then◌else◌, List, [], ◌∷◌, ◌++◌, int_le, Option, Some, None}
use Rattle.std.specs.List.{list_any, flat_map}
use Rattle.lw_region.specs.Rectangle.{Rectangle, common_part}
use Rattle.lw_calls.specs.declared.make.Kind.{Kind}
use Rattle.lw_calls.specs.declared.make.Kind.TheVariants.{Simple, Smart, SuperBitmap}
use Rattle.lw_calls.specs.declared.call.Call.{Call}
use Rattle.lw_calls.specs.declared.call.Call.TheVariants.{RegRect, RegPair, RegClear, Create, OpenWindow, Close, ToFront, ToBack}
use Rattle.lw_calls.specs.declared.call.Call.TheVariants.{InFrontOf, MoveBy, SizeBy, SetBox, Activate, SetHook, Which, SetA, SetB}
use Rattle.lw_calls.specs.declared.call.Call.TheVariants.{SetMode, SetMask, At, WritePixel, ReadPixel, Fill, DrawTo, Letters}
use Rattle.lw_calls.specs.declared.call.Call.TheVariants.{SetRast, ScrollRaster, Put, Blit, Clip, Unclip, BeginRefresh}
use Rattle.lw_calls.specs.declared.call.Call.TheVariants.{EndRefresh, Scroll, SetTitle, TakeMessage}
use Rattle.lw_calls.specs.declared.entry.Entry.{Entry}
use Rattle.lw_machine.specs.Layer.{Layer, layer_is, is_framed}
use Rattle.lw_machine.specs.Desk.{Desk}
use Rattle.lw_machine.specs.Step.{after}
use Rattle.lw_changes.specs.declared.touched.Frames.{Frames}
use Rattle.lw_changes.specs.declared.touched.Frames.TheVariants.{Unpainted, OfTheActive, OfThoseMet}

-- The slot of the layer that a call draws on, scrolls, or arranges: of a blit the layer into which it goes. No other call
-- changes a pen that the screen shows.
abbrev pub touched_slot : Call → Option ℕ
touched_slot (RegRect op register rect) = None
touched_slot (RegPair op source into) = None
touched_slot (RegClear register) = None
touched_slot (Create slot make) = Some slot
touched_slot (OpenWindow slot make framed nocare asks title) = Some slot
touched_slot (Close slot) = Some slot
touched_slot (ToFront slot) = Some slot
touched_slot (ToBack slot) = Some slot
touched_slot (InFrontOf slot other) = Some slot
touched_slot (MoveBy slot dx dy) = Some slot
touched_slot (SizeBy slot dw dh) = Some slot
touched_slot (SetBox slot x y w h) = Some slot
touched_slot (Activate slot) = Some slot
touched_slot (SetHook slot hook) = None
touched_slot (Which x y) = None
touched_slot (SetA slot pen) = None
touched_slot (SetB slot pen) = None
touched_slot (SetMode slot mode) = None
touched_slot (SetMask slot mask) = None
touched_slot (At slot x y) = None
touched_slot (WritePixel slot x y) = Some slot
touched_slot (ReadPixel slot x y) = None
touched_slot (Fill slot rect) = Some slot
touched_slot (DrawTo slot x y) = Some slot
touched_slot (Letters slot text) = Some slot
touched_slot (SetRast slot pen) = Some slot
touched_slot (ScrollRaster slot dx dy rect) = Some slot
touched_slot (Put bitmap slot area) = Some slot
touched_slot (Blit source slot area) = Some slot
touched_slot (Clip slot register) = None
touched_slot (Unclip slot) = None
touched_slot (BeginRefresh slot) = None
touched_slot (EndRefresh slot full) = None
touched_slot (Scroll slot dx dy) = Some slot
touched_slot (SetTitle slot title) = Some slot
touched_slot (TakeMessage slot) = None

-- bounds as a list, empty where there are none
abbrev pub bounds_list : Option Rectangle → List Rectangle
bounds_list None = []
bounds_list (Some r) = r ∷ []

-- the bounds of a slot on a desk, where a slot is told
abbrev pub bounds_on : Desk → Option ℕ → List Rectangle
bounds_on d None = []
bounds_on d (Some s) = bounds_list (d.bounds s)

-- two rectangles have a place in common
abbrev pub meet : Rectangle → Rectangle → Bool
meet r s = int_le (common_part r s).min_x (common_part r s).max_x && int_le (common_part r s).min_y (common_part r s).max_y

-- bounds have a place in common with one of these rectangles
abbrev pub bounds_meet : List Rectangle → Option Rectangle → Bool
bounds_meet rects None = false
bounds_meet rects (Some r) = list_any (λ q. meet q r) rects

abbrev pub is_simple : Kind → Bool
is_simple Simple = true
is_simple Smart = false
is_simple SuperBitmap = false

-- The layer is a window with a frame that keeps only what is visible: its frame is painted whole where an arrangement shows more
-- of it.
abbrev pub may_repaint_frame : Layer → Bool
may_repaint_frame l = is_framed l.window && is_simple l.kind

-- the bounds of a slot, where its frame may be painted because it meets one of these rectangles
abbrev pub repainted_in : Desk → List Rectangle → ℕ → List Rectangle
repainted_in d rects s =
    if layer_is may_repaint_frame (d.slot s) && bounds_meet rects (d.bounds s) then bounds_list (d.bounds s) else []

-- The bounds of the windows whose frames an arrangement within these rectangles may paint: of those that keep only what is
-- visible and meet one of them.
abbrev pub repainted : Desk → List Rectangle → List Rectangle
repainted d rects = flat_map (repainted_in d rects) d.front_to_back

-- The other windows whose frames a call may paint: where a window becomes active, the one that was; where a layer is closed, put
-- behind, put in front of another or given other bounds, the windows of which more may be shown; and else none. A layer that is
-- created or comes to the front of all shows no more of any other.
abbrev pub frames_of : Call → Frames
frames_of (Activate slot) = OfTheActive
frames_of (Close slot) = OfThoseMet
frames_of (ToBack slot) = OfThoseMet
frames_of (InFrontOf slot other) = OfThoseMet
frames_of (MoveBy slot dx dy) = OfThoseMet
frames_of (SizeBy slot dw dh) = OfThoseMet
frames_of (SetBox slot x y w h) = OfThoseMet
frames_of call = Unpainted

-- The bounds of the windows whose frames the call may paint, where it leads from the desk d to the desk e, for an arrangement
-- within these rectangles: where the active one was, and where those met are, since none of them moves.
abbrev pub frame_places : Desk → Desk → Frames → List Rectangle → List Rectangle
frame_places d e Unpainted rects = []
frame_places d e OfTheActive rects = bounds_on d d.active
frame_places d e OfThoseMet rects = repainted e rects

-- where the call's own layer lies before it, and after it
abbrev pub own_places : Desk → Call → Desk → List Rectangle
own_places d call e = bounds_on d (touched_slot call) ++ bounds_on e (touched_slot call)

-- The places of the screen that a call may change which leads from the desk d to the desk e: where its own layer lies before and
-- after, and where windows lie whose frames it may paint.
abbrev pub touched : Desk → Call → Desk → List Rectangle
touched d call e = own_places d call e ++ frame_places d e (frames_of call) (own_places d call e)

-- all that the steps of a history touch, from the desk d on
abbrev pub touched_since : Desk → List Entry → List Rectangle
touched_since d [] = []
touched_since d (e ∷ es) = touched d e.call (after d e.task e.call) ++ touched_since (after d e.task e.call) es
