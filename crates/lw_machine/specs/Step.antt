-- What each call does to the desk, and what it answers (the manual's Graphics Primitives, Layers Library and Intuition
-- Windows chapters; every refusal, the order of refusals, that a refused call changes nothing, which pixels count as outside for
-- WritePixel and ReadPixel, and the direction of ScrollLayer are this project's own).
use Rattle.std.specs.Prelude.{ℕ, ◌*◌, Bool, true, false, not, if◌then◌else◌, ℤ, pos, ◌+ℤ◌, int_le, unsigned_abs, List, [], ◌∷◌}
use Rattle.std.specs.Prelude.{length, Option, Some, None}
use Rattle.std.specs.List.{slice_index_or}
use Rattle.lw_region.specs.Rectangle.{Rectangle, moved_by}
use Rattle.lw_region.specs.Order.{natural}
use Rattle.lw_region.specs.Pixels.{Pixel}
use Rattle.lw_region.specs.Bands.{bands}
use Rattle.lw_planes.specs.Grid.{grid}
use Rattle.lw_planes.specs.Bitmap.{Bitmap, pen_at}
use Rattle.lw_calls.specs.declared.message.Message.{Message}
use Rattle.lw_calls.specs.declared.make.Make.{Make}
use Rattle.lw_calls.specs.declared.area.Area.{Area}
use Rattle.lw_calls.specs.declared.call.Call.{Call}
use Rattle.lw_calls.specs.declared.call.Call.TheVariants.{RegRect, RegPair, RegClear, Create, OpenWindow, Close, ToFront, ToBack}
use Rattle.lw_calls.specs.declared.call.Call.TheVariants.{InFrontOf, MoveBy, SizeBy, SetBox, Activate, SetHook, Which, SetA, SetB}
use Rattle.lw_calls.specs.declared.call.Call.TheVariants.{SetMode, SetMask, At, WritePixel, ReadPixel, Fill, DrawTo, Letters}
use Rattle.lw_calls.specs.declared.call.Call.TheVariants.{SetRast, ScrollRaster, Put, Blit, Clip, Unclip, BeginRefresh}
use Rattle.lw_calls.specs.declared.call.Call.TheVariants.{EndRefresh, Scroll, SetTitle, TakeMessage}
use Rattle.lw_calls.specs.declared.reply.Reply.{Reply}
use Rattle.lw_calls.specs.declared.reply.Reply.TheVariants.{Done, Pen, Outside, Nothing, Layer as LayerFound, Rects, Got, NotOpen}
use Rattle.lw_calls.specs.declared.reply.Reply.TheVariants.{AlreadyOpen, NotWindow, NotOwner, Backdrop, NotSuper, InUpdate}
use Rattle.lw_calls.specs.declared.reply.Reply.TheVariants.{NotInUpdate, OutOfBounds, TooManyRects}
use Rattle.lw_calls.specs.declared.touch.Slots.{Slots}
use Rattle.lw_calls.specs.declared.touch.Slots.TheVariants.{Nothing as NoSlot, One, Two, All as AllSlots}
use Rattle.lw_calls.specs.Touches.{slots_of}
use Rattle.lw_machine.specs.Layer.{Layer, Window, Slot, Unopened, Live, Closed, may_open, is_live, layer_is, change_layer}
use Rattle.lw_machine.specs.Layer.{is_window, is_foreign, change_window}
use Rattle.lw_calls.specs.Kinds.{is_super}
use Rattle.lw_machine.specs.Desk.{Desk, with_value, is_the}
use Rattle.lw_machine.specs.Screen.{top}
use Rattle.lw_machine.specs.Kept.{is_visible, is_kept, is_drawable, holds_at}
use Rattle.lw_machine.specs.Shapes.{box_at, write_pixel, rect_fill, draw_line, with_cursor, draw_text, set_rast}
use Rattle.lw_machine.specs.Blits.{clip_blit, blt_bitmap_rast_port, scroll_raster}
use Rattle.lw_machine.specs.Registers.{rect_result, pair_result, has_too_many}
use Rattle.lw_machine.specs.Arrangement.{bounds_of, portion_fits, may_have_bounds, layer_may_have_bounds, shelf_without, sized_by}
use Rattle.lw_machine.specs.Arrangement.{arranged}
use Rattle.lw_machine.specs.Reveal.{with_frame, settled}

-- the refusal with this reply where the test holds, or else the next one
abbrev pub refuse : Bool → Reply → Option Reply → Option Reply
refuse test r next = if test then Some r else next

-- the refusal of a call on a slot that isn't live, or else the next one
abbrev pub refuse_not_open : Slot → Option Reply → Option Reply
refuse_not_open s next = refuse (not (is_live s)) NotOpen next

-- the refusal of a call on a window of another task, or else the next one
abbrev pub refuse_not_owner : ℕ → Slot → Option Reply → Option Reply
refuse_not_owner task s next = refuse (layer_is (λ l. is_foreign task l.window) s) NotOwner next

-- the refusal of a call on a layer that isn't a window, or else the next one
abbrev pub refuse_not_window : Slot → Option Reply → Option Reply
refuse_not_window s next = refuse (not (layer_is (λ l. is_window l.window) s)) NotWindow next

-- the refusal of a call on a backdrop layer, or else the next one
abbrev pub refuse_backdrop : Slot → Option Reply → Option Reply
refuse_backdrop s next = refuse (layer_is (λ l. l.backdrop) s) Backdrop next

-- a slot's bounds, changed so, are such as its layer may have
abbrev pub may_change_bounds : Desk → ℕ → (Rectangle → Rectangle) → Option Rectangle → Bool
may_change_bounds d slot change None = false
may_change_bounds d slot change (Some r) = layer_is (λ l. layer_may_have_bounds d.sizes l (change r)) (d.slot slot)

-- the refusal of a change of an open slot's bounds
abbrev pub change_refusal : Desk → ℕ → (Rectangle → Rectangle) → Option Reply
change_refusal d slot change =
    refuse_backdrop (d.slot slot) (refuse (not (may_change_bounds d slot change (d.bounds slot))) OutOfBounds None)

-- the refusal of a new layer in a slot, with a frame or without
abbrev pub creation_refusal : Desk → ℕ → Make → Bool → Option Reply
creation_refusal d slot make framed =
    refuse (not (may_open d.sizes.version (d.slot slot))) AlreadyOpen
    (refuse (not (may_have_bounds d.sizes framed make.kind 0 0 make.bits_w make.bits_h (bounds_of make))) OutOfBounds None)

-- what a super-bitmap layer would show at another scroll lies in its bitmap
abbrev pub may_scroll : Option Rectangle → ℤ → ℤ → Layer → Bool
may_scroll None dx dy l = false
may_scroll (Some r) dx dy l = portion_fits (pos l.scroll_x +ℤ dx) (pos l.scroll_y +ℤ dy) l.bits.width l.bits.height r

-- The layers that have to be open for a call, in the order in which it names them: those that it touches or, where it touches
-- all, those that it names. A creation is the exception: its layer is not to be open.
abbrev pub must_be_open : Call → Slots
must_be_open (Create slot make) = NoSlot
must_be_open (OpenWindow slot make framed nocare asks title) = NoSlot
must_be_open (Close slot) = One slot
must_be_open (ToFront slot) = One slot
must_be_open (ToBack slot) = One slot
must_be_open (InFrontOf slot other) = Two slot other
must_be_open (MoveBy slot dx dy) = One slot
must_be_open (SizeBy slot dw dh) = One slot
must_be_open (SetBox slot x y w h) = One slot
must_be_open (Activate slot) = One slot
must_be_open (SetHook slot hook) = One slot
must_be_open call = slots_of call

-- the refusal of a call where not all of these layers are open, or else the next one
abbrev pub refuse_unless_open : Desk → Slots → Option Reply → Option Reply
refuse_unless_open d NoSlot next = next
refuse_unless_open d (One slot) next = refuse_not_open (d.slot slot) next
refuse_unless_open d (Two slot other) next = refuse_not_open (d.slot slot) (refuse_not_open (d.slot other) next)
refuse_unless_open d AllSlots next = next

-- The first refusal that holds of a call for which all layers are open that have to be.
abbrev pub further_refusal : Desk → ℕ → Call → Option Reply
further_refusal d task (RegRect op register rect) =
    refuse (has_too_many (rect_result op (d.registers task register) rect)) TooManyRects None
further_refusal d task (RegPair op source into) =
    refuse (has_too_many (pair_result op (d.registers task source) (d.registers task into))) TooManyRects None
further_refusal d task (RegClear register) = None
further_refusal d task (Create slot make) = creation_refusal d slot make false
further_refusal d task (OpenWindow slot make framed nocare asks title) = creation_refusal d slot make framed
further_refusal d task (Close slot) = refuse_not_owner task (d.slot slot) None
further_refusal d task (ToFront slot) = refuse_backdrop (d.slot slot) None
further_refusal d task (ToBack slot) = refuse_backdrop (d.slot slot) None
further_refusal d task (InFrontOf slot other) = refuse_backdrop (d.slot slot) (refuse_backdrop (d.slot other) None)
further_refusal d task (MoveBy slot dx dy) = change_refusal d slot (λ r. moved_by r dx dy)
further_refusal d task (SizeBy slot dw dh) = change_refusal d slot (λ r. sized_by r dw dh)
further_refusal d task (SetBox slot x y w h) = change_refusal d slot (λ r. box_at x y w h)
further_refusal d task (Activate slot) = refuse_not_window (d.slot slot) None
further_refusal d task (SetHook slot hook) = None
further_refusal d task (Which x y) = None
further_refusal d task (SetA slot pen) = None
further_refusal d task (SetB slot pen) = None
further_refusal d task (SetMode slot mode) = None
further_refusal d task (SetMask slot mask) = None
further_refusal d task (At slot x y) = None
further_refusal d task (WritePixel slot x y) = None
further_refusal d task (ReadPixel slot x y) = None
further_refusal d task (Fill slot rect) = None
further_refusal d task (DrawTo slot x y) = None
further_refusal d task (Letters slot text) =
    refuse (layer_is (λ l. not (int_le (l.raster.cursor_x +ℤ pos (8 * length text)) (pos 32767))) (d.slot slot)) OutOfBounds None
further_refusal d task (SetRast slot pen) = None
further_refusal d task (ScrollRaster slot dx dy rect) = None
further_refusal d task (Put bitmap slot area) = None
further_refusal d task (Blit source slot area) = None
further_refusal d task (Clip slot register) = refuse (layer_is (λ l. l.updating) (d.slot slot)) InUpdate None
further_refusal d task (Unclip slot) = refuse (layer_is (λ l. l.updating) (d.slot slot)) InUpdate None
further_refusal d task (BeginRefresh slot) =
    refuse_not_owner task (d.slot slot) (refuse (layer_is (λ l. l.updating) (d.slot slot)) InUpdate None)
further_refusal d task (EndRefresh slot full) =
    refuse_not_owner task (d.slot slot) (refuse (layer_is (λ l. not l.updating) (d.slot slot)) NotInUpdate None)
further_refusal d task (Scroll slot dx dy) =
    refuse (layer_is (λ l. not (is_super l.kind)) (d.slot slot)) NotSuper
    (refuse (layer_is (λ l. not (may_scroll (d.bounds slot) dx dy l)) (d.slot slot)) OutOfBounds None)
further_refusal d task (SetTitle slot title) = refuse_not_window (d.slot slot) (refuse_not_owner task (d.slot slot) None)
further_refusal d task (TakeMessage slot) = refuse_not_window (d.slot slot) (refuse_not_owner task (d.slot slot) None)

-- The first refusal that holds, in the order of the replies: not-open, already-open, not-window, not-owner, backdrop,
-- not-super, in-update, not-in-update, out-of-bounds, too-many-rects.
abbrev pub refusal : Desk → ℕ → Call → Option Reply
refusal d task call = refuse_unless_open d (must_be_open call) (further_refusal d task call)

-- the desk with the layer in a slot changed, if it has one
abbrev pub on_layer : Desk → ℕ → (Layer → Layer) → Desk
on_layer d slot change = record d { slot = with_value slot (change_layer change (d.slot slot)) d.slot }

-- the desk with a register of a task
abbrev pub with_register : Desk → ℕ → ℕ → List Pixel → Desk
with_register d task register set =
    record d { registers = with_value task (with_value register set (d.registers task)) d.registers }

-- the layer with its pens, its mode or its mask
abbrev pub with_pen_a : ℕ → Layer → Layer
with_pen_a pen l = record l { raster = record l.raster { pen_a = pen } }

abbrev pub with_pen_b : ℕ → Layer → Layer
with_pen_b pen l = record l { raster = record l.raster { pen_b = pen } }

abbrev pub with_mode : ℕ → Layer → Layer
with_mode mode l = record l { raster = record l.raster { mode = mode } }

abbrev pub with_mask : ℕ → Layer → Layer
with_mask mask l = record l { raster = record l.raster { mask = mask } }

-- the desk with the layer in a slot changed by a call that draws on it, which is told the pixels that it shows
abbrev pub drawn_on : Desk → ℕ → ((ℕ → ℕ → Bool) → Layer → Layer) → Desk
drawn_on d slot change = on_layer d slot (λ l. change (is_visible d slot l) l)

-- a slot's layer blitted into another, or into itself
abbrev pub clip_blit_from : Slot → (Layer → ℕ → ℕ → Bool) → (ℕ → ℕ → Bool) → Area → Layer → Layer
clip_blit_from Unopened source_visible visible area l = l
clip_blit_from (Live source) source_visible visible area l = clip_blit (source_visible source) source visible area l
clip_blit_from Closed source_visible visible area l = l

-- EndUpdate: a full end clears all damage, and the window may be asked again to refresh; a part leaves the damage.
abbrev pub end_update : Bool → Layer → Layer
end_update false l = record l { updating = false }
end_update true l =
    change_window (λ w. record w { asked = false })
    (record l { updating = false; damage = grid l.bits.width l.bits.height (λ x y. false) })

-- ScrollLayer: a super-bitmap layer shows another portion of its bitmap.
abbrev pub scroll_layer : ℤ → ℤ → Layer → Layer
scroll_layer dx dy l = record l { scroll_x = natural (pos l.scroll_x +ℤ dx); scroll_y = natural (pos l.scroll_y +ℤ dy) }

-- SetWindowTitles: the title, and the frame painted whole.
abbrev pub set_window_titles : List (List ℕ) → (ℕ → ℕ → Bool) → Bool → List ℕ → Layer → Layer
set_window_titles glyphs visible active title l =
    with_frame glyphs (is_kept visible l) active (change_window (λ w. record w { title = title }) l)

-- a list without its first element
abbrev pub after_first : List Message → List Message
after_first [] = []
after_first (m ∷ ms) = ms

-- InstallLayerHook: the layer's hook is the shelf's one of this number, or none where the shelf hasn't got it, and the shelf
-- lacks it then. The former hook is gone; pixels, damage and messages stay.
abbrev pub install_layer_hook : Desk → ℕ → ℕ → Desk
install_layer_hook d slot n =
    record (on_layer d slot (λ l. record l { hook = d.shelf n })) { shelf = shelf_without (Some n) d.shelf }

-- GetMsg: the port without its oldest message
abbrev pub get_msg : Layer → Layer
get_msg l = change_window (λ w. record w { port = after_first w.port }) l

-- a bitmap of no pixels, where the script has no bitmap of a number
abbrev pub no_bitmap : Bitmap
no_bitmap = record { width = 0; height = 0; depth = 0; rows = [] }

-- The desk after a call that is not refused.
abbrev pub effect : Desk → ℕ → Call → Desk
effect d task (RegRect op register rect) = with_register d task register (rect_result op (d.registers task register) rect)
effect d task (RegPair op source into) =
    with_register d task into (pair_result op (d.registers task source) (d.registers task into))
effect d task (RegClear register) = with_register d task register []
effect d task (Create slot make) = settled d (arranged d task (Create slot make))
effect d task (OpenWindow slot make framed nocare asks title) =
    settled d (arranged d task (OpenWindow slot make framed nocare asks title))
effect d task (Close slot) = settled d (arranged d task (Close slot))
effect d task (ToFront slot) = settled d (arranged d task (ToFront slot))
effect d task (ToBack slot) = settled d (arranged d task (ToBack slot))
effect d task (InFrontOf slot other) = settled d (arranged d task (InFrontOf slot other))
effect d task (MoveBy slot dx dy) = settled d (arranged d task (MoveBy slot dx dy))
effect d task (SizeBy slot dw dh) = settled d (arranged d task (SizeBy slot dw dh))
effect d task (SetBox slot x y w h) = settled d (arranged d task (SetBox slot x y w h))
effect d task (Activate slot) = settled d (arranged d task (Activate slot))
effect d task (SetHook slot hook) = install_layer_hook d slot hook
effect d task (Which x y) = d
effect d task (SetA slot pen) = on_layer d slot (with_pen_a pen)
effect d task (SetB slot pen) = on_layer d slot (with_pen_b pen)
effect d task (SetMode slot mode) = on_layer d slot (with_mode mode)
effect d task (SetMask slot mask) = on_layer d slot (with_mask mask)
effect d task (At slot x y) = on_layer d slot (with_cursor x y)
effect d task (WritePixel slot x y) = drawn_on d slot (λ visible. write_pixel visible x y)
effect d task (ReadPixel slot x y) = d
effect d task (Fill slot rect) = drawn_on d slot (λ visible. rect_fill visible rect)
effect d task (DrawTo slot x y) = drawn_on d slot (λ visible. draw_line visible x y)
effect d task (Letters slot text) = drawn_on d slot (λ visible. draw_text d.assets.glyphs visible text)
effect d task (SetRast slot pen) = drawn_on d slot (λ visible. set_rast visible pen)
effect d task (ScrollRaster slot dx dy rect) = drawn_on d slot (λ visible. scroll_raster visible dx dy rect)
effect d task (Put bitmap slot area) =
    drawn_on d slot (λ visible. blt_bitmap_rast_port (slice_index_or d.assets.bitmaps bitmap no_bitmap) visible area)
effect d task (Blit source slot area) =
    drawn_on d slot (λ visible. clip_blit_from (d.slot source) (is_visible d source) visible area)
effect d task (Clip slot register) = on_layer d slot (λ l. record l { clip = Some (d.registers task register) })
effect d task (Unclip slot) = on_layer d slot (λ l. record l { clip = None })
effect d task (BeginRefresh slot) = on_layer d slot (λ l. record l { updating = true })
effect d task (EndRefresh slot full) = on_layer d slot (end_update full)
effect d task (Scroll slot dx dy) = on_layer d slot (scroll_layer dx dy)
effect d task (SetTitle slot title) =
    drawn_on d slot (λ visible. set_window_titles d.assets.glyphs visible (is_the d.active slot) title)
effect d task (TakeMessage slot) = on_layer d slot get_msg

-- what a look at a place answers
abbrev pub found : Option ℕ → Reply
found None = Nothing
found (Some s) = LayerFound s

-- the answer of a call on a slot's layer
abbrev pub from_layer : (Layer → Reply) → Slot → Reply
from_layer answer Unopened = Nothing
from_layer answer (Live l) = answer l
from_layer answer Closed = Nothing

-- the clip region that is installed
abbrev pub clip_answer : Option (List Pixel) → Reply
clip_answer None = Nothing
clip_answer (Some set) = Rects (bands set)

-- the oldest message
abbrev pub message_answer : List Message → Reply
message_answer [] = Nothing
message_answer (m ∷ ms) = Got m

abbrev pub window_answer : Option Window → Reply
window_answer None = Nothing
window_answer (Some w) = message_answer w.port

-- What a call answers that is not refused.
abbrev pub answer : Desk → ℕ → Call → Reply
answer d task (RegRect op register rect) = Done
answer d task (RegPair op source into) = Done
answer d task (RegClear register) = Done
answer d task (Create slot make) = Done
answer d task (OpenWindow slot make framed nocare asks title) = Done
answer d task (Close slot) = Done
answer d task (ToFront slot) = Done
answer d task (ToBack slot) = Done
answer d task (InFrontOf slot other) = Done
answer d task (MoveBy slot dx dy) = Done
answer d task (SizeBy slot dw dh) = Done
answer d task (SetBox slot x y w h) = Done
answer d task (Activate slot) = Done
answer d task (SetHook slot hook) = Done
answer d task (Which x y) = found (top d x y)
answer d task (SetA slot pen) = Done
answer d task (SetB slot pen) = Done
answer d task (SetMode slot mode) = Done
answer d task (SetMask slot mask) = Done
answer d task (At slot x y) = Done
answer d task (WritePixel slot x y) =
    from_layer (λ l. if holds_at (is_drawable (is_visible d slot l) l) x y then Done else Outside) (d.slot slot)
answer d task (ReadPixel slot x y) =
    from_layer
    (λ l. if holds_at (is_kept (is_visible d slot l) l) x y then Pen (pen_at l.bits (unsigned_abs x) (unsigned_abs y))
    else Outside)
    (d.slot slot)
answer d task (Fill slot rect) = Done
answer d task (DrawTo slot x y) = Done
answer d task (Letters slot text) = Done
answer d task (SetRast slot pen) = Done
answer d task (ScrollRaster slot dx dy rect) = Done
answer d task (Put bitmap slot area) = Done
answer d task (Blit source slot area) = Done
answer d task (Clip slot register) = from_layer (λ l. clip_answer l.clip) (d.slot slot)
answer d task (Unclip slot) = from_layer (λ l. clip_answer l.clip) (d.slot slot)
answer d task (BeginRefresh slot) = Done
answer d task (EndRefresh slot full) = Done
answer d task (Scroll slot dx dy) = Done
answer d task (SetTitle slot title) = Done
answer d task (TakeMessage slot) = from_layer (λ l. window_answer l.window) (d.slot slot)

-- what a call makes of a value, unless it is refused
abbrev pub changed_unless : {A : Type 0} → Option Reply → A → A → A
changed_unless None before changed = changed
changed_unless (Some r) before changed = before

abbrev pub reply_or : Option Reply → Reply → Reply
reply_or None r = r
reply_or (Some refused) r = refused

-- The desk after the call of a task. A refused call changes nothing.
unfoldable pub after : Desk → ℕ → Call → Desk
after d task call = changed_unless (refusal d task call) d (effect d task call)

-- The reply to the call of a task: its first refusal, or else its answer.
unfoldable pub reply : Desk → ℕ → Call → Reply
reply d task call = reply_or (refusal d task call) (answer d task call)
