-- An arrangement leaves a sound desk sound.
use Rattle.std.proofs.Common.{◌≡◌, ℕ, Bool, true, false, not, ◌&&◌, nat_lt, Option, Some, None, IsTrue, refl}
use Rattle.std.proofs.lemmas.Bool.{ltb-true, and_parts, false≢true}
use Rattle.lw_region.specs.Rectangle.{Rectangle, moved_by}
use Rattle.lw_calls.specs.declared.sizes.Sizes.{Sizes}
use Rattle.lw_calls.specs.declared.make.Kind.{Kind}
use Rattle.lw_calls.specs.declared.make.Kind.TheVariants.{Simple, Smart, SuperBitmap}
use Rattle.lw_calls.specs.declared.make.Make.{Make}
use Rattle.lw_calls.specs.declared.call.Call.{Call}
use Rattle.lw_calls.specs.declared.call.Call.TheVariants.{Create, OpenWindow, Close, ToFront, ToBack, InFrontOf, MoveBy, SizeBy}
use Rattle.lw_calls.specs.declared.call.Call.TheVariants.{SetBox, Activate}
use Rattle.lw_calls.specs.declared.reply.Reply.{Reply}
use Rattle.lw_calls.specs.declared.reply.Reply.TheVariants.{NotOpen, NotWindow, AlreadyOpen, Backdrop, OutOfBounds}
use Rattle.lw_machine.specs.Hook.{Hook}
use Rattle.lw_machine.specs.Layer.{Window, Slot, Unopened, Live, Closed, may_open, is_live, layer_is, is_window, is_framed}
use Rattle.lw_calls.specs.Kinds.{is_super}
use Rattle.lw_machine.specs.Desk.{Desk}
use Rattle.lw_calls.specs.Limits.{call_fits, make_fits, window_fits}
use Rattle.lw_machine.specs.Shapes.{box_at}
use Rattle.lw_machine.specs.Arrangement.{bounds_of, blank, sized_by, new_layer, new_window, hook_from, has_backdrop}
use Rattle.lw_machine.specs.Arrangement.{may_have_bounds, layer_may_have_bounds, create_layer, delete_layer, change_bounds}
use Rattle.lw_machine.specs.Arrangement.{upfront_layer, behind_layer, move_layer_in_front_of, with_active}
use Rattle.lw_machine.specs.Step.{refuse, refuse_not_open, change_refusal, creation_refusal, may_change_bounds, refusal, effect}
use Rattle.lw_machine.specs.Step.{after}
use Rattle.lw_calls.specs.Touches.{is_arrangement}
use Rattle.lw_machine.specs.Sound.{IsDesk}
use Rattle.lw_machine.proofs.LayerCallSound.{not_refused, unless_refused_sound}
use Rattle.lw_machine.proofs.SettledSound.{IsArranged, settled_sound}
use Rattle.lw_machine.proofs.ArrangedSound.{desk_arranged, front_arranged, back_arranged, before_arranged, activated}
use Rattle.lw_machine.proofs.ArrangedSound.{bounds_arranged}
use Rattle.lw_machine.proofs.CreatedSound.{new_ready, created_arranged, closed_arranged}

-- where nothing refuses, the first test doesn't hold, and nothing after it refuses
pub unrefused : (t : Bool) (r : Reply) (next : Option Reply) → refuse t r next ≡ None → (t ≡ false) × (next ≡ None)
unrefused true r next e = absurd (cc)
unrefused false r next e = (refl, e)

-- what isn't refused is open
open_slot : (x : Slot) (next : Option Reply) → refuse_not_open x next ≡ None → (is_live x ≡ true) × (next ≡ None)
open_slot x next e = not_refused (is_live x) NotOpen next e

-- a slot in which a layer may be created has none
pub idle : (version : ℕ) (x : Slot) → may_open version x ≡ true → is_live x ≡ false
idle version Unopened may = refl
idle version (Live l) may = absurd (false≢true may)
idle version Closed may = refl

-- a new layer may have the bounds that are asked for where a layer that is so asked for may
new_may_have : (sizes : Sizes) (make : Make) (hook : Option Hook) (window : Option Window)
    → may_have_bounds sizes (is_framed window) make.kind 0 0 make.bits_w make.bits_h (bounds_of make) ≡ true
    → layer_may_have_bounds sizes (new_layer sizes.depth make hook window) (bounds_of make) ≡ true
new_may_have sizes make hook window may = go make.kind may
  where
    go : (k : Kind) → may_have_bounds sizes (is_framed window) k 0 0 make.bits_w make.bits_h (bounds_of make) ≡ true
        → may_have_bounds sizes (is_framed window) k 0 0 (blank k sizes.depth make).width (blank k sizes.depth make).height
        (bounds_of make) ≡ true
    go Simple h = h
    go Smart h = h
    go SuperBitmap h = h

-- a new layer in a slot
made : (d : Desk) (slot : ℕ) (make : Make) (window : Option Window) → IsDesk d → nat_lt slot d.sizes.slots ≡ true
    → (is_super make.kind ≡ true → is_framed window ≡ false) → creation_refusal d slot make (is_framed window) ≡ None
    → IsArranged (create_layer d slot make window)
made d slot make window ok fits frameless e =
    let first = not_refused (may_open d.sizes.version (d.slot slot)) AlreadyOpen _ e in
    let second =
    not_refused
    (may_have_bounds d.sizes (is_framed window) make.kind 0 0 make.bits_w make.bits_h (bounds_of make)) OutOfBounds None
    first.1 in
    created_arranged d slot make window (desk_arranged d ok) (ltb-true slot d.sizes.slots fits)
    (idle d.sizes.version (d.slot slot) first.0)
    (new_ready d.sizes make (hook_from d.shelf make.hook) window
    (new_may_have d.sizes make (hook_from d.shelf make.hook) window second.0) frameless)

-- no super-bitmap layer that may be asked for is a window with a frame
pub frameless : (framed own : Bool) → not (framed && own) ≡ true → own ≡ true → framed ≡ false
frameless true own e is = absurd (cc)
frameless false own e is = refl

-- bounds are changed as the layer may have them
placed : (d : Desk) (slot : ℕ) (change : Rectangle → Rectangle) → change_refusal d slot change ≡ None
    → may_change_bounds d slot change (d.bounds slot) ≡ true
placed d slot change e =
    let plain = unrefused (layer_is (λ l. l.backdrop) (d.slot slot)) Backdrop _ e in
    (not_refused (may_change_bounds d slot change (d.bounds slot)) OutOfBounds None plain.1).0

-- An arrangement leaves a sound desk sound.
pub arrangement_sound : (d : Desk) (task : ℕ) (call : Call) → IsDesk d → IsTrue (call_fits d.sizes call)
    → IsTrue (is_arrangement call) → IsDesk (after d task call)
unfolding after
arrangement_sound d task (Create slot make) ok fits all =
    let parts = and_parts (nat_lt slot d.sizes.slots) (make_fits d.sizes make) fits in
    unless_refused_sound (refusal d task (Create slot make)) d (effect d task (Create slot make)) ok
    (λ e. settled_sound d (create_layer d slot make None) (made d slot make None ok parts.0 (λ _. refl) e))
arrangement_sound d task (OpenWindow slot make framed nocare asks title) ok fits all =
    let parts = and_parts (nat_lt slot d.sizes.slots) _ fits in
    let rest = and_parts (make_fits d.sizes make) (window_fits make framed asks) parts.1 in
    let window = and_parts (not (framed && is_super make.kind)) _ rest.1 in
    unless_refused_sound (refusal d task (OpenWindow slot make framed nocare asks title)) d
    (effect d task (OpenWindow slot make framed nocare asks title)) ok
    (λ e. settled_sound d (create_layer d slot make (Some (new_window task framed nocare asks title)))
    (made d slot make (Some (new_window task framed nocare asks title)) ok parts.0
    (λ own. frameless framed (is_super make.kind) window.0 own) e))
arrangement_sound d task (Close slot) ok fits all =
    unless_refused_sound (refusal d task (Close slot)) d (effect d task (Close slot)) ok
    (λ e. settled_sound d (delete_layer d slot) (closed_arranged d slot (desk_arranged d ok) (ltb-true slot d.sizes.slots fits)))
arrangement_sound d task (ToFront slot) ok fits all =
    unless_refused_sound (refusal d task (ToFront slot)) d (effect d task (ToFront slot)) ok
    (λ e. let live = open_slot (d.slot slot) _ e in
    let plain = unrefused (has_backdrop d slot) Backdrop None live.1 in
    settled_sound d (upfront_layer d slot) (front_arranged d slot (desk_arranged d ok) live.0 plain.0))
arrangement_sound d task (ToBack slot) ok fits all =
    unless_refused_sound (refusal d task (ToBack slot)) d (effect d task (ToBack slot)) ok
    (λ e. let live = open_slot (d.slot slot) _ e in
    settled_sound d (behind_layer d slot) (back_arranged d slot (desk_arranged d ok) live.0))
arrangement_sound d task (InFrontOf slot other) ok fits all =
    unless_refused_sound (refusal d task (InFrontOf slot other)) d (effect d task (InFrontOf slot other)) ok
    (λ e. let live = open_slot (d.slot slot) _ e in
    let other_live = open_slot (d.slot other) _ live.1 in
    let plain = unrefused (has_backdrop d slot) Backdrop _ other_live.1 in
    let other_plain = unrefused (has_backdrop d other) Backdrop None plain.1 in
    settled_sound d (move_layer_in_front_of d slot other)
    (before_arranged d slot other (desk_arranged d ok) live.0 other_live.0 plain.0 other_plain.0))
arrangement_sound d task (MoveBy slot dx dy) ok fits all =
    unless_refused_sound (refusal d task (MoveBy slot dx dy)) d (effect d task (MoveBy slot dx dy)) ok
    (λ e. settled_sound d (change_bounds d slot (λ r. moved_by r dx dy))
    (bounds_arranged d slot (λ r. moved_by r dx dy) (desk_arranged d ok)
    (placed d slot (λ r. moved_by r dx dy) (open_slot (d.slot slot) _ e).1)))
arrangement_sound d task (SizeBy slot dw dh) ok fits all =
    unless_refused_sound (refusal d task (SizeBy slot dw dh)) d (effect d task (SizeBy slot dw dh)) ok
    (λ e. settled_sound d (change_bounds d slot (λ r. sized_by r dw dh))
    (bounds_arranged d slot (λ r. sized_by r dw dh) (desk_arranged d ok)
    (placed d slot (λ r. sized_by r dw dh) (open_slot (d.slot slot) _ e).1)))
arrangement_sound d task (SetBox slot x y w h) ok fits all =
    unless_refused_sound (refusal d task (SetBox slot x y w h)) d (effect d task (SetBox slot x y w h)) ok
    (λ e. settled_sound d (change_bounds d slot (λ r. box_at x y w h))
    (bounds_arranged d slot (λ r. box_at x y w h) (desk_arranged d ok)
    (placed d slot (λ r. box_at x y w h) (open_slot (d.slot slot) _ e).1)))
arrangement_sound d task (Activate slot) ok fits all =
    unless_refused_sound (refusal d task (Activate slot)) d (effect d task (Activate slot)) ok
    (λ e. let live = open_slot (d.slot slot) _ e in
    let window = not_refused (layer_is (λ l. is_window l.window) (d.slot slot)) NotWindow None live.1 in
    settled_sound d (with_active d slot) (activated d slot (desk_arranged d ok) window.0))
arrangement_sound d task call ok fits all = absurd (false≢true all)
