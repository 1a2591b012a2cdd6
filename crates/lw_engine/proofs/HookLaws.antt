-- Calls on one layer or on two neither read nor change hooks: so what such a call makes of a cell, it makes of the cell with any
-- hook on its layer, and the hook stays.
use Rattle.std.proofs.Common.{◌≡◌, ℕ, ◌==◌, Bool, true, false, not, ◌&&◌, if◌then◌else◌, ℤ, List, Option, Some, None, ◌∙◌, sym, refl, ap, subst}
use Rattle.std.specs.List.{slice_index_or}
use Rattle.std.proofs.lemmas.Bool.{eq-eqb, eqb-true, false≢true}
use Rattle.lw_region.specs.Rectangle.{Rectangle}
use Rattle.lw_calls.specs.Assets.{Assets}
use Rattle.lw_calls.specs.declared.area.Area.{Area}
use Rattle.lw_calls.specs.declared.call.Call.{Call}
use Rattle.lw_calls.specs.declared.call.Call.TheVariants.{Create, OpenWindow, Close, ToFront, ToBack, InFrontOf, MoveBy, SizeBy, SetBox, Activate, SetHook, SetA, SetB, SetMode, SetMask, At, WritePixel, Fill, DrawTo, Letters, SetRast, ScrollRaster, Put, Blit, Clip, Unclip, BeginRefresh, EndRefresh, Scroll, SetTitle, TakeMessage}
use Rattle.lw_calls.specs.declared.reply.Reply.{Reply}
use Rattle.lw_calls.specs.declared.reply.Reply.TheVariants.{NotOpen, NotSuper, OutOfBounds}
use Rattle.lw_calls.specs.Kinds.{is_super}
use Rattle.lw_calls.specs.declared.touch.CallClass.{CallClass}
use Rattle.lw_calls.specs.declared.touch.CallClass.TheVariants.{OnRegisters, OnInfo, OnLayer, OnLayers, OnAll}
use Rattle.lw_calls.specs.Touches.{class_of, slots_in}
use Rattle.lw_machine.specs.Hook.{Hook}
use Rattle.lw_machine.specs.Layer.{Layer, Slot, Window, is_live, change_layer, changed_window, change_window}
use Rattle.lw_machine.specs.Layer as layer
use Rattle.lw_machine.specs.Desk.{Desk, is_the}
use Rattle.lw_machine.specs.Screen.{top}
use Rattle.lw_machine.specs.Kept.{is_visible, is_kept, is_drawable}
use Rattle.lw_machine.specs.Paint.{with_pens, pen_within}
use Rattle.lw_machine.specs.Shapes.{write_pixel, rect_fill, draw_line, with_cursor, draw_text, set_rast}
use Rattle.lw_machine.specs.Blits.{blt_bitmap_rast_port, scroll_raster}
use Rattle.lw_machine.specs.Reveal.{in_frame, framing_pen, framed_by}
use Rattle.lw_machine.specs.Parts.{SlotPart, slot_part}
use Rattle.lw_machine.specs.Step.{refuse, refuse_not_open, refuse_unless_open, further_refusal, refusal, on_layer, drawn_on, with_pen_a, with_pen_b, with_mode, with_mask, may_scroll, clip_blit_from, end_update, scroll_layer, set_window_titles, get_msg, no_bitmap, effect, answer, changed_unless, reply_or, after, reply}
use Rattle.lw_engine_trait.proofs.ClassLaws.{ArePair, pair_told, pair_apart}
use Rattle.lw_layer.specs.View.{State, LiveView, CellView, with_layer, hooked}
use Rattle.lw_layer.specs.View as view
use Rattle.lw_layer.specs.StandsFor.{slot_of, IsPartOf, StandsFor}
use Rattle.lw_layer_calls.specs.Parts.{IsSlotStep, IsLayerStep, IsPairStep}
use Rattle.lw_layer_calls.proofs.OneLayerLaws.{class_refusal}

-- the layer with this hook
abbrev pub with_hook : Option Hook → Layer → Layer
with_hook h l = record l { hook = h }

-- the slot with this hook on its layer, if it has one
abbrev pub hooked_slot : Option Hook → Slot → Slot
hooked_slot h s = change_layer (λ l. with_hook h l) s

-- a slot's part with this hook on its layer, if it has one
abbrev pub hooked_part : Option Hook → SlotPart → SlotPart
hooked_part h p = record p { slot = hooked_slot h p.slot }

-- the desk with this in every slot
abbrev pub filled : Desk → Slot → Desk
filled d s = record d { slot = λ _. s }

-- the desk with t in slot n and s in all others
abbrev pub paired : Desk → ℕ → Slot → Slot → Desk
paired d n s t = record d { slot = λ k. if k == n then t else s }

-- A call is answered alike on two desks, and the part of a slot after it on the first desk is told by that on the second.
pub record IsLike (told : SlotPart → SlotPart) (d e : Desk) (task n : ℕ) (call : Call) : Type 0 where
  pub replies : reply d task call ≡ reply e task call
  pub part : slot_part (after d task call) n ≡ told (slot_part (after e task call) n)

-- on either outcome of a refusal
like_by : (told : SlotPart → SlotPart) (d e f g : Desk) (n : ℕ) (o : Option Reply) → slot_part d n ≡ told (slot_part e n) → slot_part f n ≡ told (slot_part g n) → slot_part (changed_unless o d f) n ≡ told (slot_part (changed_unless o e g) n)
like_by told d e f g n None before changed = changed
like_by told d e f g n (Some r) before changed = before

-- so it is where it is refused and answered alike, and the part before it and that after its effect are told so
like : (told : SlotPart → SlotPart) (d e : Desk) (task n : ℕ) (call : Call) → refusal d task call ≡ refusal e task call → answer d task call ≡ answer e task call → slot_part d n ≡ told (slot_part e n) → slot_part (effect d task call) n ≡ told (slot_part (effect e task call) n) → IsLike told d e task n call
unfolding after reply
like told d e task n call refused answered before changed =
    record {
      replies = ap (λ o. reply_or o (answer d task call)) refused ∙ ap (λ r. reply_or (refusal e task call) r) answered;
      part = ap (λ o. slot_part (changed_unless o d (effect d task call)) n) refused ∙ like_by told d e (effect d task call) (effect e task call) n (refusal e task call) before changed;
    }

-- whether a call is on one layer, and on which
abbrev is_on_layer : CallClass → Bool
is_on_layer OnRegisters = false
is_on_layer OnInfo = false
is_on_layer (OnLayer n) = true
is_on_layer (OnLayers m n) = false
is_on_layer OnAll = false

abbrev layer_of : CallClass → ℕ
layer_of OnRegisters = 0
layer_of OnInfo = 0
layer_of (OnLayer n) = n
layer_of (OnLayers m n) = n
layer_of OnAll = 0

-- A call on one layer reads no other slot: it does the same where that slot's layer is in every slot.
record IsAlone (d : Desk) (task n : ℕ) (call : Call) : Type 0 where
  refuses : further_refusal d task call ≡ further_refusal (filled d (d.slot n)) task call
  answers : answer d task call ≡ answer (filled d (d.slot n)) task call
  changes : slot_part (effect d task call) n ≡ slot_part (effect (filled d (d.slot n)) task call) n

alone_blit : (d : Desk) (task m n : ℕ) (a : Area) (t : Bool) → (m == n) ≡ t → is_on_layer (if t then OnLayer n else OnLayers m n) ≡ true → IsAlone d task (layer_of (if t then OnLayer n else OnLayers m n)) (Blit m n a)
unfolding top is_visible
alone_blit d task m n a true same is =
    let P : ℕ → Type 0 = λ k. IsAlone d task n (Blit k n a) in
    subst P (sym (eqb-true m n same)) (record { refuses = refl; answers = refl; changes = refl })
alone_blit d task m n a false apart is = absurd (false≢true is)

alone_at : (d : Desk) (task : ℕ) (call : Call) → is_on_layer (class_of call) ≡ true → IsAlone d task (layer_of (class_of call)) call
unfolding top is_visible
alone_at d task (Create slot make) is = absurd (false≢true is)
alone_at d task (OpenWindow slot make framed nocare asks title) is = absurd (false≢true is)
alone_at d task (Close slot) is = absurd (false≢true is)
alone_at d task (ToFront slot) is = absurd (false≢true is)
alone_at d task (ToBack slot) is = absurd (false≢true is)
alone_at d task (InFrontOf slot other) is = absurd (false≢true is)
alone_at d task (MoveBy slot dx dy) is = absurd (false≢true is)
alone_at d task (SizeBy slot dw dh) is = absurd (false≢true is)
alone_at d task (SetBox slot x y width height) is = absurd (false≢true is)
alone_at d task (Activate slot) is = absurd (false≢true is)
alone_at d task (SetHook slot hook) is = absurd (false≢true is)
alone_at d task (Blit m n a) is = alone_blit d task m n a (m == n) refl is
alone_at d task call is = record { refuses = refl; answers = refl; changes = refl }

-- the refusal of a call on one layer
on_refusal : (d : Desk) (task n : ℕ) (call : Call) → class_of call ≡ OnLayer n → refusal d task call ≡ refuse_not_open (d.slot n) (further_refusal d task call)
on_refusal d task n call class = class_refusal d task call (OnLayer n) class (λ other. cc other)

alone : (d : Desk) (task n : ℕ) (call : Call) → class_of call ≡ OnLayer n → IsLike (λ p. p) d (filled d (d.slot n)) task n call
unfolding top
alone d task n call class =
    let e : Desk = filled d (d.slot n) in
    let P : ℕ → Type 0 = λ k. IsAlone d task k call in
    let same : IsAlone d task n call = subst P (ap layer_of class) (alone_at d task call (ap is_on_layer class)) in
    like (λ p. p) d e task n call
    (on_refusal d task n call class ∙ (ap (λ o. refuse_not_open (d.slot n) o) same.refuses ∙ sym (on_refusal e task n call class)))
    same.answers refl same.changes

-- a change that takes no notice of the hook
changed_alike : (h : Option Hook) (d : Desk) (n : ℕ) (l : Layer) (f g : Layer → Layer) → f (with_hook h l) ≡ with_hook h (g l) → slot_part (on_layer (filled d (layer.Live (with_hook h l))) n f) n ≡ hooked_part h (slot_part (on_layer (filled d (layer.Live l)) n g) n)
unfolding top
changed_alike h d n l f g same =
    let P : Bool → Type 0 = λ t. (if t then layer.Live (f (with_hook h l)) else layer.Live (with_hook h l)) ≡ hooked_slot h (if t then layer.Live (g l) else layer.Live l) in
    ap (λ (s : Slot). record (slot_part d n) { slot = s }) (subst P (sym (eq-eqb n n refl)) (ap layer.Live same))

-- the same of a change that is told the pixels that the layer shows
drawn_alike : (h : Option Hook) (d : Desk) (n : ℕ) (l : Layer) (f : (ℕ → ℕ → Bool) → Layer → Layer) → f (is_visible d n l) (with_hook h l) ≡ with_hook h (f (is_visible d n l) l) → slot_part (drawn_on (filled d (layer.Live (with_hook h l))) n f) n ≡ hooked_part h (slot_part (drawn_on (filled d (layer.Live l)) n f) n)
unfolding top is_visible
drawn_alike h d n l f same = changed_alike h d n l (λ k. f (is_visible d n k) k) (λ k. f (is_visible d n k) k) same

-- the end of an update takes no notice of it
ended_alike : (h : Option Hook) (l : Layer) (full : Bool) → end_update full (with_hook h l) ≡ with_hook h (end_update full l)
ended_alike h l true = refl
ended_alike h l false = refl

-- nor does a frame that is painted
framed_if : (h : Option Hook) (l : Layer) (on : ℕ → ℕ → Bool) (pen : ℕ → ℕ → ℕ) (framed : Bool) → (if framed then with_pens on pen (with_hook h l) else with_hook h l) ≡ with_hook h (if framed then with_pens on pen l else l)
unfolding with_pens
framed_if h l on pen true = refl
framed_if h l on pen false = refl

pub framed_alike : (h : Option Hook) (glyphs : List (List ℕ)) (kept : ℕ → ℕ → Bool) (active : Bool) (o : Option Window) (l : Layer) → framed_by glyphs kept active o (with_hook h l) ≡ with_hook h (framed_by glyphs kept active o l)
framed_alike h glyphs kept active None l = refl
framed_alike h glyphs kept active (Some w) l =
    framed_if h l (λ x y. kept x y && in_frame l.bits.width l.bits.height x y) (λ x y. pen_within l.bits.depth (framing_pen glyphs w.title active l.bits.width x y)) w.framed

titled_alike : (h : Option Hook) (glyphs : List (List ℕ)) (visible : ℕ → ℕ → Bool) (active : Bool) (title : List ℕ) (l : Layer) → set_window_titles glyphs visible active title (with_hook h l) ≡ with_hook h (set_window_titles glyphs visible active title l)
unfolding is_kept
titled_alike h glyphs visible active title l =
    let named : Window → Window = λ w. record w { title = title } in
    framed_alike h glyphs (is_kept visible l) active (changed_window named l.window) (change_window named l)

-- nor does the question whether the layer may be scrolled
scroll_alike : (h : Option Hook) (bounds : Option Rectangle) (dx dy : ℤ) (l : Layer) → may_scroll bounds dx dy (with_hook h l) ≡ may_scroll bounds dx dy l
scroll_alike h None dx dy l = refl
scroll_alike h (Some r) dx dy l = refl

-- A call on one layer is refused and answered alike whatever the layer's hook.
record IsBlind (h : Option Hook) (d : Desk) (task : ℕ) (call : Call) (l : Layer) : Type 0 where
  refuses : further_refusal (filled d (layer.Live (with_hook h l))) task call ≡ further_refusal (filled d (layer.Live l)) task call
  answers : answer (filled d (layer.Live (with_hook h l))) task call ≡ answer (filled d (layer.Live l)) task call

blind_at : (h : Option Hook) (d : Desk) (task : ℕ) (call : Call) (l : Layer) → is_on_layer (class_of call) ≡ true → IsBlind h d task call l
unfolding top is_visible is_kept is_drawable
blind_at h d task (Create slot make) l is = absurd (false≢true is)
blind_at h d task (OpenWindow slot make framed nocare asks title) l is = absurd (false≢true is)
blind_at h d task (Close slot) l is = absurd (false≢true is)
blind_at h d task (ToFront slot) l is = absurd (false≢true is)
blind_at h d task (ToBack slot) l is = absurd (false≢true is)
blind_at h d task (InFrontOf slot other) l is = absurd (false≢true is)
blind_at h d task (MoveBy slot dx dy) l is = absurd (false≢true is)
blind_at h d task (SizeBy slot dw dh) l is = absurd (false≢true is)
blind_at h d task (SetBox slot x y width height) l is = absurd (false≢true is)
blind_at h d task (Activate slot) l is = absurd (false≢true is)
blind_at h d task (SetHook slot hook) l is = absurd (false≢true is)
blind_at h d task (Scroll slot dx dy) l is =
    record {
      refuses = ap (λ t. refuse (not (is_super l.kind)) NotSuper (refuse (not t) OutOfBounds None)) (scroll_alike h (d.bounds slot) dx dy l);
      answers = refl;
    }
blind_at h d task call l is = record { refuses = refl; answers = refl }

-- A call on one layer changes it alike whatever its hook, and leaves the hook.
abbrev IsChangedAlike : Option Hook → Desk → ℕ → ℕ → Call → Layer → Type 0
IsChangedAlike h d task n call l =
    slot_part (effect (filled d (layer.Live (with_hook h l))) task call) n ≡ hooked_part h (slot_part (effect (filled d (layer.Live l)) task call) n)

blit_alike : (h : Option Hook) (d : Desk) (task m n : ℕ) (a : Area) (l : Layer) (t : Bool) → is_on_layer (if t then OnLayer n else OnLayers m n) ≡ true → IsChangedAlike h d task (layer_of (if t then OnLayer n else OnLayers m n)) (Blit m n a) l
unfolding top is_visible is_kept is_drawable with_pens
blit_alike h d task m n a l true is =
    let from : Layer → Layer → Layer = λ source k. clip_blit_from (layer.Live source) (is_visible d m) (is_visible d n k) a k in
    changed_alike h d n l (λ k. from (with_hook h l) k) (λ k. from l k) refl
blit_alike h d task m n a l false is = absurd (false≢true is)

effect_alike : (h : Option Hook) (d : Desk) (task : ℕ) (call : Call) (l : Layer) → is_on_layer (class_of call) ≡ true → IsChangedAlike h d task (layer_of (class_of call)) call l
unfolding top is_visible is_kept is_drawable with_pens
effect_alike h d task (Create slot make) l is = absurd (false≢true is)
effect_alike h d task (OpenWindow slot make framed nocare asks title) l is = absurd (false≢true is)
effect_alike h d task (Close slot) l is = absurd (false≢true is)
effect_alike h d task (ToFront slot) l is = absurd (false≢true is)
effect_alike h d task (ToBack slot) l is = absurd (false≢true is)
effect_alike h d task (InFrontOf slot other) l is = absurd (false≢true is)
effect_alike h d task (MoveBy slot dx dy) l is = absurd (false≢true is)
effect_alike h d task (SizeBy slot dw dh) l is = absurd (false≢true is)
effect_alike h d task (SetBox slot x y width height) l is = absurd (false≢true is)
effect_alike h d task (Activate slot) l is = absurd (false≢true is)
effect_alike h d task (SetHook slot hook) l is = absurd (false≢true is)
effect_alike h d task (SetA slot pen) l is = changed_alike h d slot l (with_pen_a pen) (with_pen_a pen) refl
effect_alike h d task (SetB slot pen) l is = changed_alike h d slot l (with_pen_b pen) (with_pen_b pen) refl
effect_alike h d task (SetMode slot mode) l is = changed_alike h d slot l (with_mode mode) (with_mode mode) refl
effect_alike h d task (SetMask slot mask) l is = changed_alike h d slot l (with_mask mask) (with_mask mask) refl
effect_alike h d task (At slot x y) l is = changed_alike h d slot l (with_cursor x y) (with_cursor x y) refl
effect_alike h d task (WritePixel slot x y) l is = drawn_alike h d slot l (λ visible. write_pixel visible x y) refl
effect_alike h d task (Fill slot rect) l is = drawn_alike h d slot l (λ visible. rect_fill visible rect) refl
effect_alike h d task (DrawTo slot x y) l is = drawn_alike h d slot l (λ visible. draw_line visible x y) refl
effect_alike h d task (Letters slot text) l is = drawn_alike h d slot l (λ visible. draw_text d.assets.glyphs visible text) refl
effect_alike h d task (SetRast slot pen) l is = drawn_alike h d slot l (λ visible. set_rast visible pen) refl
effect_alike h d task (ScrollRaster slot dx dy rect) l is = drawn_alike h d slot l (λ visible. scroll_raster visible dx dy rect) refl
effect_alike h d task (Put bitmap slot area) l is =
    drawn_alike h d slot l (λ visible. blt_bitmap_rast_port (slice_index_or d.assets.bitmaps bitmap no_bitmap) visible area) refl
effect_alike h d task (Blit m n a) l is = blit_alike h d task m n a l (m == n) is
effect_alike h d task (Clip slot register) l is =
    let clipped : Layer → Layer = λ k. record k { clip = Some (d.registers task register) } in
    changed_alike h d slot l clipped clipped refl
effect_alike h d task (Unclip slot) l is =
    let unclipped : Layer → Layer = λ k. record k { clip = None } in
    changed_alike h d slot l unclipped unclipped refl
effect_alike h d task (BeginRefresh slot) l is =
    let begun : Layer → Layer = λ k. record k { updating = true } in
    changed_alike h d slot l begun begun refl
effect_alike h d task (EndRefresh slot full) l is = changed_alike h d slot l (end_update full) (end_update full) (ended_alike h l full)
effect_alike h d task (Scroll slot dx dy) l is = changed_alike h d slot l (scroll_layer dx dy) (scroll_layer dx dy) refl
effect_alike h d task (SetTitle slot title) l is =
    drawn_alike h d slot l (λ visible. set_window_titles d.assets.glyphs visible (is_the d.active slot) title)
    (titled_alike h d.assets.glyphs (is_visible d slot l) (is_the d.active slot) title l)
effect_alike h d task (TakeMessage slot) l is = changed_alike h d slot l get_msg get_msg refl
effect_alike h d task call l is = refl

-- a call on a slot without a layer leaves it without one
idle_alike : (h : Option Hook) (d : Desk) (task n : ℕ) (call : Call) (s : Slot) → class_of call ≡ OnLayer n → is_live s ≡ false → hooked_slot h s ≡ s → IsLike (hooked_part h) (filled d s) (filled d s) task n call
unfolding after
idle_alike h d task n call s class idle plain =
    let e : Desk = filled d s in
    let refused : refusal e task call ≡ Some NotOpen =
    on_refusal e task n call class ∙
    ap (λ live. refuse (not live) NotOpen (further_refusal e task call)) idle in
    let stays : slot_part (after e task call) n ≡ slot_part e n = ap (λ o. slot_part (changed_unless o e (effect e task call)) n) refused in
    record {
      replies = refl;
      part = stays ∙ (ap (λ (q : Slot). record (slot_part e n) { slot = q }) (sym plain) ∙ sym (ap (hooked_part h) stays));
    }

-- a call on one layer is like that on the layer with another hook
blind : (h : Option Hook) (d : Desk) (task n : ℕ) (call : Call) (s : Slot) → class_of call ≡ OnLayer n → IsLike (hooked_part h) (filled d (hooked_slot h s)) (filled d s) task n call
unfolding top
blind h d task n call layer.Unopened class = idle_alike h d task n call layer.Unopened class refl refl
blind h d task n call (layer.Live l) class =
    let e : Desk = filled d (layer.Live (with_hook h l)) in
    let f : Desk = filled d (layer.Live l) in
    let P : ℕ → Type 0 = λ k. IsChangedAlike h d task k call l in
    let same : IsBlind h d task call l = blind_at h d task call l (ap is_on_layer class) in
    let changes : IsChangedAlike h d task n call l = subst P (ap layer_of class) (effect_alike h d task call l (ap is_on_layer class)) in
    like (hooked_part h) e f task n call
    (on_refusal e task n call class ∙ (same.refuses ∙ sym (on_refusal f task n call class)))
    same.answers refl changes
blind h d task n call layer.Closed class = idle_alike h d task n call layer.Closed class refl refl

-- A call on one layer is like that on a desk that has the slot's layer with another hook.
pub one_layer_unhooked : (h : Option Hook) (d : Desk) (task n : ℕ) (call : Call) (s : Slot) → class_of call ≡ OnLayer n → d.slot n ≡ hooked_slot h s → IsLike (hooked_part h) d (filled d s) task n call
one_layer_unhooked h d task n call s class is =
    let P : Slot → Type 0 = λ q. IsLike (λ p. p) d (filled d q) task n call in
    let near : IsLike (λ p. p) d (filled d (hooked_slot h s)) task n call = subst P is (alone d task n call class) in
    let far : IsLike (hooked_part h) (filled d (hooked_slot h s)) (filled d s) task n call = blind h d task n call s class in
    record { replies = near.replies ∙ far.replies; part = near.part ∙ far.part }

-- a slot with another hook is as live
live_alike : (h : Option Hook) (s : Slot) → is_live (hooked_slot h s) ≡ is_live s
live_alike h layer.Unopened = refl
live_alike h (layer.Live l) = refl
live_alike h layer.Closed = refl

-- the refusal of a call on two layers of which these are the slots
abbrev pair_refusal : Slot → Slot → Option Reply
pair_refusal s t = refuse_not_open s (refuse_not_open t None)

pair_refused_alike : (g h : Option Hook) (s t : Slot) → pair_refusal (hooked_slot g s) (hooked_slot h t) ≡ pair_refusal s t
pair_refused_alike g h s t =
    ap (λ live. refuse (not live) NotOpen (refuse_not_open (hooked_slot h t) None)) (live_alike g s) ∙
    ap (λ live. refuse_not_open s (refuse (not live) NotOpen None)) (live_alike h t)

pair_refuses : (d : Desk) (task m n : ℕ) (a : Area) (s t : Slot) → (m == n) ≡ false → d.slot m ≡ s → d.slot n ≡ t → refusal d task (Blit m n a) ≡ pair_refusal s t
pair_refuses d task m n a s t apart from to =
    ap (λ b. refuse_unless_open d (slots_in (if b then OnLayer n else OnLayers m n)) None) apart ∙
    (ap (λ (k : Slot). pair_refusal k (d.slot n)) from ∙ ap (λ (k : Slot). pair_refusal s k) to)

-- what a blit makes of the second of two slots
abbrev blitted_slot : Desk → ℕ → ℕ → Area → Slot → Slot → Slot
blitted_slot d m n a s t = change_layer (λ l. clip_blit_from s (is_visible d m) (is_visible d n l) a l) t

blitted_alike : (g h : Option Hook) (d : Desk) (m n : ℕ) (a : Area) (s t : Slot) → blitted_slot d m n a (hooked_slot g s) (hooked_slot h t) ≡ hooked_slot h (blitted_slot d m n a s t)
unfolding top is_visible is_kept is_drawable with_pens
blitted_alike g h d m n a s layer.Unopened = refl
blitted_alike g h d m n a layer.Unopened (layer.Live l) = refl
blitted_alike g h d m n a (layer.Live k) (layer.Live l) = refl
blitted_alike g h d m n a layer.Closed (layer.Live l) = refl
blitted_alike g h d m n a s layer.Closed = refl

-- the second slot after a blit
blit_leaves : (d : Desk) (task m n : ℕ) (a : Area) (s t : Slot) → d.slot m ≡ s → d.slot n ≡ t → (effect d task (Blit m n a)).slot n ≡ blitted_slot d m n a s t
blit_leaves d task m n a s t from to =
    ap (λ b. if b then blitted_slot d m n a (d.slot m) (d.slot n) else d.slot n) (eq-eqb n n refl) ∙
    (ap (λ (k : Slot). blitted_slot d m n a k (d.slot n)) from ∙ ap (λ (k : Slot). blitted_slot d m n a s k) to)

-- A call on two layers is like that on a desk that has them with other hooks: at the first, and at the second.
pub two_layers_first : (g h : Option Hook) (d : Desk) (task m n : ℕ) (a : Area) (s t : Slot) → (m == n) ≡ false → d.slot m ≡ hooked_slot g s → d.slot n ≡ hooked_slot h t → IsLike (hooked_part g) d (paired d n s t) task m (Blit m n a)
unfolding top
two_layers_first g h d task m n a s t apart from to =
    let e : Desk = paired d n s t in
    let there : e.slot m ≡ s = ap (λ b. if b then t else s) apart in
    let before : d.slot m ≡ hooked_slot g (e.slot m) = from ∙ ap (hooked_slot g) (sym there) in
    let leaves : (effect d task (Blit m n a)).slot m ≡ hooked_slot g ((effect e task (Blit m n a)).slot m) =
    ap (λ b. if b then blitted_slot d m n a (d.slot m) (d.slot n) else d.slot m) apart ∙
    (before ∙ ap (hooked_slot g) (sym (ap (λ b. if b then blitted_slot e m n a (e.slot m) (e.slot n) else e.slot m) apart))) in
    like (hooked_part g) d e task m (Blit m n a)
    (pair_refuses d task m n a (hooked_slot g s) (hooked_slot h t) apart from to ∙
    (pair_refused_alike g h s t ∙ sym (pair_refuses e task m n a s t apart there (ap (λ b. if b then t else s) (eq-eqb n n refl)))))
    refl (ap (λ (q : Slot). record (slot_part d m) { slot = q }) before) (ap (λ (q : Slot). record (slot_part d m) { slot = q }) leaves)

pub two_layers_second : (g h : Option Hook) (d : Desk) (task m n : ℕ) (a : Area) (s t : Slot) → (m == n) ≡ false → d.slot m ≡ hooked_slot g s → d.slot n ≡ hooked_slot h t → IsLike (hooked_part h) d (paired d n s t) task n (Blit m n a)
unfolding top is_visible
two_layers_second g h d task m n a s t apart from to =
    let e : Desk = paired d n s t in
    let source : e.slot m ≡ s = ap (λ b. if b then t else s) apart in
    let there : e.slot n ≡ t = ap (λ b. if b then t else s) (eq-eqb n n refl) in
    let before : d.slot n ≡ hooked_slot h (e.slot n) = to ∙ ap (hooked_slot h) (sym there) in
    let leaves : (effect d task (Blit m n a)).slot n ≡ hooked_slot h ((effect e task (Blit m n a)).slot n) =
    blit_leaves d task m n a (hooked_slot g s) (hooked_slot h t) from to ∙
    (blitted_alike g h d m n a s t ∙ ap (hooked_slot h) (sym (blit_leaves e task m n a s t source there))) in
    like (hooked_part h) d e task n (Blit m n a)
    (pair_refuses d task m n a (hooked_slot g s) (hooked_slot h t) apart from to ∙
    (pair_refused_alike g h s t ∙ sym (pair_refuses e task m n a s t apart source there)))
    refl (ap (λ (q : Slot). record (slot_part d n) { slot = q }) before) (ap (λ (q : Slot). record (slot_part d n) { slot = q }) leaves)

-- a part for which a cell with a hook stands is that of the cell with the hook
hooked_held : (h : Option Hook) (s : State) (c : LiveView) (p : SlotPart) → IsPartOf s (with_layer (λ l. with_hook h l) c) p → p.slot ≡ hooked_slot h (slot_of s c)
hooked_held h view.Unopened c p is = is.0
hooked_held h view.Live c p is = is.slot
hooked_held h view.Closed c p is = is.0

unhooked_part : (h : Option Hook) (s : State) (c : LiveView) (p : SlotPart) → IsPartOf s (with_layer (λ l. with_hook h l) c) p → IsPartOf s c (record p { slot = slot_of s c })
unhooked_part h view.Unopened c p is = (refl, is.1)
unhooked_part h view.Live c p is = record { slot = refl; bounds = is.bounds; shown = is.shown; active = is.active }
unhooked_part h view.Closed c p is = (refl, is.1)

pub rehooked_part : (h : Option Hook) (s : State) (c : LiveView) (p : SlotPart) → IsPartOf s c p → IsPartOf s (with_layer (λ l. with_hook h l) c) (hooked_part h p)
rehooked_part h view.Unopened c p is = (ap (hooked_slot h) is.0, is.1)
rehooked_part h view.Live c p is = record { slot = ap (hooked_slot h) is.slot; bounds = is.bounds; shown = is.shown; active = is.active }
rehooked_part h view.Closed c p is = (ap (hooked_slot h) is.0, is.1)

-- What a call on one layer makes of a cell, it makes of the cell with any hook on its layer.
pub hooked_step : (h : Option Hook) (task : ℕ) (c new : CellView) (regs : List (List Rectangle)) (assets : Assets) (call : Call) (r : Reply) → class_of call ≡ OnLayer c.number → new.number ≡ c.number → IsLayerStep task c regs assets call r new → IsLayerStep task (hooked h c) regs assets call r (hooked h new)
unfolding top
hooked_step h task c new regs assets call r class same step =
    λ d stands registers handed.
    let n : ℕ = c.number in
    let s : Slot = slot_of c.state c.live in
    let e : Desk = filled d s in
    let law : IsLike (hooked_part h) d e task n call = one_layer_unhooked h d task n call s class (hooked_held h c.state c.live (slot_part d n) stands) in
    let done : IsSlotStep e task n call r new = step e (unhooked_part h c.state c.live (slot_part d n) stands) registers handed in
    let P : SlotPart → Type 0 = λ p. StandsFor (hooked h new) p in
    (done.0 ∙ sym law.replies, subst P (sym law.part) (rehooked_part h new.state new.live (slot_part (after e task call) n) done.1))

-- What a call on two layers makes of two cells, it makes of them with any hooks on their layers.
hooked_blit : (g h : Option Hook) (source to new : CellView) (a : Area) (r : Reply) → (source.number == to.number) ≡ false → IsPairStep source to (Blit source.number to.number a) r new → IsPairStep (hooked g source) (hooked h to) (Blit source.number to.number a) r (hooked h new)
unfolding top
hooked_blit g h source to new a r apart step =
    λ d task from stands.
    let m : ℕ = source.number in
    let n : ℕ = to.number in
    let call : Call = Blit m n a in
    let s : Slot = slot_of source.state source.live in
    let t : Slot = slot_of to.state to.live in
    let e : Desk = paired d n s t in
    let first_held : d.slot m ≡ hooked_slot g s = hooked_held g source.state source.live (slot_part d m) from in
    let second_held : d.slot n ≡ hooked_slot h t = hooked_held h to.state to.live (slot_part d n) stands in
    let first : IsLike (hooked_part g) d e task m call = two_layers_first g h d task m n a s t apart first_held second_held in
    let second : IsLike (hooked_part h) d e task n call = two_layers_second g h d task m n a s t apart first_held second_held in
    let P : Slot → Type 0 = λ q. StandsFor source (record (slot_part d m) { slot = q }) in
    let Q : Slot → Type 0 = λ q. StandsFor to (record (slot_part d n) { slot = q }) in
    let from_plain : StandsFor source (slot_part e m) =
    subst P (sym (ap (λ b. if b then t else s) apart)) (unhooked_part g source.state source.live (slot_part d m) from) in
    let to_plain : StandsFor to (slot_part e n) =
    subst Q (sym (ap (λ b. if b then t else s) (eq-eqb n n refl))) (unhooked_part h to.state to.live (slot_part d n) stands) in
    let done : StandsFor source (slot_part (after e task call) m) × IsSlotStep e task n call r new = step e task from_plain to_plain in
    let told : IsSlotStep e task n call r new = done.1 in
    let R : SlotPart → Type 0 = λ p. StandsFor (hooked g source) p in
    let S : SlotPart → Type 0 = λ p. StandsFor (hooked h new) p in (
      subst R (sym first.part) (rehooked_part g source.state source.live (slot_part (after e task call) m) done.0),
      (told.0 ∙ sym second.replies, subst S (sym second.part) (rehooked_part h new.state new.live (slot_part (after e task call) n) told.1)),
    )

pub hooked_pair : (g h : Option Hook) (source to new : CellView) (call : Call) (r : Reply) → class_of call ≡ OnLayers source.number to.number → new.number ≡ to.number → IsPairStep source to call r new → IsPairStep (hooked g source) (hooked h to) call r (hooked h new)
hooked_pair g h source to new (Blit m n a) r class same step =
    let told : ArePair m n source.number to.number = pair_told m n source.number to.number a class in
    let call_is : Blit m n a ≡ Blit source.number to.number a = ap (λ k. Blit k n a) told.from ∙ ap (λ k. Blit source.number k a) told.to in
    let P : Call → Type 0 = λ k. IsPairStep source to k r new in
    let Q : Call → Type 0 = λ k. IsPairStep (hooked g source) (hooked h to) k r (hooked h new) in
    subst Q (sym call_is) (hooked_blit g h source to new a r (pair_apart (Blit m n a) source.number to.number class) (subst P call_is step))
hooked_pair g h source to new call r class same step = absurd (cc class)
