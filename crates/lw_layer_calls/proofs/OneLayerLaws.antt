-- What a call on one layer answers and leaves, in every desk whose slot has the layer.
use Rattle.std.proofs.Common.{◌≡◌, ℕ, ◌*◌, ◌<◌, Bool, true, false, not, if◌then◌else◌, ℤ, pos, negsuc, ◌+ℤ◌, int_le, unsigned_abs, List, [], length, Option, Some, None, Result, Ok, Err, IfOk, IsTrue, ◌∙◌, sym, refl, ap, subst}
use Rattle.std.specs.List.{slice_index_or}
use Rattle.std.proofs.Math.Path.{fun_ext}
use Rattle.std.proofs.lemmas.Bool.{eq-eqb, true≢false}
use Rattle.lw_region.specs.Rectangle.{Rectangle}
use Rattle.lw_region.specs.Pixels.{Pixel, pixels_of}
use Rattle.lw_planes.specs.Bitmap.{pen_at}
use Rattle.lw_calls.specs.Assets.{Assets}
use Rattle.lw_calls.specs.declared.call.Call.{Call}
use Rattle.lw_calls.specs.declared.call.Call.TheVariants.{Create, OpenWindow, Close, ToFront, ToBack, InFrontOf, MoveBy, SizeBy}
use Rattle.lw_calls.specs.declared.call.Call.TheVariants.{SetBox, Activate, SetHook}
use Rattle.lw_calls.specs.declared.call.Call.TheVariants.{SetA, SetB, SetMode, SetMask, At, WritePixel, ReadPixel, Letters, Clip, Unclip, Scroll}
use Rattle.lw_calls.specs.declared.reply.Reply.{Reply}
use Rattle.lw_calls.specs.declared.reply.Reply.TheVariants.{Done, Pen, Outside, NotOpen, NotSuper, InUpdate, OutOfBounds}
use Rattle.lw_calls.specs.Kinds.{is_super}
use Rattle.lw_calls.specs.declared.touch.CallClass.{CallClass}
use Rattle.lw_calls.specs.declared.touch.CallClass.TheVariants.{OnLayer, OnAll}
use Rattle.lw_calls.specs.declared.touch.Slots.{Slots}
use Rattle.lw_calls.specs.Touches.{class_of, slots_in}
use Rattle.lw_machine.specs.Layer.{Layer, Slot, is_live, layer_is, change_layer}
use Rattle.lw_machine.specs.Layer as layer
use Rattle.lw_machine.specs.Desk.{Desk}
use Rattle.lw_machine.specs.Screen.{top, is_shown}
use Rattle.lw_machine.specs.Kept.{visible_within, screen_place, is_visible, is_kept, is_drawable, holds_at}
use Rattle.lw_machine.specs.Shapes.{write_pixel, draw_text, with_cursor}
use Rattle.lw_machine.specs.Parts.{SlotPart, slot_part}
use Rattle.lw_machine.specs.Step.{refuse, must_be_open, refuse_unless_open, further_refusal, refusal, on_layer, with_pen_a}
use Rattle.lw_machine.specs.Step.{with_pen_b, with_mode, with_mask, drawn_on, effect, from_layer, clip_answer, may_scroll}
use Rattle.lw_machine.specs.Step.{scroll_layer, answer, changed_unless, reply_or, after, reply}
use Rattle.lw_layer.specs.View.{State, LiveView, CellView, shows, keeps, draws, kept_pen, with_layer, with_live}
use Rattle.lw_layer.specs.View as view
use Rattle.lw_layer.specs.StandsFor.{IsLivePart, IsPartOf, StandsFor}
use Rattle.lw_layer.specs.Looks.{IsLook}
use Rattle.lw_layer.specs.declared.look.Look.{Look}
use Rattle.lw_layer.proofs.SoundLaws.{live_part}
use Rattle.lw_layer_calls.specs.Parts.{IsSlotStep, IsLayerStep}
use Rattle.lw_layer_calls.specs.Open.{IsLiveStep, IsOpenStep, IsTaskStep, IsLentStep, sets_raster, raster_after}

-- the slot of a cell that isn't live has no layer
pub dead_slot : (c : CellView) (p : SlotPart) → (c.state ≡ view.Live → ⊥) → StandsFor c p → is_live p.slot ≡ false
dead_slot c p idle stands = go c.state refl stands
  where
    go : (s : State) → c.state ≡ s → IsPartOf s c.live p → is_live p.slot ≡ false
    go view.Unopened e h = ap is_live h.0
    go view.Live e h = absurd (idle e)
    go view.Closed e h = ap is_live h.0

-- a call that is refused answers its refusal and leaves all
pub refused_step : (d : Desk) (task slot : ℕ) (call : Call) (r : Reply) (P : SlotPart → Type 0) → refusal d task call ≡ Some r → P (slot_part d slot) → (r ≡ reply d task call) × P (slot_part (after d task call) slot)
unfolding after reply
refused_step d task slot call r P refused holds =
    let Q : Desk → Type 0 = λ e. P (slot_part e slot) in
    (sym (ap (λ o. reply_or o (answer d task call)) refused), subst Q (sym (ap (λ o. changed_unless o d (effect d task call)) refused)) holds)

-- the layers that have to be open for a call that isn't on all slots are those that it touches
open_slots : (call : Call) (k : CallClass) → class_of call ≡ k → (k ≡ OnAll → ⊥) → must_be_open call ≡ slots_in k
open_slots (Create slot make) k class part = absurd (part (sym class))
open_slots (OpenWindow slot make framed nocare asks title) k class part = absurd (part (sym class))
open_slots (Close slot) k class part = absurd (part (sym class))
open_slots (ToFront slot) k class part = absurd (part (sym class))
open_slots (ToBack slot) k class part = absurd (part (sym class))
open_slots (InFrontOf slot other) k class part = absurd (part (sym class))
open_slots (MoveBy slot dx dy) k class part = absurd (part (sym class))
open_slots (SizeBy slot dw dh) k class part = absurd (part (sym class))
open_slots (SetBox slot x y w h) k class part = absurd (part (sym class))
open_slots (Activate slot) k class part = absurd (part (sym class))
open_slots (SetHook slot hook) k class part = absurd (part (sym class))
open_slots call k class part = ap slots_in class

-- and where one of them isn't open, the call is refused
pub class_refusal : (d : Desk) (task : ℕ) (call : Call) (k : CallClass) → class_of call ≡ k → (k ≡ OnAll → ⊥)
    → refusal d task call ≡ refuse_unless_open d (slots_in k) (further_refusal d task call)
class_refusal d task call k class part =
    ap (λ (s : Slots). refuse_unless_open d s (further_refusal d task call)) (open_slots call k class part)

-- a call on a slot without a layer
pub not_open : (task : ℕ) (c : CellView) (regs : List (List Rectangle)) (assets : Assets) (call : Call) → class_of call ≡ OnLayer c.number → (c.state ≡ view.Live → ⊥) → IsLayerStep task c regs assets call NotOpen c
not_open task c regs assets call class idle =
    λ d stands registers handed.
    refused_step d task c.number call NotOpen (λ p. StandsFor c p)
    (class_refusal d task call (OnLayer c.number) class (λ other. cc other) ∙
    ap (λ live. refuse (not live) NotOpen (further_refusal d task call)) (dead_slot c (slot_part d c.number) idle stands))
    stands

-- a call on this slot names it
pub on_its_slot : (slot named : ℕ) (call : Call) (on : ℕ → Call) (P : Call → Type 0) → class_of call ≡ OnLayer slot → call ≡ on named → class_of (on named) ≡ OnLayer named → P (on slot) → P call
on_its_slot slot named call on P class is where_ holds =
    let both : OnLayer slot ≡ OnLayer named = sym class ∙ (ap class_of is ∙ where_) in
    let same : slot ≡ named = cc both in
    subst P (sym (is ∙ ap on (sym same))) holds

-- and two numbers as the code tells them
pub on_its_place : (slot named : ℕ) (x y told_x told_y : ℤ) (call : Call) (on : ℕ → ℤ → ℤ → Call) (P : Call → Type 0) → class_of call ≡ OnLayer slot → call ≡ on named x y → class_of (on named told_x told_y) ≡ OnLayer named → told_x ≡ x → told_y ≡ y → P (on slot told_x told_y) → P call
on_its_place slot named x y told_x told_y call on P class is where_ same_x same_y holds =
    on_its_slot slot named call (λ n. on n told_x told_y) P class (is ∙ sym (ap (λ u. on named u told_y) same_x ∙ ap (λ v. on named x v) same_y)) where_ holds

-- a step of an open layer is one of its slot's cell
pub on_slot : (d : Desk) (task : ℕ) (c : CellView) (call : Call) (r : Reply) (new : LiveView) → c.state ≡ view.Live → IsLiveStep d task c.number call r new → IsSlotStep d task c.number call r (with_live (λ k. new) c)
on_slot d task c call r new is step =
    let P : State → Type 0 = λ s. IsPartOf s new (slot_part (after d task call) c.number) in
    (step.0, subst P (sym is) step.1)

-- the same of a call that may fail
pub lent_step : {E : Type 0} (result : Result Reply E) (task : ℕ) (c : CellView) (old new : LiveView) (regs : List (List Rectangle)) (assets : Assets) (call : Call) → class_of call ≡ OnLayer c.number → c.state ≡ view.Live → old ≡ c.live → IfOk result (λ r. (slot : ℕ) → class_of call ≡ OnLayer slot → IsLentStep task slot old regs assets call r new) → IfOk result (λ r. IsLayerStep task c regs assets call r (with_live (λ k. new) c))
lent_step (Ok r) task c old new regs assets call class is same step =
    λ d stands registers handed.
    let P : LiveView → Type 0 = λ k. IsLivePart k (slot_part d c.number) in
    on_slot d task c call r new is (step c.number class d (subst P (sym same) (live_part c (slot_part d c.number) is stands)) registers handed)
lent_step (Err x) task c old new regs assets call class is same step = tt

-- and of one that reads nothing else
pub open_step : (task : ℕ) (c made : CellView) (new : LiveView) (regs : List (List Rectangle)) (assets : Assets) (call : Call) (r : Reply) → c.state ≡ view.Live → made ≡ with_live (λ k. new) c → IsOpenStep c.number c.live call r new → IsLayerStep task c regs assets call r made
open_step task c made new regs assets call r is leaves step =
    λ d stands registers handed.
    let P : CellView → Type 0 = IsSlotStep d task c.number call r in
    subst P (sym leaves) (on_slot d task c call r new is (step d task (live_part c (slot_part d c.number) is stands)))

-- a call on a layer that is open is refused by its further refusals
pub open_refusal : (d : Desk) (task slot : ℕ) (call : Call) (l : Layer) → class_of call ≡ OnLayer slot → d.slot slot ≡ layer.Live l → refusal d task call ≡ further_refusal d task call
open_refusal d task slot call l class is =
    class_refusal d task call (OnLayer slot) class (λ other. cc other) ∙
    ap (λ (s : Slot). refuse (not (is_live s)) NotOpen (further_refusal d task call)) is

-- a call of a task on a layer whose further refusal is this one
pub further_step : (task slot : ℕ) (c : LiveView) (call : Call) (r : Reply) → class_of call ≡ OnLayer slot → ((d : Desk) → IsLivePart c (slot_part d slot) → further_refusal d task call ≡ Some r) → IsTaskStep task slot c call r c
further_step task slot c call r class refused =
    λ d live.
    refused_step d task slot call r (λ p. IsLivePart c p) (open_refusal d task slot call c.layer class live.slot ∙ refused d live) live

-- a call that isn't refused and changes the layer so
pub changed_step : (d : Desk) (task slot : ℕ) (call : Call) (r : Reply) (c : LiveView) (f g : Layer → Layer) → IsLivePart c (slot_part d slot) → refusal d task call ≡ None → r ≡ answer d task call → effect d task call ≡ on_layer d slot f → f c.layer ≡ g c.layer → IsLiveStep d task slot call r (with_layer g c)
unfolding after reply top
changed_step d task slot call r c f g live passes answers does same =
    let after_is : changed_unless (refusal d task call) d (effect d task call) ≡ on_layer d slot f = ap (λ o. changed_unless o d (effect d task call)) passes ∙ does in
    let P : Desk → Type 0 = λ e. IsLivePart (with_layer g c) (slot_part e slot) in
    let part : P (on_layer d slot f) = record {
      slot = ap (λ t. if t then change_layer f (d.slot slot) else d.slot slot) (eq-eqb slot slot refl) ∙ (ap (change_layer f) live.slot ∙ ap layer.Live same);
      bounds = live.bounds;
      shown = live.shown;
      active = live.active;
    } in
    (answers ∙ sym (ap (λ o. reply_or o (answer d task call)) passes), subst P (sym after_is) part)

-- the machine shows the pixels that the layer shows
visible_is : (d : Desk) (n : ℕ) (c : LiveView) → IsLivePart c (slot_part d n) → (x y : ℕ) → is_visible d n c.layer x y ≡ shows c x y
unfolding is_visible
visible_is d n c live x y =
    ap (λ b. visible_within (is_shown d n) b c.layer.scroll_x c.layer.scroll_y x y) live.bounds ∙
    live.shown (screen_place c.bounds.min_x c.layer.scroll_x x) (screen_place c.bounds.min_y c.layer.scroll_y y)

-- the pixels that the machine shows are those of the layer
pub shown_same : (d : Desk) (n : ℕ) (c : LiveView) → IsLivePart c (slot_part d n) → let machine : ℕ → ℕ → Bool = λ x y. is_visible d n c.layer x y in let cell : ℕ → ℕ → Bool = λ x y. shows c x y in machine ≡ cell
shown_same d n c live = fun_ext (λ x. fun_ext (λ y. visible_is d n c live x y))

-- A call that isn't refused on an open layer and changes it, told the pixels that it shows.
pub drawn_step : (d : Desk) (task slot : ℕ) (call : Call) (r : Reply) (c new : LiveView) (g : (ℕ → ℕ → Bool) → Layer → Layer) → class_of call ≡ OnLayer slot → IsLivePart c (slot_part d slot) → further_refusal d task call ≡ None → effect d task call ≡ drawn_on d slot g → r ≡ answer d task call → new ≡ with_layer (λ l. g (λ x y. shows c x y) l) c → IsLiveStep d task slot call r new
drawn_step d task slot call r c new g class live passes does answers leaves =
    let P : LiveView → Type 0 = IsLiveStep d task slot call r in
    subst P (sym leaves)
    (changed_step d task slot call r c (λ l. g (λ x y. is_visible d slot l x y) l) (λ l. g (λ x y. shows c x y) l) live
    (open_refusal d task slot call c.layer class live.slot ∙ passes) answers does (ap (λ (v : ℕ → ℕ → Bool). g v c.layer) (shown_same d slot c live)))

-- a call that sets how the layer paints
pub set_step : (slot : ℕ) (call : Call) (c new : LiveView) → IsTrue (sets_raster call) → class_of call ≡ OnLayer slot → new ≡ with_layer (λ l. record l { raster = raster_after call l.raster }) c → IsOpenStep slot c call Done new
set_step slot (SetA s pen) c new sets class leaves =
    on_its_slot slot s (SetA s pen) (λ s. SetA s pen) (λ k. IsOpenStep slot c k Done new) class refl refl
    (λ d task live. drawn_step d task slot (SetA slot pen) Done c new (λ visible. with_pen_a pen) refl live refl refl refl leaves)
set_step slot (SetB s pen) c new sets class leaves =
    on_its_slot slot s (SetB s pen) (λ s. SetB s pen) (λ k. IsOpenStep slot c k Done new) class refl refl
    (λ d task live. drawn_step d task slot (SetB slot pen) Done c new (λ visible. with_pen_b pen) refl live refl refl refl leaves)
set_step slot (SetMode s mode) c new sets class leaves =
    on_its_slot slot s (SetMode s mode) (λ s. SetMode s mode) (λ k. IsOpenStep slot c k Done new) class refl refl
    (λ d task live. drawn_step d task slot (SetMode slot mode) Done c new (λ visible. with_mode mode) refl live refl refl refl leaves)
set_step slot (SetMask s mask) c new sets class leaves =
    on_its_slot slot s (SetMask s mask) (λ s. SetMask s mask) (λ k. IsOpenStep slot c k Done new) class refl refl
    (λ d task live. drawn_step d task slot (SetMask slot mask) Done c new (λ visible. with_mask mask) refl live refl refl refl leaves)
set_step slot (At s x y) c new sets class leaves =
    on_its_slot slot s (At s x y) (λ s. At s x y) (λ k. IsOpenStep slot c k Done new) class refl refl
    (λ d task live. drawn_step d task slot (At slot x y) Done c new (λ visible. with_cursor x y) refl live refl refl refl leaves)
set_step slot call c new sets class leaves = absurd (true≢false (sym sets))

-- what WritePixel answers
write_answer : (d : Desk) (slot : ℕ) (c : LiveView) (x y : ℤ) (done : Bool) → IsLivePart c (slot_part d slot) → done ≡ holds_at (λ i j. draws c i j) x y → (if done then Done else Outside) ≡ from_layer (λ l. if holds_at (is_drawable (is_visible d slot l) l) x y then Done else Outside) (d.slot slot)
unfolding draws
write_answer d slot c x y done live answers =
    ap (λ t. if t then Done else Outside) answers ∙
    sym (ap (λ (s : Slot). from_layer (λ l. if holds_at (is_drawable (is_visible d slot l) l) x y then Done else Outside) s) live.slot ∙
    ap (λ (v : ℕ → ℕ → Bool). if holds_at (is_drawable v c.layer) x y then Done else Outside) (shown_same d slot c live))

-- a pixel that was painted, or isn't drawable
pub write_step : (slot : ℕ) (c new : LiveView) (x y told_x told_y : ℤ) (done : Bool) (r : Reply) → told_x ≡ x → told_y ≡ y → done ≡ holds_at (λ i j. draws c i j) told_x told_y → new ≡ with_layer (λ l. write_pixel (λ i j. shows c i j) told_x told_y l) c → r ≡ (if done then Done else Outside) → IsOpenStep slot c (WritePixel slot x y) r new
write_step slot c new x y told_x told_y done r same_x same_y answers leaves says =
    λ d task live.
    let drawn : ℤ → ℤ → LiveView = λ u v. with_layer (λ l. write_pixel (λ i j. shows c i j) u v l) c in
    let holds : ℤ → ℤ → Bool = λ u v. holds_at (λ i j. draws c i j) u v in
    drawn_step d task slot (WritePixel slot x y) r c new (λ visible. write_pixel visible x y) refl live refl refl
    (says ∙ write_answer d slot c x y done live (answers ∙ (ap (λ u. holds u told_y) same_x ∙ ap (λ v. holds x v) same_y)))
    (leaves ∙ (ap (λ u. drawn u told_y) same_x ∙ ap (λ v. drawn x v) same_y))

-- the answer to a pen that was read, or to none
abbrev pub read_reply : Option ℕ → Reply
read_reply None = Outside
read_reply (Some pen) = Pen pen

read_told : (b : Bool) (pen : ℕ) → read_reply (if b then Some pen else None) ≡ (if b then Pen pen else Outside)
read_told true pen = refl
read_told false pen = refl

kept_told : (c : LiveView) (x y : ℤ) → read_reply (kept_pen c x y) ≡ (if holds_at (is_kept (λ i j. shows c i j) c.layer) x y then Pen (pen_at c.layer.bits (unsigned_abs x) (unsigned_abs y)) else Outside)
unfolding keeps
kept_told c (pos x) (pos y) = read_told (is_kept (λ i j. shows c i j) c.layer x y) (pen_at c.layer.bits x y)
kept_told c (pos x) (negsuc y) = refl
kept_told c (negsuc x) y = refl

-- ReadPixel changes nothing
pub read_step : (slot : ℕ) (c : LiveView) (x y told_x told_y : ℤ) (found : Option ℕ) (r : Reply) → told_x ≡ x → told_y ≡ y → found ≡ kept_pen c told_x told_y → r ≡ read_reply found → IsOpenStep slot c (ReadPixel slot x y) r c
unfolding after reply
read_step slot c x y told_x told_y found r same_x same_y finds says =
    λ d task live.
    let call : Call = ReadPixel slot x y in
    let passes : refusal d task call ≡ None = open_refusal d task slot call c.layer refl live.slot in
    let P : Desk → Type 0 = λ e. IsLivePart c (slot_part e slot) in
    let told : r ≡ read_reply (kept_pen c x y) = says ∙ ap read_reply (finds ∙ (ap (λ u. kept_pen c u told_y) same_x ∙ ap (λ v. kept_pen c x v) same_y)) in
    let answers : r ≡ answer d task call =
    told ∙ kept_told c x y ∙
    sym (ap (λ (s : Slot). from_layer (λ l. if holds_at (is_kept (is_visible d slot l) l) x y then Pen (pen_at l.bits (unsigned_abs x) (unsigned_abs y)) else Outside) s) live.slot ∙
    ap (λ (v : ℕ → ℕ → Bool). if holds_at (is_kept v c.layer) x y then Pen (pen_at c.layer.bits (unsigned_abs x) (unsigned_abs y)) else Outside) (shown_same d slot c live)) in
    (answers ∙ sym (ap (λ o. reply_or o (answer d task call)) passes), subst P (sym (ap (λ o. changed_unless o d (effect d task call)) passes)) live)

-- whether the cursor would pass the last column
letters_refusal : (d : Desk) (slot : ℕ) (l : Layer) (text : List ℕ) (inside : Bool) → d.slot slot ≡ layer.Live l → inside ≡ int_le (l.raster.cursor_x +ℤ pos (8 * length text)) (pos 32767) → refuse (layer_is (λ k. not (int_le (k.raster.cursor_x +ℤ pos (8 * length text)) (pos 32767))) (d.slot slot)) OutOfBounds None ≡ refuse (not inside) OutOfBounds None
letters_refusal d slot l text inside is told =
    ap (λ (s : Slot). refuse (layer_is (λ k. not (int_le (k.raster.cursor_x +ℤ pos (8 * length text)) (pos 32767))) s) OutOfBounds None) is ∙
    ap (λ t. refuse (not t) OutOfBounds None) (sym told)

-- letters that were drawn, or refused
pub letters_step : (slot : ℕ) (c new : LiveView) (assets : Assets) (text : List ℕ) (inside done : Bool) (r : Reply) → inside ≡ done → inside ≡ int_le (c.layer.raster.cursor_x +ℤ pos (8 * length text)) (pos 32767) → new ≡ (if inside then with_layer (λ l. draw_text assets.glyphs (λ x y. shows c x y) text l) c else c) → r ≡ (if done then Done else OutOfBounds) → (task : ℕ) (regs : List (List Rectangle)) → IsLentStep task slot c regs assets (Letters slot text) r new
letters_step slot c new assets text inside true r did told leaves says task regs =
    λ d live registers handed.
    let drawn : List (List ℕ) → LiveView = λ glyphs. with_layer (λ l. draw_text glyphs (λ x y. shows c x y) text l) c in
    let made : new ≡ drawn assets.glyphs = leaves ∙ ap (λ t. if t then drawn assets.glyphs else c) did in
    drawn_step d task slot (Letters slot text) r c new (λ visible. draw_text d.assets.glyphs visible text) refl live
    (letters_refusal d slot c.layer text inside live.slot told ∙ ap (λ t. refuse (not t) OutOfBounds None) did) refl says
    (made ∙ ap (λ (a : Assets). drawn a.glyphs) (sym handed))
letters_step slot c new assets text inside false r did told leaves says task regs =
    λ d live registers handed.
    let drawn : LiveView = with_layer (λ l. draw_text assets.glyphs (λ x y. shows c x y) text l) c in
    let kept : new ≡ c = leaves ∙ ap (λ t. if t then drawn else c) did in
    let P : LiveView → Type 0 = IsLiveStep d task slot (Letters slot text) r in
    let Q : Reply → Type 0 = λ q. IsLiveStep d task slot (Letters slot text) q c in
    subst P (sym kept) (subst Q (sym says)
    (refused_step d task slot (Letters slot text) OutOfBounds (λ p. IsLivePart c p)
    (open_refusal d task slot (Letters slot text) c.layer refl live.slot ∙
    (letters_refusal d slot c.layer text inside live.slot told ∙ ap (λ t. refuse (not t) OutOfBounds None) did)) live))

-- the further refusal of a call that installs a clip region or takes it away
clip_refusal : (d : Desk) (slot : ℕ) (l : Layer) (updating : Bool) → d.slot slot ≡ layer.Live l → l.updating ≡ updating → refuse (layer_is (λ k. k.updating) (d.slot slot)) InUpdate None ≡ refuse updating InUpdate None
clip_refusal d slot l updating is told =
    ap (λ (s : Slot). refuse (layer_is (λ k. k.updating) s) InUpdate None) is ∙ ap (λ t. refuse t InUpdate None) told

-- a layer that is updating takes no clip region
pub clip_in_update : (task slot : ℕ) (c : LiveView) (reg : ℕ) → c.layer.updating ≡ true → IsTaskStep task slot c (Clip slot reg) InUpdate c
clip_in_update task slot c reg updating = further_step task slot c (Clip slot reg) InUpdate refl (λ d live. clip_refusal d slot c.layer true live.slot updating)

pub unclip_in_update : (slot : ℕ) (c : LiveView) → c.layer.updating ≡ true → IsOpenStep slot c (Unclip slot) InUpdate c
unclip_in_update slot c updating =
    λ d task.
    further_step task slot c (Unclip slot) InUpdate refl (λ e live. clip_refusal e slot c.layer true live.slot updating) d

-- the answer that gives the clip region from before away
clip_told : (d : Desk) (slot : ℕ) (l : Layer) (r : Reply) → d.slot slot ≡ layer.Live l → r ≡ clip_answer l.clip → r ≡ from_layer (λ k. clip_answer k.clip) (d.slot slot)
clip_told d slot l r is answers = answers ∙ sym (ap (λ (s : Slot). from_layer (λ k. clip_answer k.clip) s) is)

-- a copy of a register as clip region
pub clip_step : (slot : ℕ) (c new : LiveView) (regs : List (List Rectangle)) (reg : ℕ) (made : List Rectangle) (r : Reply) → reg < 8 → c.layer.updating ≡ false → made ≡ slice_index_or regs reg [] → r ≡ clip_answer c.layer.clip → new ≡ with_layer (λ l. record l { clip = Some (pixels_of made) }) c → (task : ℕ) (assets : Assets) → IsLentStep task slot c regs assets (Clip slot reg) r new
clip_step slot c new regs reg made r small idle copied answers leaves task assets =
    λ d live registers handed.
    let same : d.registers task reg ≡ pixels_of made = registers.sets reg small ∙ ap pixels_of (sym copied) in
    let P : LiveView → Type 0 = IsLiveStep d task slot (Clip slot reg) r in
    subst P (sym leaves)
    (changed_step d task slot (Clip slot reg) r c (λ l. record l { clip = Some (d.registers task reg) }) (λ l. record l { clip = Some (pixels_of made) }) live
    (open_refusal d task slot (Clip slot reg) c.layer refl live.slot ∙ clip_refusal d slot c.layer false live.slot idle)
    (clip_told d slot c.layer r live.slot answers) refl (ap (λ (set : List Pixel). record c.layer { clip = Some set }) same))

-- no clip region
pub unclip_step : (slot : ℕ) (c new : LiveView) (r : Reply) → c.layer.updating ≡ false → r ≡ clip_answer c.layer.clip → new ≡ with_layer (λ l. record l { clip = None }) c → IsOpenStep slot c (Unclip slot) r new
unclip_step slot c new r idle answers leaves =
    λ d task live.
    let P : LiveView → Type 0 = IsLiveStep d task slot (Unclip slot) r in
    subst P (sym leaves)
    (changed_step d task slot (Unclip slot) r c (λ l. record l { clip = None }) (λ l. record l { clip = None }) live
    (open_refusal d task slot (Unclip slot) c.layer refl live.slot ∙ clip_refusal d slot c.layer false live.slot idle)
    (clip_told d slot c.layer r live.slot answers) refl refl)

-- the further refusals of a scroll of a live layer
scroll_refusal : (d : Desk) (slot : ℕ) (c : LiveView) (dx dy : ℤ) (own may : Bool) → IsLivePart c (slot_part d slot) → is_super c.layer.kind ≡ own → may_scroll (Some c.bounds) dx dy c.layer ≡ may → refuse (layer_is (λ l. not (is_super l.kind)) (d.slot slot)) NotSuper (refuse (layer_is (λ l. not (may_scroll (d.bounds slot) dx dy l)) (d.slot slot)) OutOfBounds None) ≡ refuse (not own) NotSuper (refuse (not may) OutOfBounds None)
scroll_refusal d slot c dx dy own may live kind fits =
    ap (λ (s : Slot). refuse (layer_is (λ l. not (is_super l.kind)) s) NotSuper (refuse (layer_is (λ l. not (may_scroll (d.bounds slot) dx dy l)) s) OutOfBounds None)) live.slot ∙
    (ap (λ b. refuse (not (is_super c.layer.kind)) NotSuper (refuse (not (may_scroll b dx dy c.layer)) OutOfBounds None)) live.bounds ∙
    (ap (λ t. refuse (not t) NotSuper (refuse (not (may_scroll (Some c.bounds) dx dy c.layer)) OutOfBounds None)) kind ∙
    ap (λ t. refuse (not own) NotSuper (refuse (not t) OutOfBounds None)) fits))

-- a layer without a bitmap of its own isn't scrolled
pub scroll_not_super : (slot : ℕ) (c : LiveView) (dx dy : ℤ) → is_super c.layer.kind ≡ false → IsOpenStep slot c (Scroll slot dx dy) NotSuper c
scroll_not_super slot c dx dy kind =
    λ d task.
    further_step task slot c (Scroll slot dx dy) NotSuper refl
    (λ e live. scroll_refusal e slot c dx dy false (may_scroll (Some c.bounds) dx dy c.layer) live kind refl) d

-- whether a layer may be scrolled, by numbers that the code tells
may_told : (r : Option Rectangle) (l : Layer) (dx dy told_x told_y : ℤ) (done may : Bool) → told_x ≡ dx → told_y ≡ dy → done ≡ may_scroll r told_x told_y l → done ≡ may → may_scroll r dx dy l ≡ may
may_told r l dx dy told_x told_y done may same_x same_y fits is =
    sym (ap (λ z. may_scroll r z told_y l) same_x ∙ ap (λ z. may_scroll r dx z l) same_y) ∙ (sym fits ∙ is)

-- and none to a portion outside of its bitmap
pub scroll_outside : (slot : ℕ) (c : LiveView) (dx dy told_x told_y : ℤ) (done : Bool) → told_x ≡ dx → told_y ≡ dy → is_super c.layer.kind ≡ true → done ≡ may_scroll (Some c.bounds) told_x told_y c.layer → done ≡ false → IsOpenStep slot c (Scroll slot dx dy) OutOfBounds c
scroll_outside slot c dx dy told_x told_y done same_x same_y kind fits outside =
    λ d task.
    let may : may_scroll (Some c.bounds) dx dy c.layer ≡ false = may_told (Some c.bounds) c.layer dx dy told_x told_y done false same_x same_y fits outside in
    further_step task slot c (Scroll slot dx dy) OutOfBounds refl (λ e live. scroll_refusal e slot c dx dy true false live kind may) d

-- a scroll
pub scroll_step : (slot : ℕ) (c : LiveView) (dx dy told_x told_y : ℤ) (done : Bool) → told_x ≡ dx → told_y ≡ dy → is_super c.layer.kind ≡ true → done ≡ may_scroll (Some c.bounds) told_x told_y c.layer → done ≡ true → IsOpenStep slot c (Scroll slot dx dy) Done (with_layer (scroll_layer told_x told_y) c)
scroll_step slot c dx dy told_x told_y done same_x same_y kind fits inside =
    λ d task live.
    let may : may_scroll (Some c.bounds) dx dy c.layer ≡ true = may_told (Some c.bounds) c.layer dx dy told_x told_y done true same_x same_y fits inside in
    let same : scroll_layer dx dy c.layer ≡ scroll_layer told_x told_y c.layer = sym (ap (λ z. scroll_layer z told_y c.layer) same_x ∙ ap (λ z. scroll_layer dx z c.layer) same_y) in
    changed_step d task slot (Scroll slot dx dy) Done c (scroll_layer dx dy) (scroll_layer told_x told_y) live
    (open_refusal d task slot (Scroll slot dx dy) c.layer refl live.slot ∙ scroll_refusal d slot c dx dy true true live kind may)
    refl refl same

-- whether the layer has a bitmap of its own, by its look
pub kind_told : (c : LiveView) (k : Look) (r own : Bool) → IsLook c k → r ≡ is_super k.kind → r ≡ own → is_super c.layer.kind ≡ own
kind_told c k r own looks is told = sym (is ∙ ap is_super looks.kind) ∙ told
