-- A call's reply, and what it touches after it, are functions of what it touches before it.
use Rattle.std.proofs.Common.{◌≡◌, ℕ, ◌==◌, ◌*◌, ◌<◌, ◌≤◌, Bool, true, false, not, if◌then◌else◌, List, [], length, pos, ◌+ℤ◌}
use Rattle.std.proofs.Common.{int_le, unsigned_abs, Option, Some, None, slice_index_or, nat_lt, IsTrue, refl, sym, ap, ap₂, subst}
use Rattle.std.proofs.Common.{◌∙◌, ⊎_elim, arith, eq-eqb}
use Rattle.std.proofs.lemmas.Bool.{false≢true, cases_lt, ltb-true, and_parts}
use Rattle.lw_region.specs.Pixels.{Pixel}
use Rattle.lw_planes.specs.Bitmap.{pen_at}
use Rattle.lw_calls.specs.declared.call.Call.{Call}
use Rattle.lw_calls.specs.declared.call.Call.TheVariants.{RegRect, RegPair, RegClear, InFrontOf, Which, SetA, SetB, SetMode}
use Rattle.lw_calls.specs.declared.call.Call.TheVariants.{SetMask, At, WritePixel, ReadPixel, Fill, DrawTo, Letters, SetRast}
use Rattle.lw_calls.specs.declared.call.Call.TheVariants.{ScrollRaster, Put, Blit, Clip, Unclip, BeginRefresh, EndRefresh, Scroll}
use Rattle.lw_calls.specs.declared.call.Call.TheVariants.{SetTitle, TakeMessage}
use Rattle.lw_calls.specs.declared.reply.Reply.{Reply}
use Rattle.lw_calls.specs.declared.reply.Reply.TheVariants.{Done, Pen, Outside, NotSuper, InUpdate, NotInUpdate, OutOfBounds}
use Rattle.lw_calls.specs.declared.reply.Reply.TheVariants.{TooManyRects}
use Rattle.lw_calls.specs.declared.sizes.Sizes.{Sizes}
use Rattle.lw_calls.specs.declared.touch.Role.{Role}
use Rattle.lw_calls.specs.declared.touch.Role.TheVariants.{Task, Slot as SlotRole, Info}
use Rattle.lw_calls.specs.declared.touch.Slots.TheVariants.{One, All}
use Rattle.lw_calls.specs.declared.touch.Touch.{Touch}
use Rattle.lw_calls.specs.declared.area.Area.{Area}
use Rattle.lw_calls.specs.Limits.{call_fits}
use Rattle.lw_machine.specs.Layer.{Layer, layer_is, change_layer}
use Rattle.lw_calls.specs.Kinds.{is_super}
use Rattle.lw_machine.specs.Desk.{Desk, with_value}
use Rattle.lw_machine.specs.Screen.{top_at, top}
use Rattle.lw_machine.specs.Kept.{is_visible, visible_within, is_drawable, is_kept, holds_at}
use Rattle.lw_machine.specs.Shapes.{write_pixel, rect_fill, draw_line, draw_text, set_rast}
use Rattle.lw_machine.specs.Blits.{blt_bitmap_rast_port, scroll_raster}
use Rattle.lw_machine.specs.Registers.{rect_result, pair_result, has_too_many}
use Rattle.lw_machine.specs.Reveal.{settled}
use Rattle.lw_machine.specs.Step.{refuse, refuse_not_open, refuse_not_owner, refuse_not_window, refuse_unless_open, may_scroll}
use Rattle.lw_machine.specs.Step.{refusal, on_layer, with_register, clip_blit_from, set_window_titles, no_bitmap, effect, found}
use Rattle.lw_machine.specs.Step.{from_layer, clip_answer, window_answer, answer, changed_unless, reply_or, after, reply}
use Rattle.lw_calls.specs.Touches.{has_slot, slots_in, slots_of, touch_of}
use Rattle.lw_calls.proofs.BlitClass.{blit_class, touches_source, touches_destination}
use Rattle.lw_calls.specs.Plan.{is_all}
use Rattle.lw_machine.specs.Parts.{slot_part, info_part, HaveSame, IsRoleOf, AgreeOn}
use Rattle.lw_machine.specs.Sound.{IsDesk}
use Rattle.lw_machine.specs.Laws.{IsSameStep}
use Rattle.lw_machine.proofs.Untouched.{if_in_front}
use Rattle.lw_machine.proofs.ReachedSound.{after_sizes}

-- A call does the same on two desks: it is refused and answered alike, and a part that was the same is the same after it.
record DoesSame (d e : Desk) (task : ℕ) (call : Call) : Type 0 where
  refuses : refusal d task call ≡ refusal e task call
  answers : answer d task call ≡ answer e task call
  parts : (r : Role) → HaveSame r d e → HaveSame r (effect d task call) (effect e task call)

-- What a call on a layer reads is the same on two desks.
record IsSeen (d e : Desk) (task slot : ℕ) : Type 0 where
  assets : d.assets ≡ e.assets
  registers : d.registers task ≡ e.registers task
  part : slot_part d slot ≡ slot_part e slot
  state : d.slot slot ≡ e.slot slot
  visible : is_visible d slot ≡ is_visible e slot

-- the pixels that a layer shows are told by its slot's part
same_visible : (d e : Desk) (s : ℕ) → slot_part d s ≡ slot_part e s → is_visible d s ≡ is_visible e s
unfolding is_visible
same_visible d e s p = λ i l x y. visible_within (p i).shown (p i).bounds l.scroll_x l.scroll_y x y

-- what a call on a layer reads, from the slot's part
seen : (d e : Desk) (task slot : ℕ) → d.assets ≡ e.assets → d.registers task ≡ e.registers task
    → slot_part d slot ≡ slot_part e slot → IsSeen d e task slot
seen d e task slot s q p =
    record { assets = s; registers = q; part = p; state = λ i. (p i).slot; visible = same_visible d e slot p }

-- after two changes of one slot that are the same, each part that was the same is the same
layer_changed : (d e : Desk) (slot : ℕ) (f g : Layer → Layer) → d.slot slot ≡ e.slot slot → f ≡ g → (r : Role) → HaveSame r d e
    → HaveSame r (on_layer d slot f) (on_layer e slot g)
unfolding top
layer_changed d e slot f g p q (Task t) h = h
layer_changed d e slot f g p q (SlotRole s) h =
    λ i. record {
      slot = if s == slot then change_layer (q i) (p i) else (h i).slot;
      bounds = (h i).bounds;
      shown = (h i).shown;
      active =
          (h i).active;
    }
layer_changed d e slot f g p q Info h = h

-- after two changes of one register that are the same, each part that was the same is the same
register_changed : (d e : Desk) (task register : ℕ) (f : (ℕ → List Pixel) → List Pixel) → d.registers task ≡ e.registers task
    → (r : Role) → HaveSame r d e
    → HaveSame r (with_register d task register (f (d.registers task))) (with_register e task register (f (e.registers task)))
unfolding top
register_changed d e task register f q (Task t) h =
    λ i. if t == task then with_value register (f (q i)) (q i) else h i
register_changed d e task register f q (SlotRole s) h = h
register_changed d e task register f q Info h = h

-- both desks refuse a call where the slot isn't open
opens : (d e : Desk) (task slot : ℕ) → IsSeen d e task slot
    → refuse_not_open (d.slot slot) None ≡ refuse_not_open (e.slot slot) None
opens d e task slot v = ap (λ s. refuse_not_open s None) v.state

-- what a call on one layer reads is the same where two desks agree on what it touches
seen_at : (d e : Desk) (task slot : ℕ) → AgreeOn (record { task = task; info = false; slots = One slot }) d e
    → nat_lt slot d.sizes.slots ≡ true → IsSeen d e task slot
seen_at d e task slot a h =
    seen d e task slot a.assets (a.parts (Task task) (eq-eqb task task refl) tt)
    (a.parts (SlotRole slot) (eq-eqb slot slot refl) (ltb-true _ _ h))

-- the calling task's registers are the same where two desks agree on what its call touches
own_registers : (d e : Desk) (task : ℕ) (call : Call) → AgreeOn (touch_of task call) d e → d.registers task ≡ e.registers task
own_registers d e task call a = a.parts (Task task) (eq-eqb task task refl) tt

-- a blit is refused alike where its layers are the same
blit_refused : (d e : Desk) (source slot : ℕ) (same : Bool) → d.slot source ≡ e.slot source → d.slot slot ≡ e.slot slot
    → refuse_unless_open d (slots_in (blit_class same source slot)) None
    ≡ refuse_unless_open e (slots_in (blit_class same source slot)) None
blit_refused d e source slot true from to = λ i. refuse_not_open (to i) None
blit_refused d e source slot false from to = λ i. refuse_not_open (from i) (refuse_not_open (to i) None)

-- what a blit reads of its source, or of its destination, is the same where two desks agree on what it touches
seen_blit : (d e : Desk) (task source slot s : ℕ) (area : Area) → AgreeOn (touch_of task (Blit source slot area)) d e
    → has_slot (slots_of (Blit source slot area)) s ≡ true → nat_lt s d.sizes.slots ≡ true → IsSeen d e task s
seen_blit d e task source slot s area a t h =
    seen d e task s a.assets (own_registers d e task (Blit source slot area) a) (a.parts (SlotRole s) t (ltb-true _ _ h))

-- an arrangement is refused alike whatever the registers
refusal_without : (d : Desk) (f : ℕ → ℕ → List Pixel) (task : ℕ) (call : Call) → is_all (slots_of call) ≡ true
    → refusal (record d { registers = f }) task call ≡ refusal d task call
refusal_without d f task (RegRect op register rect) h = absurd (false≢true h)
refusal_without d f task (RegPair op source into) h = absurd (false≢true h)
refusal_without d f task call h = refl

-- a call is answered alike whatever the registers
answer_without : (d : Desk) (f : ℕ → ℕ → List Pixel) (task : ℕ) (call : Call)
    → answer (record d { registers = f }) task call ≡ answer d task call
unfolding top is_visible
answer_without d f task (Which x y) = refl
answer_without d f task call = refl

-- a slot put in front of another, or of itself, settles alike whatever the registers
front_without : (d : Desk) (f : ℕ → ℕ → List Pixel) (order : List ℕ) (same : Bool)
    → settled (record d { registers = f })
    (if same then record d { registers = f } else record d { registers = f; front_to_back = order })
    ≡ record (settled d (if same then d else record d { front_to_back = order })) { registers = f }
unfolding top
front_without d f order true = refl
front_without d f order false = refl

-- an arrangement does the same whatever the registers
effect_without : (d : Desk) (f : ℕ → ℕ → List Pixel) (task : ℕ) (call : Call) → is_all (slots_of call) ≡ true
    → effect (record d { registers = f }) task call ≡ record (effect d task call) { registers = f }
unfolding top is_visible
effect_without d f task (RegRect op register rect) h = absurd (false≢true h)
effect_without d f task (RegPair op source into) h = absurd (false≢true h)
effect_without d f task (RegClear register) h = absurd (false≢true h)
effect_without d f task (Clip slot register) h = absurd (false≢true h)
effect_without d f task (InFrontOf slot other) h = front_without d f _ (slot == other)
effect_without d f task call h = refl

-- an arrangement leaves all registers
registers_stay : (d : Desk) (task : ℕ) (call : Call) → is_all (slots_of call) ≡ true
    → (effect d task call).registers ≡ d.registers
registers_stay d task (RegRect op register rect) h = absurd (false≢true h)
registers_stay d task (RegPair op source into) h = absurd (false≢true h)
registers_stay d task (RegClear register) h = absurd (false≢true h)
registers_stay d task (InFrontOf slot other) h =
    if_in_front (λ a. a.registers ≡ d.registers) d _ (slot == other) refl refl
registers_stay d task call h = refl

-- two sound desks have the same slots, where those below their number are the same
same_slots : (d e : Desk) → IsDesk d → IsDesk e → d.sizes ≡ e.sizes
    → ((s : ℕ) → s < d.sizes.slots → slot_part d s ≡ slot_part e s) → (s : ℕ) → d.slot s ≡ e.slot s
same_slots d e sound other sizes same s =
    ⊎_elim (λ below. ap (λ p. p.slot) (same s below)) unopened (cases_lt s d.sizes.slots)
  where
    unopened : d.sizes.slots ≤ s → d.slot s ≡ e.slot s
    unopened beyond =
        let few : d.sizes.slots ≡ e.sizes.slots = ap (λ z. z.slots) sizes in
        sound.beyond s beyond ∙ sym (other.beyond s (omega arith))

-- what a call that touches all layers touches
abbrev arranging : ℕ → Touch
arranging task = record { task = task; info = true; slots = All }

-- two sound desks that agree on what an arrangement touches differ in other tasks' registers alone
same_but_registers : (d e : Desk) (task : ℕ) → IsDesk d → IsDesk e → AgreeOn (arranging task) d e
    → record d { registers = e.registers } ≡ e
same_but_registers d e task sound other a =
    let info : info_part d ≡ info_part e = a.parts Info refl tt in
    let slots = same_slots d e sound other a.sizes (λ s below. a.parts (SlotRole s) refl below) in
    λ i. record {
      sizes = a.sizes i;
      assets = a.assets i;
      front_to_back = (info i).front_to_back;
      bounds = (info i).bounds;
      active =
          (info i).active;
      shelf = (info i).shelf;
      slot = λ s. slots s i;
      registers = e.registers;
    }

-- An arrangement does the same on two sound desks that agree on what it touches.
arrangement : (d e : Desk) (task : ℕ) (call : Call) → is_all (slots_of call) ≡ true → IsDesk d → IsDesk e
    → AgreeOn (arranging task) d e → DoesSame d e task call
unfolding top
arrangement d e task call h sound other a =
    let p = same_but_registers d e task sound other a in
    let q : record (effect d task call) { registers = e.registers } ≡ effect e task call =
    sym (effect_without d e.registers task call h) ∙ ap (λ x. effect x task call) p in
    record {
      refuses = sym (refusal_without d e.registers task call h) ∙ ap (λ x. refusal x task call) p;
      answers = sym (answer_without d e.registers task call) ∙ ap (λ x. answer x task call) p;
      parts = go q;
    }
  where
    go : record (effect d task call) { registers = e.registers } ≡ effect e task call → (r : Role) → HaveSame r d e
        → HaveSame r (effect d task call) (effect e task call)
    go q (Task t) same =
        ap (λ f. f t) (registers_stay d task call h) ∙ same ∙ sym (ap (λ f. f t) (registers_stay e task call h))
    go q (SlotRole s) same = λ i. slot_part (q i) s
    go q Info same = λ i. info_part (q i)

-- A call does the same on two sound desks that agree on what it touches.
same_call : (d e : Desk) (task : ℕ) (call : Call) → IsDesk d → IsDesk e → IsTrue (call_fits d.sizes call)
    → AgreeOn (touch_of task call) d e → DoesSame d e task call
unfolding top
same_call d e task (RegRect op register rect) sound other fits a =
    let q = own_registers d e task (RegRect op register rect) a in
    record {
      refuses = λ i. refuse (has_too_many (rect_result op (q i register) rect)) TooManyRects None;
      answers = refl;
      parts = register_changed d e task register (λ f. rect_result op (f register) rect) q;
    }
same_call d e task (RegPair op source into) sound other fits a =
    let q = own_registers d e task (RegPair op source into) a in
    record {
      refuses = λ i. refuse (has_too_many (pair_result op (q i source) (q i into))) TooManyRects None;
      answers = refl;
      parts = register_changed d e task into (λ f. pair_result op (f source) (f into)) q;
    }
same_call d e task (RegClear register) sound other fits a =
    record {
      refuses =
          refl;
      answers = refl;
      parts =
          register_changed d e task register (λ f. []) (own_registers d e task (RegClear register) a);
    }
same_call d e task (Which x y) sound other fits a =
    let info : info_part d ≡ info_part e = a.parts Info refl tt in
    record {
      refuses =
          refl;
      answers = λ i. found (top_at (a.sizes i) (info i).bounds (info i).front_to_back x y);
      parts = λ r h. h;
    }
same_call d e task (SetA slot pen) sound other fits a =
    let v = seen_at d e task slot a (and_parts _ _ fits).0 in
    record { refuses = opens d e task slot v; answers = refl; parts = layer_changed d e slot _ _ v.state refl }
same_call d e task (SetB slot pen) sound other fits a =
    let v = seen_at d e task slot a (and_parts _ _ fits).0 in
    record { refuses = opens d e task slot v; answers = refl; parts = layer_changed d e slot _ _ v.state refl }
same_call d e task (SetMode slot mode) sound other fits a =
    let v = seen_at d e task slot a (and_parts _ _ fits).0 in
    record { refuses = opens d e task slot v; answers = refl; parts = layer_changed d e slot _ _ v.state refl }
same_call d e task (SetMask slot mask) sound other fits a =
    let v = seen_at d e task slot a (and_parts _ _ fits).0 in
    record { refuses = opens d e task slot v; answers = refl; parts = layer_changed d e slot _ _ v.state refl }
same_call d e task (At slot x y) sound other fits a =
    let v = seen_at d e task slot a (and_parts _ _ fits).0 in
    record { refuses = opens d e task slot v; answers = refl; parts = layer_changed d e slot _ _ v.state refl }
same_call d e task (WritePixel slot x y) sound other fits a =
    let v = seen_at d e task slot a (and_parts _ _ fits).0 in
    record {
      refuses = opens d e task slot v;
      answers = λ i. from_layer (λ l. if holds_at (is_drawable (v.visible i l) l) x y then Done else Outside) (v.state i);
      parts = layer_changed d e slot _ _ v.state (λ i l. write_pixel (v.visible i l) x y l);
    }
same_call d e task (ReadPixel slot x y) sound other fits a =
    let v = seen_at d e task slot a (and_parts _ _ fits).0 in
    record {
      refuses = opens d e task slot v;
      answers = λ i. from_layer
          (λ l. if holds_at (is_kept (v.visible i l) l) x y then Pen (pen_at l.bits (unsigned_abs x) (unsigned_abs y))
          else Outside) (v.state i);
      parts = λ r h. h;
    }
same_call d e task (Fill slot rect) sound other fits a =
    let v = seen_at d e task slot a (and_parts _ _ fits).0 in
    record {
      refuses = opens d e task slot v;
      answers = refl;
      parts = layer_changed d e slot _ _ v.state (λ i l. rect_fill (v.visible i l) rect l);
    }
same_call d e task (DrawTo slot x y) sound other fits a =
    let v = seen_at d e task slot a (and_parts _ _ fits).0 in
    record {
      refuses = opens d e task slot v;
      answers = refl;
      parts = layer_changed d e slot _ _ v.state (λ i l. draw_line (v.visible i l) x y l);
    }
same_call d e task (Letters slot text) sound other fits a =
    let v = seen_at d e task slot a fits in
    record {
      refuses = λ i. refuse_not_open (v.state i)
          (refuse (layer_is (λ l. not (int_le (l.raster.cursor_x +ℤ pos (8 * length text)) (pos 32767))) (v.state i)) OutOfBounds
          None);
      answers = refl;
      parts = layer_changed d e slot _ _ v.state (λ i l. draw_text (v.assets i).glyphs (v.visible i l) text l);
    }
same_call d e task (SetRast slot pen) sound other fits a =
    let v = seen_at d e task slot a (and_parts _ _ fits).0 in
    record {
      refuses = opens d e task slot v;
      answers = refl;
      parts = layer_changed d e slot _ _ v.state (λ i l. set_rast (v.visible i l) pen l);
    }
same_call d e task (ScrollRaster slot dx dy rect) sound other fits a =
    let v = seen_at d e task slot a (and_parts _ _ fits).0 in
    record {
      refuses = opens d e task slot v;
      answers = refl;
      parts = layer_changed d e slot _ _ v.state (λ i l. scroll_raster (v.visible i l) dx dy rect l);
    }
same_call d e task (Put bitmap slot area) sound other fits a =
    let v = seen_at d e task slot a (and_parts _ _ (and_parts _ _ fits).1).0 in
    record {
      refuses = opens d e task slot v;
      answers = refl;
      parts = layer_changed d e slot _ _ v.state
          (λ i l. blt_bitmap_rast_port (slice_index_or (v.assets i).bitmaps bitmap no_bitmap) (v.visible i l) area l);
    }
same_call d e task (Clip slot register) sound other fits a =
    let v = seen_at d e task slot a (and_parts _ _ fits).0 in
    record {
      refuses = λ i. refuse_not_open (v.state i) (refuse (layer_is (λ l. l.updating) (v.state i)) InUpdate None);
      answers = λ i. from_layer (λ l. clip_answer l.clip) (v.state i);
      parts = layer_changed d e slot _ _ v.state (λ i l. record l { clip = Some (v.registers i register) });
    }
same_call d e task (Unclip slot) sound other fits a =
    let v = seen_at d e task slot a fits in
    record {
      refuses = λ i. refuse_not_open (v.state i) (refuse (layer_is (λ l. l.updating) (v.state i)) InUpdate None);
      answers = λ i. from_layer (λ l. clip_answer l.clip) (v.state i);
      parts = layer_changed d e slot _ _ v.state refl;
    }
same_call d e task (BeginRefresh slot) sound other fits a =
    let v = seen_at d e task slot a fits in
    record {
      refuses = λ i. refuse_not_open (v.state i)
          (refuse_not_owner task (v.state i) (refuse (layer_is (λ l. l.updating) (v.state i)) InUpdate None));
      answers = refl;
      parts = layer_changed d e slot _ _ v.state refl;
    }
same_call d e task (EndRefresh slot full) sound other fits a =
    let v = seen_at d e task slot a fits in
    record {
      refuses = λ i. refuse_not_open (v.state i)
          (refuse_not_owner task (v.state i) (refuse (layer_is (λ l. not l.updating) (v.state i)) NotInUpdate None));
      answers = refl;
      parts = layer_changed d e slot _ _ v.state refl;
    }
same_call d e task (Scroll slot dx dy) sound other fits a =
    let v = seen_at d e task slot a (and_parts _ _ fits).0 in
    record {
      refuses = λ i. refuse_not_open (v.state i)
          (refuse (layer_is (λ l. not (is_super l.kind)) (v.state i)) NotSuper
          (refuse (layer_is (λ l. not (may_scroll (v.part i).bounds dx dy l)) (v.state i)) OutOfBounds None));
      answers = refl;
      parts = layer_changed d e slot _ _ v.state refl;
    }
same_call d e task (SetTitle slot title) sound other fits a =
    let v = seen_at d e task slot a fits in
    record {
      refuses = λ i. refuse_not_open (v.state i) (refuse_not_window (v.state i) (refuse_not_owner task (v.state i) None));
      answers = refl;
      parts = layer_changed d e slot _ _ v.state
          (λ i l. set_window_titles (v.assets i).glyphs (v.visible i l) (v.part i).active title l);
    }
same_call d e task (TakeMessage slot) sound other fits a =
    let v = seen_at d e task slot a fits in
    record {
      refuses = λ i. refuse_not_open (v.state i) (refuse_not_window (v.state i) (refuse_not_owner task (v.state i) None));
      answers = λ i. from_layer (λ l. window_answer l.window) (v.state i);
      parts = layer_changed d e slot _ _ v.state refl;
    }
same_call d e task (Blit source slot area) sound other fits a =
    let v = seen_blit d e task source slot source area a (touches_source source slot (source == slot) refl)
    (and_parts _ _ fits).0 in
    let w = seen_blit d e task source slot slot area a (touches_destination source slot (source == slot))
    (and_parts _ _ (and_parts _ _ fits).1).0 in
    record {
      refuses = blit_refused d e source slot (source == slot) v.state w.state;
      answers = refl;
      parts = layer_changed d e slot _ _ w.state (λ i l. clip_blit_from (v.state i) (v.visible i) (w.visible i l) area l);
    }
same_call d e task call sound other fits a = arrangement d e task call refl sound other a

-- a call leaves what the script handed in
assets_stay : (d : Desk) (task : ℕ) (call : Call) → (effect d task call).assets ≡ d.assets
assets_stay d task (InFrontOf slot other) =
    if_in_front (λ a. a.assets ≡ d.assets) d _ (slot == other) refl refl
assets_stay d task call = refl

-- what a call leaves where it isn't refused, a step leaves
unless_stays : {A : Type 0} (f : Desk → A) (refused : Option Reply) (d a : Desk) → f a ≡ f d
    → f (changed_unless refused d a) ≡ f d
unless_stays f None d a h = h
unless_stays f (Some reply) d a h = refl

-- a step leaves what the script handed in
pub after_assets : (d : Desk) (task : ℕ) (call : Call) → (after d task call).assets ≡ d.assets
unfolding after
after_assets d task call =
    unless_stays (λ a. a.assets) (refusal d task call) d (effect d task call) (assets_stay d task call)

-- where two desks refuse a call alike, a part that is the same before it, and after its effect, is the same after its step
both_refused : (o p : Option Reply) → o ≡ p → (r : Role) (d e a b : Desk) → HaveSame r d e → HaveSame r a b
    → HaveSame r (changed_unless o d a) (changed_unless p e b)
both_refused o p q r d e a b h k =
    let P : Option Reply → Type 0 = λ x. HaveSame r (changed_unless o d a) (changed_unless x e b) in subst P q (alike o)
  where
    alike : (x : Option Reply) → HaveSame r (changed_unless x d a) (changed_unless x e b)
    alike None = k
    alike (Some reply) = h

-- a role for the sizes after a step is one for those before
same_role : (s t : Sizes) → s ≡ t → (r : Role) → IsRoleOf s r → IsRoleOf t r
same_role s t p r h = subst (λ z. IsRoleOf z r) p h

-- a part that was the same is the same after a step that does the same
part_after : (d e : Desk) (task : ℕ) (call : Call) → DoesSame d e task call → (r : Role) → HaveSame r d e
    → HaveSame r (after d task call) (after e task call)
unfolding after
part_after d e task call s r h =
    both_refused (refusal d task call) (refusal e task call) s.refuses r d e (effect d task call) (effect e task call) h
    (s.parts r h)

-- a step that does the same replies the same
reply_same : (d e : Desk) (task : ℕ) (call : Call) → DoesSame d e task call → reply d task call ≡ reply e task call
unfolding reply
reply_same d e task call s = ap₂ reply_or s.refuses s.answers

-- A call's reply, and what it touches after it, are functions of what it touches before it.
pub steps_alike : (d e : Desk) (task : ℕ) (call : Call) → IsDesk d → IsDesk e → IsTrue (call_fits d.sizes call)
    → AgreeOn (touch_of task call) d e → IsSameStep task call d e
steps_alike d e task call sound other fits a =
    let s = same_call d e task call sound other fits a in
    record {
      replies = reply_same d e task call s;
      parts = record {
        sizes = after_sizes d task call ∙ a.sizes ∙ sym (after_sizes e task call);
        assets = after_assets d task call ∙ a.assets ∙ sym (after_assets e task call);
        parts = λ r t k. part_after d e task call s r (a.parts r t (same_role _ _ (after_sizes d task call) r k));
      };
    }
