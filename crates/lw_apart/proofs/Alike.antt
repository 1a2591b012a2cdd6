-- Two desks that are alike to a task: a call of the task does the same on both, and a call of another task leaves them so.
use Rattle.std.proofs.Common.{◌≡◌, ℕ, ◌==◌, Bool, true, false, ◌∷◌, Some, None, refl, sym, ap, ◌∙◌, option_and_then}
use Rattle.std.specs.Prelude.{if◌then◌else◌, not, ℤ, unsigned_abs}
use Rattle.std.specs.List.{filter}
use Rattle.std.proofs.lemmas.Bool.{eq-eqb}
use Rattle.lw_planes.specs.Bitmap.{pen_at}
use Rattle.lw_calls.specs.declared.make.Make.{Make}
use Rattle.lw_calls.specs.declared.call.Call.{Call}
use Rattle.lw_calls.specs.declared.call.Call.TheVariants.{Create, ToFront, SetA, ReadPixel, Fill}
use Rattle.lw_calls.specs.declared.reply.Reply.TheVariants.{Pen, Outside, NotOpen, AlreadyOpen, OutOfBounds, Backdrop}
use Rattle.lw_calls.specs.Orders.{occurrences}
use Rattle.lw_machine.specs.Layer.{Layer, Slot, Unopened, Live, Closed, may_open, is_live, layer_is, change_layer}
use Rattle.lw_machine.specs.Desk.{Desk}
use Rattle.lw_machine.specs.Screen.{is_shown}
use Rattle.lw_machine.specs.Kept.{visible_within, is_visible, is_kept, holds_at}
use Rattle.lw_machine.specs.Shapes.{rect_fill}
use Rattle.lw_machine.specs.Arrangement.{bounds_of, new_layer, hook_from, without, placed, has_backdrop, may_have_bounds}
use Rattle.lw_machine.specs.Arrangement.{arranged}
use Rattle.lw_machine.specs.Reveal.{across, settled_layer, settled}
use Rattle.lw_machine.specs.Step.{refuse, refuse_not_open, with_pen_a, on_layer, refusal, effect, from_layer, answer}
use Rattle.lw_machine.specs.Sound.{IsDesk}
use Rattle.lw_machine.proofs.ListSound.{place_same}
use Rattle.lw_machine.proofs.LayerCallSound.{live_stays}
use Rattle.lw_apart.specs.Apart.{Shares, IsOwn}
use Rattle.lw_apart.proofs.Plain.{plain, bare, still, bare_reveal, fill_shown, filled_bare}
use Rattle.lw_apart.proofs.SlotLists.{own_member, own_placed, own_front}
use Rattle.lw_apart.proofs.Tops.{same_shown}
use Rattle.lw_apart.proofs.Slots.{bare_slot, bare_may_open, bare_backdrop, changed_bare, settled_bare, listed_before}
use Rattle.lw_apart.proofs.Slots.{slot_settled, slot_stays}
use Rattle.lw_apart.proofs.Shared.{IsOrdinary, IsShared, created_ordinary}

-- The one desk has the task's layers, but for their damage, as the other has them among others: in the same order, with the same
-- bounds and pens.
pub record IsAlike (shares : Shares) (task : ℕ) (d e : Desk) : Type 0 where
  pub sizes : d.sizes ≡ e.sizes
  pub list : e.front_to_back ≡ filter (λ s. shares.slot s == task) d.front_to_back
  pub bounds : (s : ℕ) → (shares.slot s == task) ≡ true → d.bounds s ≡ e.bounds s
  pub slots : (s : ℕ) → (shares.slot s == task) ≡ true → bare_slot (d.slot s) ≡ bare_slot (e.slot s)

-- its layers are then shown on the same places
pub alike_shown : (shares : Shares) (task : ℕ) (d e : Desk) → IsOrdinary shares d → IsAlike shares task d e → (s : ℕ)
    → (shares.slot s == task) ≡ true → is_shown d s ≡ is_shown e s
alike_shown shares task d e ok alike s mine =
    same_shown shares task d e
    (record { sizes = alike.sizes; list = alike.list; bounds = alike.bounds; columns = ok.columns }) s mine

-- what two slots tell alike
alike_may_open : (version : ℕ) (x y : Slot) → bare_slot x ≡ bare_slot y → may_open version x ≡ may_open version y
alike_may_open version x y same = sym (bare_may_open version x) ∙ (ap (may_open version) same ∙ bare_may_open version y)

alike_live : (x y : Slot) → bare_slot x ≡ bare_slot y → is_live x ≡ is_live y
alike_live x y same = sym (live_stays bare x) ∙ (ap is_live same ∙ live_stays bare y)

alike_backdrop : (x y : Slot) → bare_slot x ≡ bare_slot y → layer_is (λ l. l.backdrop) x ≡ layer_is (λ l. l.backdrop) y
alike_backdrop x y same = sym (bare_backdrop x) ∙ (ap (layer_is (λ l. l.backdrop)) same ∙ bare_backdrop y)

module _ (shares : Shares) (task : ℕ) where
  -- Two desks that are alike, arranged so that they are alike, are settled alike.
  settled_alike : (d e a b : Desk) → IsOrdinary shares d → IsOrdinary shares a → IsOrdinary shares b → IsAlike shares task d e
      → IsAlike shares task a b
      → ((s : ℕ) → occurrences s a.front_to_back ≡ (if is_live (a.slot s) then 1 else 0))
      → ((s : ℕ) → occurrences s b.front_to_back ≡ (if is_live (b.slot s) then 1 else 0))
      → IsAlike shares task (settled d a) (settled e b)
  settled_alike d e a b ok arranged_ok other_ok before alike listed other_listed =
      record { sizes = alike.sizes; list = alike.list; bounds = alike.bounds; slots = slots }
    where
      slots : (s : ℕ) → (shares.slot s == task) ≡ true → bare_slot ((settled d a).slot s) ≡ bare_slot ((settled e b).slot s)
      slots s mine =
          let shown = alike_shown shares task d e ok before s mine in
          let new_shown = alike_shown shares task a b arranged_ok alike s mine in
          let same : still (across d a s) ≡ still (across e b s) =
          λ i. record {
            bounds = before.bounds s mine i;
            new_bounds = alike.bounds s mine i;
            shown = shown i;
            new_shown =
                new_shown i;
            active = false;
            new_active = false;
          } in
          ap bare_slot (slot_settled d a s (listed s))
          ∙ (changed_bare (settled_layer d.assets.glyphs (across d a s)) (bare_reveal (still (across d a s)))
          (settled_bare d.assets.glyphs (across d a s)) (a.slot s) (arranged_ok.plain s)
          ∙ ((λ i. change_layer (bare_reveal (same i)) (alike.slots s mine i))
          ∙ sym (ap bare_slot (slot_settled e b s (other_listed s))
          ∙ changed_bare (settled_layer e.assets.glyphs (across e b s)) (bare_reveal (still (across e b s)))
          (settled_bare e.assets.glyphs (across e b s)) (b.slot s) (other_ok.plain s))))

  -- A desk that is arranged without touching the task's layers is settled so.
  pub settled_beside : (d e a : Desk) → IsOrdinary shares d → IsOrdinary shares a → IsShared shares e → IsAlike shares task d e
      → IsAlike shares task a e
      → ((s : ℕ) → occurrences s a.front_to_back ≡ (if is_live (a.slot s) then 1 else 0)) → IsAlike shares task (settled d a) e
  settled_beside d e a ok arranged_ok other before alike listed =
      let both = settled_alike d e a e ok arranged_ok other.ordinary before alike listed other.sound.listed in
      record {
        sizes =
            both.sizes;
        list = both.list;
        bounds = both.bounds;
        slots =
            λ s mine. both.slots s mine ∙ slot_stays e s other.sound (other.ordinary.plain s);
      }

  -- a slot with a new layer in it, or another one, on both desks
  created_alike : (d e : Desk) (mover slot : ℕ) (make : Make) → IsOwn shares mover (Create slot make)
      → (shares.slot slot == task) ≡ true → IsDesk d → IsAlike shares task d e
      → IsAlike shares task (arranged d mover (Create slot make)) (arranged e mover (Create slot make))
  created_alike d e mover slot make own mine sound alike = record {
    sizes = alike.sizes;
    list =
        ap (placed (has_backdrop e) make.backdrop make.place slot) alike.list
        ∙ (place_same (has_backdrop e) (has_backdrop d) make.backdrop make.place slot
        (filter (λ s. shares.slot s == task) d.front_to_back)
        (λ t has. let ours =
        own_member (λ s. shares.slot s == task) t d.front_to_back has in
        alike_backdrop (e.slot t) (d.slot t) (sym (alike.slots t ours)))
        ∙ sym (own_placed (λ s. shares.slot s == task)
        (has_backdrop d) make.backdrop make.place slot d.front_to_back mine sound.backdrops));
    bounds = λ s ours. λ i. if s == slot then Some (bounds_of make) else alike.bounds s ours i;
    slots = λ s ours. slots s ours (s == slot);
  }
    where
      new : Desk → Slot
      new f = Live (new_layer f.sizes.depth make (hook_from f.shelf make.hook) None)

      slots : (s : ℕ) → (shares.slot s == task) ≡ true → (b : Bool)
          → bare_slot (if b then new d else d.slot s) ≡ bare_slot (if b then new e else e.slot s)
      slots s ours true =
          let none = ap (option_and_then d.shelf) own.1 ∙ sym (ap (option_and_then e.shelf) own.1) in
          λ i. bare_slot (Live (new_layer (alike.sizes i).depth make (none i) None))
      slots s ours false = alike.slots s ours

  -- a call on one layer of the task
  layer_alike : (d e : Desk) (slot : ℕ) (f g h : Layer → Layer) → ((l : Layer) → bare (f (plain l)) ≡ h (bare (plain l)))
      → ((l : Layer) → bare (g (plain l)) ≡ h (bare (plain l)))
      → IsOrdinary shares d → IsOrdinary shares e → (shares.slot slot == task) ≡ true → IsAlike shares task d e
      → IsAlike shares task (on_layer d slot f) (on_layer e slot g)
  layer_alike d e slot f g h left right ok other mine alike =
      record { sizes = alike.sizes; list = alike.list; bounds = alike.bounds; slots = λ s ours. slots s ours (s == slot) }
    where
      slots : (s : ℕ) → (shares.slot s == task) ≡ true → (b : Bool)
          → bare_slot (if b then change_layer f (d.slot slot) else d.slot s)
          ≡ bare_slot (if b then change_layer g (e.slot slot) else e.slot s)
      slots s ours true =
          changed_bare f h left (d.slot slot) (ok.plain slot) ∙
          (ap (change_layer h) (alike.slots slot mine) ∙ sym (changed_bare g h right (e.slot slot) (other.plain slot)))
      slots s ours false = alike.slots s ours

  -- the effect of the task's call on both desks
  pub effect_alike : (d e : Desk) (mover : ℕ) (call : Call) → mover ≡ task → IsOwn shares mover call → IsShared shares d
      → IsShared shares e → IsDesk (effect d mover call) → IsDesk (effect e mover call)
      → IsAlike shares task d e → IsAlike shares task (effect d mover call) (effect e mover call)
  unfolding is_visible
  effect_alike d e mover (Create slot make) ours own ok other sound other_sound alike =
      let mine : (shares.slot slot == task) ≡ true = eq-eqb (shares.slot slot) task (own.0 ∙ ours) in
      let a : Desk = arranged d mover (Create slot make) in
      let b : Desk = arranged e mover (Create slot make) in
      settled_alike d e a b ok.ordinary (created_ordinary shares d mover slot make own ok.ordinary)
      (created_ordinary shares e mover slot make own other.ordinary) alike
      (created_alike d e mover slot make own mine ok.sound alike) (λ s. listed_before d a s sound)
      (λ s. listed_before e b s other_sound)
  effect_alike d e mover (ToFront slot) ours own ok other sound other_sound alike =
      let mine : (shares.slot slot == task) ≡ true = eq-eqb (shares.slot slot) task (own ∙ ours) in
      let a : Desk = arranged d mover (ToFront slot) in
      let b : Desk = arranged e mover (ToFront slot) in
      settled_alike d e a b ok.ordinary (record { columns = ok.ordinary.columns; plain = ok.ordinary.plain })
      (record { columns = other.ordinary.columns; plain = other.ordinary.plain }) alike
      (record {
        sizes = alike.sizes;
        list = ap (λ l. slot ∷ without slot l) alike.list ∙
            sym (own_front (λ s. shares.slot s == task) slot d.front_to_back mine);
        bounds = alike.bounds;
        slots = alike.slots;
      }) (λ s. listed_before d a s sound) (λ s. listed_before e b s other_sound)
  effect_alike d e mover (SetA slot pen) ours own ok other sound other_sound alike =
      layer_alike d e slot (with_pen_a pen) (with_pen_a pen) (with_pen_a pen) (λ l. refl) (λ l. refl) ok.ordinary other.ordinary
      (eq-eqb (shares.slot slot) task (own ∙ ours)) alike
  effect_alike d e mover (Fill slot rect) ours own ok other sound other_sound alike =
      let mine : (shares.slot slot == task) ≡ true = eq-eqb (shares.slot slot) task (own ∙ ours) in
      let shown = alike_shown shares task d e ok.ordinary alike slot mine in
      layer_alike d e slot (λ l. rect_fill (is_visible d slot l) rect l) (λ l. rect_fill (is_visible e slot l) rect l)
      (fill_shown (is_shown d slot) (d.bounds slot) rect)
      (λ l. filled_bare (is_shown d slot) (d.bounds slot) rect l)
      (λ l. filled_bare (is_shown e slot) (e.bounds slot) rect l ∙
      (λ i. fill_shown (sym shown i) (sym (alike.bounds slot mine) i) rect (bare (plain l))))
      ok.ordinary other.ordinary mine alike
  effect_alike d e mover (ReadPixel slot x y) ours own ok other sound other_sound alike = alike
  effect_alike d e mover call ours own ok other sound other_sound alike = absurd own

  -- the pen that is read of a slot's layer
  read_bare : (visible : ℕ → ℕ → ℕ → ℕ → Bool) (column row : ℤ) (x : Slot)
      → from_layer
      (λ l. if holds_at (is_kept (visible l.scroll_x l.scroll_y) l) column row
      then Pen (pen_at l.bits (unsigned_abs column) (unsigned_abs row)) else Outside) (bare_slot x)
      ≡ from_layer
      (λ l. if holds_at (is_kept (visible l.scroll_x l.scroll_y) l) column row
      then Pen (pen_at l.bits (unsigned_abs column) (unsigned_abs row)) else Outside) x
  unfolding is_kept
  read_bare visible column row Unopened = refl
  read_bare visible column row (Live l) = refl
  read_bare visible column row Closed = refl

  -- both desks refuse the task's call alike, and answer it alike
  not_open : (d e : Desk) (s : ℕ) → IsAlike shares task d e → shares.slot s ≡ task
      → refuse_not_open (d.slot s) None ≡ refuse_not_open (e.slot s) None
  not_open d e s alike is =
      let live = alike_live (d.slot s) (e.slot s) (alike.slots s (eq-eqb (shares.slot s) task is)) in
      λ i. refuse (not (live i)) NotOpen None

  pub refused_alike : (d e : Desk) (mover : ℕ) (call : Call) → mover ≡ task → IsOwn shares mover call → IsAlike shares task d e
      → refusal d mover call ≡ refusal e mover call
  refused_alike d e mover (Create slot make) ours own alike =
      let opens =
      alike_may_open d.sizes.version (d.slot slot) (e.slot slot)
      (alike.slots slot (eq-eqb (shares.slot slot) task (own.0 ∙ ours)))
      ∙ ap (λ z. may_open z.version (e.slot slot)) alike.sizes in
      λ i. refuse (not (opens i)) AlreadyOpen
      (refuse (not (may_have_bounds (alike.sizes i) false make.kind 0 0 make.bits_w make.bits_h (bounds_of make)))
      OutOfBounds None)
  refused_alike d e mover (ToFront slot) ours own alike =
      let same = alike.slots slot (eq-eqb (shares.slot slot) task (own ∙ ours)) in
      let live = alike_live (d.slot slot) (e.slot slot) same in
      let backdrop = alike_backdrop (d.slot slot) (e.slot slot) same in
      λ i. refuse (not (live i)) NotOpen (refuse (backdrop i) Backdrop None)
  refused_alike d e mover (SetA slot pen) ours own alike = not_open d e slot alike (own ∙ ours)
  refused_alike d e mover (Fill slot rect) ours own alike = not_open d e slot alike (own ∙ ours)
  refused_alike d e mover (ReadPixel slot x y) ours own alike = not_open d e slot alike (own ∙ ours)
  refused_alike d e mover call ours own alike = absurd own

  pub answered_alike : (d e : Desk) (mover : ℕ) (call : Call) → mover ≡ task → IsOwn shares mover call → IsOrdinary shares d
      → IsAlike shares task d e → answer d mover call ≡ answer e mover call
  unfolding is_visible
  answered_alike d e mover (Create slot make) ours own ok alike = refl
  answered_alike d e mover (ToFront slot) ours own ok alike = refl
  answered_alike d e mover (SetA slot pen) ours own ok alike = refl
  answered_alike d e mover (Fill slot rect) ours own ok alike = refl
  answered_alike d e mover (ReadPixel slot x y) ours own ok alike =
      let mine : (shares.slot slot == task) ≡ true = eq-eqb (shares.slot slot) task (own ∙ ours) in
      let shown = alike_shown shares task d e ok alike slot mine in
      sym (read_bare (visible_within (is_shown d slot) (d.bounds slot)) x y (d.slot slot))
      ∙ ((λ i. from_layer
      (λ l. if holds_at (is_kept (visible_within (shown i) (alike.bounds slot mine i) l.scroll_x l.scroll_y) l) x y
      then Pen (pen_at l.bits (unsigned_abs x) (unsigned_abs y)) else Outside) (alike.slots slot mine i))
      ∙ read_bare (visible_within (is_shown e slot) (e.bounds slot)) x y (e.slot slot))
  answered_alike d e mover call ours own ok alike = absurd own
