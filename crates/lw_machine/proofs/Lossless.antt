-- An arrangement loses nothing of a smart layer that it leaves inside, and nothing of a super-bitmap layer.
use Rattle.std.proofs.Common.{◌≡◌, ℕ, ◌==◌, Bool, true, false, not, if◌then◌else◌, List, Option, Some, None, IsTrue, refl, sym}
use Rattle.std.proofs.Common.{ap, subst, ◌∙◌, ⊎_elim, eqb-true}
use Rattle.std.proofs.lemmas.Bool.{false≢true, true≢false}
use Rattle.lw_planes.specs.Bitmap.{pen_at}
use Rattle.lw_region.specs.Rectangle.{Rectangle, moved_by}
use Rattle.lw_calls.specs.declared.call.Call.{Call}
use Rattle.lw_calls.specs.declared.call.Call.TheVariants.{Create, OpenWindow, Close, ToFront, ToBack, InFrontOf, MoveBy, SizeBy}
use Rattle.lw_calls.specs.declared.call.Call.TheVariants.{SetBox, Activate, SetHook, Blit}
use Rattle.lw_calls.specs.declared.reply.Reply.{Reply}
use Rattle.lw_calls.specs.declared.reply.Reply.TheVariants.{AlreadyOpen}
use Rattle.lw_machine.specs.Hook.{Hook}
use Rattle.lw_machine.specs.Layer.{Layer, Slot, Unopened, Live, Closed, may_open, is_live, is_framed, change_layer}
use Rattle.lw_calls.specs.Kinds.{is_super}
use Rattle.lw_machine.specs.Desk.{Desk, with_value}
use Rattle.lw_machine.specs.Kept.{is_visible, is_inside}
use Rattle.lw_machine.specs.Shapes.{box_at}
use Rattle.lw_machine.specs.Arrangement.{sized_by, new_window, create_layer, delete_layer, change_bounds, upfront_layer}
use Rattle.lw_machine.specs.Arrangement.{behind_layer, move_layer_in_front_of, with_active}
use Rattle.lw_machine.specs.Reveal.{Across, across, has_bounds, was_live, width_in, height_in, settled_layer, settled}
use Rattle.lw_machine.specs.Step.{refusal, on_layer, effect, after, changed_unless}
use Rattle.lw_calls.specs.Touches.{slots_of}
use Rattle.lw_calls.proofs.BlitClass.{blit_not_all}
use Rattle.lw_calls.specs.Plan.{is_all}
use Rattle.lw_machine.specs.Sound.{IsDesk, IsSlot, IsPlaced, IsKeeping}
use Rattle.lw_machine.specs.Laws.{IsLossless, NothingIsLost}
use Rattle.lw_machine.proofs.Settling.{changed_or_not, settled_from, settled_is, revealed_plain, revealed_super, settled_leaves}
use Rattle.lw_machine.proofs.Settling.{frameless_bits, revealed_in}
use Rattle.lw_machine.proofs.CreatedSound.{other_value}
use Rattle.lw_machine.proofs.ArrangementSound.{unrefused}

-- a layer whose bounds have the size of its bits, unless these are a bitmap of its own, and no frame then
pub record IsSized (c : Across) (l : Layer) : Type 0 where
  pub live : was_live c ≡ true
  pub width : is_super l.kind ≡ false → l.bits.width ≡ width_in c.bounds
  pub height : is_super l.kind ≡ false → l.bits.height ≡ height_in c.bounds
  pub frameless : is_super l.kind ≡ true → is_framed l.window ≡ false

-- what settles a layer loses nothing
settled_lossless : (glyphs : List (List ℕ)) (c : Across) (l m : Layer) → IsSized c l → settled_layer glyphs c l ≡ m
    → IsLossless l m
settled_lossless glyphs c l m sized is = record {
  smart = λ smart x y before after.
      let plain : is_super l.kind ≡ false = ap is_super smart in
      let e : m ≡ settled_from glyphs c l (revealed_in c l) =
      sym is ∙ settled_is glyphs c l (revealed_in c l) (revealed_plain c l plain) in
      ap (λ q. pen_at q.bits x y) e ∙
      settled_leaves glyphs c l x y smart sized.live (sized.width plain) (sized.height plain) before
      (ap (λ q. is_inside q x y) (sym e) ∙ after);
  super_bitmap = λ super.
      let own : is_super l.kind ≡ true = ap is_super super in
      let e : m ≡ settled_from glyphs c l l = sym is ∙ settled_is glyphs c l l (revealed_super c l own) in
      ap (λ q. q.bits) e ∙ frameless_bits _ glyphs _ c.new_active l (sized.frameless own);
}

-- a layer that stays is lossless
same_lossless : (l m : Layer) → l ≡ m → IsLossless l m
same_lossless l m is =
    record {
      smart = λ smart x y before after. ap (λ q. pen_at q.bits x y) (sym is);
      super_bitmap =
          λ super. ap (λ q. q.bits) (sym is);
    }

-- the layer of a live slot, or another one
abbrev pub layer_or : Layer → Slot → Layer
layer_or l Unopened = l
layer_or l (Live m) = m
layer_or l Closed = l

-- the layers of equal live slots are equal
live_same : (l m : Layer) → Live l ≡ Live m → l ≡ m
live_same l m e = ap (layer_or l) e

-- a slot that isn't live isn't a live one
closed_not_live : (m : Layer) → Closed ≡ Live m → ⊥
closed_not_live m e = false≢true (ap is_live e)

-- a layer of a sound desk is sized
placed_sized : (d a : Desk) (s : ℕ) (o : Option Rectangle) (l : Layer) → d.bounds s ≡ o → IsPlaced d.sizes l o
    → IsKeeping d.sizes.depth (is_visible d s l) l → IsSized (across d a s) l
placed_sized d a s None l is placed keeping = absurd placed
placed_sized d a s (Some r) l is placed keeping = record {
  live = ap has_bounds is;
  width = λ plain. placed.columns plain ∙ ap width_in (sym is);
  height = λ plain. placed.rows plain ∙ ap height_in (sym is);
  frameless = keeping.frameless;
}

slot_sized : (d a : Desk) (s : ℕ) (l : Layer) → IsDesk d → d.slot s ≡ Live l → IsSized (across d a s) l
slot_sized d a s l sound is =
    let P : Slot → Type 0 = λ t. IsSlot d s t in
    let slot : IsSlot d s (Live l) = subst P is (sound.slots s) in
    placed_sized d a s (d.bounds s) l refl slot.0 slot.1

-- what an arrangement settles loses nothing of a layer that it leaves in its slot
arranged_lossless : (d a : Desk) (s : ℕ) (l m : Layer) → IsDesk d → d.slot s ≡ Live l → a.slot s ≡ Live l
    → (settled d a).slot s ≡ Live m → IsLossless l m
arranged_lossless d a s l m sound was stays is =
    ⊎_elim
    (λ changed. settled_lossless d.assets.glyphs (across d a s) l m (slot_sized d a s l sound was)
    (live_same _ _ (sym (changed ∙ ap (change_layer (settled_layer d.assets.glyphs (across d a s))) stays) ∙ is)))
    (λ old. same_lossless l m (live_same l m (sym (old ∙ stays) ∙ is)))
    (changed_or_not a.front_to_back (λ t layer. change_layer (settled_layer d.assets.glyphs (across d a t)) layer) a.slot s)

-- no arrangement settles a layer in a slot that has none
settled_closed : (d a : Desk) (s : ℕ) (m : Layer) → a.slot s ≡ Closed → (settled d a).slot s ≡ Live m → ⊥
settled_closed d a s m empty is =
    ⊎_elim
    (λ changed. closed_not_live m (sym (changed ∙ ap (change_layer (settled_layer d.assets.glyphs (across d a s))) empty) ∙ is))
    (λ old. closed_not_live m (sym (old ∙ empty) ∙ is))
    (changed_or_not a.front_to_back (λ t layer. change_layer (settled_layer d.assets.glyphs (across d a t)) layer) a.slot s)

-- the changed value of a function
this_value : {A : Type 0} (n k : ℕ) (v : A) (f : ℕ → A) → (k == n) ≡ true → with_value n v f k ≡ v
this_value n k v f e = ap (λ b. if b then v else f k) e

-- no layer may be created in a slot that is live
live_taken : (version : ℕ) (l : Layer) (t : Slot) → t ≡ Live l → not (may_open version t) ≡ true
live_taken version l t is = ap (λ q. not (may_open version q)) is

-- a creation leaves the layers of other slots; and its own slot has none before
created_lossless : (d a : Desk) (slot s : ℕ) (v : Slot) (l m : Layer) (t : Bool) → (s == slot) ≡ t → IsDesk d → d.slot s ≡ Live l
    → not (may_open d.sizes.version (d.slot slot)) ≡ false → a.slot ≡ with_value slot v d.slot → (settled d a).slot s ≡ Live m
    → IsLossless l m
created_lossless d a slot s v l m true e sound was free slots is =
    let same : s ≡ slot = eqb-true s slot e in
    absurd (true≢false
    (sym (live_taken d.sizes.version l (d.slot s) was) ∙ (ap (λ q. not (may_open d.sizes.version (d.slot q))) same ∙ free)))
created_lossless d a slot s v l m false e sound was free slots is =
    arranged_lossless d a s l m sound was (ap (λ f. f s) slots ∙ (other_value slot s v d.slot e ∙ was)) is

-- a deletion leaves the layers of other slots, and none in its own
closed_lossless : (d a : Desk) (slot s : ℕ) (l m : Layer) (t : Bool) → (s == slot) ≡ t → IsDesk d → d.slot s ≡ Live l
    → a.slot ≡ with_value slot Closed d.slot → (settled d a).slot s ≡ Live m → IsLossless l m
closed_lossless d a slot s l m true e sound was slots is =
    absurd (settled_closed d a s m (ap (λ f. f s) slots ∙ this_value slot s Closed d.slot e) is)
closed_lossless d a slot s l m false e sound was slots is =
    arranged_lossless d a s l m sound was (ap (λ f. f s) slots ∙ (other_value slot s Closed d.slot e ∙ was)) is

-- an arrangement of two slots leaves the layers, by whether the slots are one
moved_slots : (t : Bool) (d a : Desk) → a.slot ≡ d.slot → (if t then d else a).slot ≡ d.slot
moved_slots true d a e = refl
moved_slots false d a e = e

-- a layer with another hook keeps its pens, and all other layers stay
hooked_lossless : (d : Desk) (slot s : ℕ) (hook : Option Hook) (l m : Layer) (t : Bool) → (s == slot) ≡ t → d.slot s ≡ Live l
    → (on_layer d slot (λ k. record k { hook = hook })).slot s ≡ Live m → IsLossless l m
hooked_lossless d slot s hook l m true e was is =
    let here : d.slot slot ≡ Live l = ap d.slot (sym (eqb-true s slot e)) ∙ was in
    let changed : (on_layer d slot (λ k. record k { hook = hook })).slot s ≡ Live (record l { hook = hook }) =
    this_value slot s _ d.slot e ∙ ap (change_layer (λ k. record k { hook = hook })) here in
    let bits : l.bits ≡ m.bits = ap (λ q. q.bits) (live_same (record l { hook = hook }) m (sym changed ∙ is)) in
    record { smart = λ smart x y before after. ap (λ b. pen_at b x y) (sym bits); super_bitmap = λ super. sym bits }
hooked_lossless d slot s hook l m false e was is =
    same_lossless l m (live_same l m (sym (other_value slot s _ d.slot e ∙ was) ∙ is))

-- A call that touches all layers and isn't refused loses nothing.
effect_lossless : (d : Desk) (task : ℕ) (call : Call) (s : ℕ) (l m : Layer) → IsDesk d → IsTrue (is_all (slots_of call))
    → d.slot s ≡ Live l → refusal d task call ≡ None → (effect d task call).slot s ≡ Live m → IsLossless l m
effect_lossless d task (Create slot make) s l m sound all was free is =
    created_lossless d (create_layer d slot make None) slot s _ l m (s == slot) refl sound was
    (unrefused _ AlreadyOpen _ free).0 refl is
effect_lossless d task (OpenWindow slot make framed nocare asks title) s l m sound all was free is =
    created_lossless d (create_layer d slot make (Some (new_window task framed nocare asks title))) slot s _ l m
    (s == slot) refl sound was (unrefused _ AlreadyOpen _ free).0 refl is
effect_lossless d task (Close slot) s l m sound all was free is =
    closed_lossless d (delete_layer d slot) slot s l m (s == slot) refl sound was refl is
effect_lossless d task (ToFront slot) s l m sound all was free is =
    arranged_lossless d (upfront_layer d slot) s l m sound was was is
effect_lossless d task (ToBack slot) s l m sound all was free is =
    arranged_lossless d (behind_layer d slot) s l m sound was was is
effect_lossless d task (MoveBy slot dx dy) s l m sound all was free is =
    arranged_lossless d (change_bounds d slot (λ r. moved_by r dx dy)) s l m sound was was is
effect_lossless d task (SizeBy slot dw dh) s l m sound all was free is =
    arranged_lossless d (change_bounds d slot (λ r. sized_by r dw dh)) s l m sound was was is
effect_lossless d task (SetBox slot x y w h) s l m sound all was free is =
    arranged_lossless d (change_bounds d slot (λ r. box_at x y w h)) s l m sound was was is
effect_lossless d task (Activate slot) s l m sound all was free is =
    arranged_lossless d (with_active d slot) s l m sound was was is
effect_lossless d task (InFrontOf slot other) s l m sound all was free is =
    arranged_lossless d (move_layer_in_front_of d slot other) s l m sound was
    (ap (λ f. f s) (moved_slots (slot == other) d _ refl) ∙ was) is
effect_lossless d task (SetHook slot hook) s l m sound all was free is =
    hooked_lossless d slot s (d.shelf hook) l m (s == slot) refl was is
effect_lossless d task (Blit source slot area) s l m sound all was free is =
    absurd (blit_not_all (source == slot) source slot all)
effect_lossless d task call s l m sound all was free is = absurd (false≢true all)

-- the same, whether it is refused or not
by_refusal : (o : Option Reply) (d e : Desk) (s : ℕ) (l m : Layer) → d.slot s ≡ Live l
    → (o ≡ None → e.slot s ≡ Live m → IsLossless l m) → (changed_unless o d e).slot s ≡ Live m → IsLossless l m
by_refusal None d e s l m was loses is = loses refl is
by_refusal (Some q) d e s l m was loses is = same_lossless l m (live_same l m (sym was ∙ is))

-- A call that touches all layers loses nothing of a smart layer that it leaves inside, and nothing of a super-bitmap layer.
pub nothing_lost : NothingIsLost
unfolding after
nothing_lost d task call s l m sound all was is =
    by_refusal (refusal d task call) d (effect d task call) s l m was
    (λ free changed. effect_lossless d task call s l m sound all was free changed) is
