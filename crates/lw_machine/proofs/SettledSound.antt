-- A desk that is arranged as it should be is sound once its layers are settled.
use Rattle.std.proofs.Common.{◌≡◌, ℕ, ◌+◌, ◌<◌, ◌≤◌, ◌==◌, Bool, true, false, List, [], ◌∷◌, Option, Some, None, refl, sym, ap}
use Rattle.std.proofs.Common.{subst, ◌∙◌, arith}
use Rattle.std.specs.Prelude.{if◌then◌else◌}
use Rattle.std.proofs.lemmas.Bool.{eqb-true, eq-eqb}
use Rattle.lw_region.specs.Rectangle.{Rectangle}
use Rattle.lw_calls.specs.declared.sizes.Sizes.{Sizes}
use Rattle.lw_calls.specs.Limits.{IsWithinLimits}
use Rattle.lw_machine.specs.Layer.{Layer, Slot, Unopened, Live, Closed, is_live, layer_is, change_layer, is_window}
use Rattle.lw_machine.specs.Desk.{Desk, change_each}
use Rattle.lw_machine.specs.Screen.{top}
use Rattle.lw_machine.specs.Kept.{is_visible}
use Rattle.lw_machine.specs.Arrangement.{has_backdrop}
use Rattle.lw_calls.specs.Orders.{occurrences}
use Rattle.lw_machine.specs.Reveal.{Across, across, settled_layer, settled}
use Rattle.lw_machine.specs.Sound.{IsSlot, IsDesk, backdrops_last, active_is_window}
use Rattle.lw_machine.proofs.ListSound.{last_same}
use Rattle.lw_machine.proofs.RevealSound.{IsReady, IsSettled, layer_settled, placed_settled, keeping_settled}
use Rattle.lw_machine.proofs.Untouched.{differ_back}
use Rattle.lw_machine.proofs.LayerCallSound.{live_stays}

-- What an arrangement needs of a slot: a live one has a layer that is ready for it, and any other has no bounds.
abbrev pub IsReadySlot : Sizes → Option Rectangle → Slot → Type 0
IsReadySlot sizes bounds Unopened = bounds ≡ None
IsReadySlot sizes bounds (Live l) = IsReady sizes bounds l
IsReadySlot sizes bounds Closed = bounds ≡ None

-- A desk that is arranged as it should be, before its layers are settled.
pub record IsArranged (a : Desk) : Type 0 where
  pub limits : IsWithinLimits a.sizes
  pub beyond : (s : ℕ) → a.sizes.slots ≤ s → a.slot s ≡ Unopened
  pub listed : (s : ℕ) → occurrences s a.front_to_back ≡ (if is_live (a.slot s) then 1 else 0)
  pub backdrops : backdrops_last (has_backdrop a) a.front_to_back ≡ true
  pub slots : (s : ℕ) → IsReadySlot a.sizes (a.bounds s) (a.slot s)
  pub active : active_is_window a a.active ≡ true

-- what is changed at each number of a list is changed at one that stands in it
pub changed_in : {A : Type 0} (order : List ℕ) (change : ℕ → A → A) (f : ℕ → A) (s : ℕ) → 0 < occurrences s order
    → change_each order change f s ≡ change s (f s)
changed_in [] change f s has = absurd (omega arith)
changed_in {A} (n ∷ ns) change f s has = step (s == n) refl (λ more. changed_in ns change f s more)
  where
    step : (b : Bool) → (s == n) ≡ b → (0 < occurrences s ns → change_each ns change f s ≡ change s (f s))
        → (if b then change n (f n) else change_each ns change f s) ≡ change s (f s)
    step true e h = ap (λ k. change k (f k)) (sym (eqb-true s n e))
    step false e h =
        let rest : 0 < 0 + occurrences s ns = rw (differ_back s n e) at has in
        h (omega (arith, rest))

-- and stays as it is at any other
changed_out : {A : Type 0} (order : List ℕ) (change : ℕ → A → A) (f : ℕ → A) (s : ℕ) → occurrences s order ≡ 0
    → change_each order change f s ≡ f s
changed_out [] change f s none = refl
changed_out {A} (n ∷ ns) change f s none = step (s == n) refl (λ rest. changed_out ns change f s rest)
  where
    step : (b : Bool) → (s == n) ≡ b → (occurrences s ns ≡ 0 → change_each ns change f s ≡ f s)
        → (if b then change n (f n) else change_each ns change f s) ≡ f s
    step true e h =
        let same : (n == s) ≡ true = eq-eqb n s (sym (eqb-true s n e)) in
        let one : 1 + occurrences s ns ≡ 0 = rw same at none in
        absurd (omega (arith, one))
    step false e h =
        let rest : 0 + occurrences s ns ≡ 0 = rw (differ_back s n e) at none in
        h (omega (arith, rest))

-- where a list has each live slot once, each slot's layer is changed, if it has one
changed_live : (order : List ℕ) (change : ℕ → Layer → Layer) (f : ℕ → Slot) (s : ℕ) (x : Slot) → f s ≡ x
    → occurrences s order ≡ (if is_live x then 1 else 0)
    → change_each order (λ t layer. change_layer (change t) layer) f s ≡ change_layer (change s) x
changed_live order change f s Unopened is listed = changed_out order (λ t layer. change_layer (change t) layer) f s listed ∙ is
changed_live order change f s (Live l) is listed =
    changed_in order (λ t layer. change_layer (change t) layer) f s (omega (arith, listed)) ∙ ap (change_layer (change s)) is
changed_live order change f s Closed is listed = changed_out order (λ t layer. change_layer (change t) layer) f s listed ∙ is

-- what becomes of a slot across an arrangement
abbrev slot_after : Desk → Desk → ℕ → Slot → Slot
slot_after d a s x = change_layer (settled_layer d.assets.glyphs (across d a s)) x

slot_is_after : (d a : Desk) (s : ℕ) → IsArranged a → (settled d a).slot s ≡ slot_after d a s (a.slot s)
slot_is_after d a s ok =
    changed_live a.front_to_back (λ t. settled_layer d.assets.glyphs (across d a t)) a.slot s (a.slot s) refl (ok.listed s)

-- whether a slot has a backdrop layer, or a window, stays the same
backdrop_after : (d a : Desk) (s : ℕ) (x : Slot) → IsReadySlot a.sizes (a.bounds s) x
    → layer_is (λ l. l.backdrop) (slot_after d a s x) ≡ layer_is (λ l. l.backdrop) x
backdrop_after d a s Unopened ready = refl
backdrop_after d a s (Live l) ready = (layer_settled a.sizes d.assets.glyphs (across d a s) l ready).backdrop
backdrop_after d a s Closed ready = refl

window_after : (d a : Desk) (s : ℕ) (x : Slot) → IsReadySlot a.sizes (a.bounds s) x
    → layer_is (λ l. is_window l.window) (slot_after d a s x) ≡ layer_is (λ l. is_window l.window) x
window_after d a s Unopened ready = refl
window_after d a s (Live l) ready = (layer_settled a.sizes d.assets.glyphs (across d a s) l ready).window
window_after d a s Closed ready = refl

-- a slot is as it should be
sound_after : (d a : Desk) (s : ℕ) (x : Slot) → IsReadySlot a.sizes (a.bounds s) x → IsSlot (settled d a) s (slot_after d a s x)
unfolding is_visible top
sound_after d a s Unopened ready = ready
sound_after d a s (Live l) ready =
    let c : Across = across d a s in
    let m : Layer = settled_layer d.assets.glyphs c l in
    let done : IsSettled a.sizes c l m = layer_settled a.sizes d.assets.glyphs c l ready in
    (placed_settled a.sizes c l m ready done, keeping_settled a.sizes c l m done)
sound_after d a s Closed ready = ready

-- Once its layers are settled, the desk is sound.
pub settled_sound : (d a : Desk) → IsArranged a → IsDesk (settled d a)
settled_sound d a ok =
    record {
      limits = ok.limits;
      beyond = λ s past. slot_is_after d a s ok ∙ ap (slot_after d a s) (ok.beyond s past);
      listed = λ s. ok.listed s ∙ ap (λ b. if b then 1 else 0)
          (sym (ap is_live (slot_is_after d a s ok) ∙ live_stays _ (a.slot s)));
      backdrops = last_same (has_backdrop (settled d a)) (has_backdrop a) a.front_to_back (λ s _. backdrop s) ∙ ok.backdrops;
      slots = λ s. subst (IsSlot (settled d a) s) (sym (slot_is_after d a s ok)) (sound_after d a s (a.slot s) (ok.slots s));
      active = active a.active ok.active;
    }
  where
    backdrop : (s : ℕ) → has_backdrop (settled d a) s ≡ has_backdrop a s
    backdrop s = ap (layer_is (λ l. l.backdrop)) (slot_is_after d a s ok) ∙ backdrop_after d a s (a.slot s) (ok.slots s)

    active : (o : Option ℕ) → active_is_window a o ≡ true → active_is_window (settled d a) o ≡ true
    active None h = refl
    active (Some s) h =
        (ap (layer_is (λ l. is_window l.window)) (slot_is_after d a s ok) ∙ window_after d a s (a.slot s) (ok.slots s)) ∙ h
