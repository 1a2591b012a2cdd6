-- What becomes of slots with plain layers, but for their damage.
use Rattle.std.proofs.Common.{◌≡◌, ℕ, false, List, ℤ, Option, Some, None, refl, sym, ap, subst, ⊎_elim, ◌∙◌, arith}
use Rattle.std.specs.Prelude.{if◌then◌else◌}
use Rattle.lw_region.specs.Rectangle.{Rectangle}
use Rattle.lw_calls.specs.Orders.{occurrences}
use Rattle.lw_machine.specs.Layer.{Layer, Slot, Unopened, Live, Closed, may_open, is_live, layer_is, change_layer}
use Rattle.lw_machine.specs.Desk.{Desk}
use Rattle.lw_machine.specs.Screen.{is_shown, pen_on}
use Rattle.lw_machine.specs.Kept.{is_visible, visible_within}
use Rattle.lw_machine.specs.Reveal.{Across, across, settled_layer, settled}
use Rattle.lw_machine.specs.Sound.{IsKeeping, IsPlaced, IsSlot, IsDesk}
use Rattle.lw_machine.proofs.LayerCallSound.{live_stays}
use Rattle.lw_machine.proofs.Settling.{changed_or_not}
use Rattle.lw_machine.proofs.SettledSound.{changed_in}
use Rattle.lw_apart.proofs.Plain.{plain, bare, settled_plain, reveal_is_plain, still, bare_reveal, revealed_bare, staying, stays}

-- the slot with its layer plain, and with it bare
abbrev pub plain_slot : Slot → Slot
plain_slot x = change_layer plain x

abbrev pub bare_slot : Slot → Slot
bare_slot x = change_layer bare x

-- what a bare slot tells as its slot does
pub bare_may_open : (version : ℕ) (x : Slot) → may_open version (bare_slot x) ≡ may_open version x
bare_may_open version Unopened = refl
bare_may_open version (Live l) = refl
bare_may_open version Closed = refl

pub bare_backdrop : (x : Slot) → layer_is (λ l. l.backdrop) (bare_slot x) ≡ layer_is (λ l. l.backdrop) x
bare_backdrop Unopened = refl
bare_backdrop (Live l) = refl
bare_backdrop Closed = refl

pub bare_pen : (o : Option Rectangle) (x : Slot) (column row : ℤ) → pen_on o (bare_slot x) column row ≡ pen_on o x column row
bare_pen None x column row = refl
bare_pen (Some r) Unopened column row = refl
bare_pen (Some r) (Live l) column row = refl
bare_pen (Some r) Closed column row = refl

-- a change that keeps plain layers plain keeps slots so
pub changed_plain : (f : Layer → Layer) → ((l : Layer) → f (plain l) ≡ plain (f (plain l))) → (x : Slot) → x ≡ plain_slot x
    → change_layer f x ≡ plain_slot (change_layer f x)
changed_plain f keeps x is = subst (λ y. change_layer f y ≡ plain_slot (change_layer f y)) (sym is) (go x)
  where
    go : (y : Slot) → change_layer f (plain_slot y) ≡ plain_slot (change_layer f (plain_slot y))
    go Unopened = refl
    go (Live l) = ap (λ m. Live m) (keeps l)
    go Closed = refl

-- a change that takes no notice of damage, of a slot but for its damage
pub changed_bare : (f g : Layer → Layer) → ((l : Layer) → bare (f (plain l)) ≡ g (bare (plain l))) → (x : Slot)
    → x ≡ plain_slot x → bare_slot (change_layer f x) ≡ change_layer g (bare_slot x)
changed_bare f g same x is = subst (λ y. bare_slot (change_layer f y) ≡ change_layer g (bare_slot y)) (sym is) (go x)
  where
    go : (y : Slot) → bare_slot (change_layer f (plain_slot y)) ≡ change_layer g (bare_slot (plain_slot y))
    go Unopened = refl
    go (Live l) = ap (λ m. Live m) (same l)
    go Closed = refl

-- an arrangement keeps a plain layer plain, and takes no notice of its damage and of the active window
pub settled_stays_plain : (glyphs : List (List ℕ)) (c : Across) (l : Layer)
    → settled_layer glyphs c (plain l) ≡ plain (settled_layer glyphs c (plain l))
settled_stays_plain glyphs c l = settled_plain glyphs c l ∙ (reveal_is_plain c l ∙ sym (ap plain (settled_plain glyphs c l)))

pub settled_bare : (glyphs : List (List ℕ)) (c : Across) (l : Layer)
    → bare (settled_layer glyphs c (plain l)) ≡ bare_reveal (still c) (bare (plain l))
settled_bare glyphs c l = ap bare (settled_plain glyphs c l) ∙ revealed_bare c l

-- how often a slot stands in the list of an arranged desk that is sound once it is settled
pub listed_before : (d a : Desk) (s : ℕ) → IsDesk (settled d a)
    → occurrences s a.front_to_back ≡ (if is_live (a.slot s) then 1 else 0)
listed_before d a s sound =
    sound.listed s ∙ ap (λ b. if b then 1 else 0)
    (⊎_elim (λ is. ap is_live is ∙ live_stays _ (a.slot s)) (λ is. ap is_live is) (changed_or_not a.front_to_back _ a.slot s))

-- what becomes of a slot where a desk is settled
pub slot_settled : (d a : Desk) (s : ℕ) → occurrences s a.front_to_back ≡ (if is_live (a.slot s) then 1 else 0)
    → (settled d a).slot s ≡ change_layer (settled_layer d.assets.glyphs (across d a s)) (a.slot s)
slot_settled d a s listed = go (a.slot s) refl listed
  where
    change : ℕ → Slot → Slot
    change t x = change_layer (settled_layer d.assets.glyphs (across d a t)) x

    go : (x : Slot) → a.slot s ≡ x → occurrences s a.front_to_back ≡ (if is_live x then 1 else 0)
        → (settled d a).slot s ≡ change s x
    go Unopened is none = ⊎_elim (λ p. p ∙ ap (change s) is) (λ p. p ∙ is) (changed_or_not a.front_to_back change a.slot s)
    go (Live l) is one = changed_in a.front_to_back change a.slot s (omega (arith, one)) ∙ ap (change s) is
    go Closed is none = ⊎_elim (λ p. p ∙ ap (change s) is) (λ p. p ∙ is) (changed_or_not a.front_to_back change a.slot s)

-- A slot of a sound desk that is arranged as it is stays but for its damage.
pub slot_stays : (e : Desk) (s : ℕ) → IsDesk e → e.slot s ≡ plain_slot (e.slot s)
    → bare_slot ((settled e e).slot s) ≡ bare_slot (e.slot s)
unfolding is_visible
slot_stays e s sound is =
    ap bare_slot (slot_settled e e s (sound.listed s))
    ∙ (changed_bare (settled_layer e.assets.glyphs (across e e s)) (bare_reveal (still (across e e s)))
    (settled_bare e.assets.glyphs (across e e s)) (e.slot s) is
    ∙ go (e.slot s) (sound.slots s) is)
  where
    placed : (l : Layer) (o : Option Rectangle) → e.bounds s ≡ o → IsPlaced e.sizes l o
        → IsKeeping e.sizes.depth (visible_within (is_shown e s) (e.bounds s) l.scroll_x l.scroll_y) l
        → bare_reveal (still (across e e s)) (bare (plain l)) ≡ bare (plain l)
    placed l None at bounded keeping = absurd bounded
    placed l (Some r) at bounded keeping =
        let here : still (across e e s) ≡ staying (is_shown e s) r =
        λ i. record {
          bounds = at i;
          new_bounds = at i;
          shown = is_shown e s;
          new_shown = is_shown e s;
          active = false;
          new_active =
              false;
        } in
        let keeps : IsKeeping e.sizes.depth (visible_within (is_shown e s) (Some r) l.scroll_x l.scroll_y) l =
        subst (λ o. IsKeeping e.sizes.depth (visible_within (is_shown e s) o l.scroll_x l.scroll_y) l) at keeping in
        ap (λ c. bare_reveal c (bare (plain l))) here ∙ stays e.sizes e.sizes.depth (is_shown e s) r l bounded keeps

    go : (x : Slot) → IsSlot e s x → x ≡ plain_slot x
        → change_layer (bare_reveal (still (across e e s))) (bare_slot x) ≡ bare_slot x
    go Unopened ok p = refl
    go (Live l) ok p =
        let same : l ≡ plain l = cc in
        ap (λ m. Live (bare_reveal (still (across e e s)) (bare m))) same ∙
        (ap (λ m. Live m) (placed l (e.bounds s) refl ok.0 ok.1) ∙ ap (λ m. Live (bare m)) (sym same))
    go Closed ok p = refl
