-- The class of a blit, by whether its two layers are one.
use Rattle.std.proofs.Common.{◌≡◌, ℕ, ◌==◌, Bool, true, false, if◌then◌else◌, refl, sym}
use Rattle.lw_calls.specs.declared.touch.CallClass.{CallClass}
use Rattle.lw_calls.specs.declared.touch.CallClass.TheVariants.{OnLayer, OnLayers}
use Rattle.lw_calls.specs.Touches.{slots_in, has_slot}
use Rattle.lw_calls.specs.Plan.{is_all}
use Rattle.std.proofs.lemmas.Bool.{false≢true, eq-eqb, eqb-true, or_right, or_parts}

abbrev pub blit_class : Bool → ℕ → ℕ → CallClass
blit_class same source slot = if same then OnLayer slot else OnLayers source slot

-- a blit is no arrangement
pub blit_not_all : (same : Bool) (source slot : ℕ) → is_all (slots_in (blit_class same source slot)) ≡ true → ⊥
blit_not_all true source slot h = false≢true h
blit_not_all false source slot h = false≢true h

-- a blit touches its source
pub touches_source : (source slot : ℕ) (same : Bool) → (source == slot) ≡ same
    → has_slot (slots_in (blit_class same source slot)) source ≡ true
touches_source source slot true h = eq-eqb slot source (sym (eqb-true source slot h))
touches_source source slot false h = rw (eq-eqb source source refl) refl

-- a blit touches its destination
pub touches_destination : (source slot : ℕ) (same : Bool) → has_slot (slots_in (blit_class same source slot)) slot ≡ true
touches_destination source slot true = eq-eqb slot slot refl
touches_destination source slot false = or_right (source == slot) (slot == slot) (eq-eqb slot slot refl)

-- a slot that a blit doesn't touch isn't its destination
pub not_blitted : (source slot s : ℕ) (same : Bool) → has_slot (slots_in (blit_class same source slot)) s ≡ false
    → (slot == s) ≡ false
not_blitted source slot s true h = h
not_blitted source slot s false h = (or_parts (source == s) (slot == s) h).1
