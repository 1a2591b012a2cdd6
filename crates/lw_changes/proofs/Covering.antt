-- A layer that is created, or comes to the front, shows no more of any other.
use Rattle.std.proofs.Common.{◌≡◌, ℕ, ◌==◌, Bool, true, false, List, [], ◌∷◌, ℤ, Option, Some, None, find, refl, sym, ap, ◌∙◌}
use Rattle.std.proofs.Common.{eqb-true}
use Rattle.std.specs.Prelude.{if◌then◌else◌}
use Rattle.std.proofs.lemmas.Bool.{both_ways, eq-eqb, true≢false}
use Rattle.lw_region.specs.Rectangle.{has_pixel}
use Rattle.lw_calls.specs.declared.make.Make.{Make}
use Rattle.lw_calls.specs.declared.make.Place.{Place}
use Rattle.lw_calls.specs.declared.make.Place.TheVariants.{Front, Behind}
use Rattle.lw_calls.specs.declared.reply.Reply.TheVariants.{AlreadyOpen}
use Rattle.lw_machine.specs.Layer.{Window, Slot, Unopened, Live, Closed, may_open, is_live}
use Rattle.lw_machine.specs.Desk.{Desk, is_the}
use Rattle.lw_machine.specs.Screen.{bounds_have, screen_bounds, top, is_shown}
use Rattle.lw_machine.specs.Arrangement.{without, put_before, placed, has_backdrop, create_layer, upfront_layer}
use Rattle.lw_machine.specs.Step.{creation_refusal}
use Rattle.lw_machine.specs.Sound.{IsDesk, IsSlot}
use Rattle.lw_machine.proofs.ArrangementSound.{idle}
use Rattle.lw_machine.proofs.LayerCallSound.{not_refused}
use Rattle.lw_machine.proofs.CreatedSound.{other_value}
use Rattle.lw_machine.proofs.Seen.{the_one}
use Rattle.lw_changes.proofs.Beside.{IsBeside, same_top}

-- another layer than the slot's is shown after only where it was before
abbrev pub OnlyCovers : Desk → Desk → ℕ → Type 0
OnlyCovers d a slot = (s : ℕ) (x y : ℤ) → (s == slot) ≡ false → is_shown a s x y ≡ true → is_shown d s x y ≡ true

-- what is found isn't a number that differs from it
other_found : (t s slot : ℕ) → (s == slot) ≡ false → t ≡ slot → Some t ≡ Some s → ⊥
other_found t s slot other is found =
    let same : t ≡ s = cc in
    both_ways (s == slot) other (eq-eqb s slot (sym same ∙ is))

-- what is found besides a number that was put into a list is found without it
found_behind_it : (test : ℕ → Bool) (slot s : ℕ) (us : List ℕ) → (s == slot) ≡ false → find test (slot ∷ us) ≡ Some s
    → find test us ≡ Some s
found_behind_it test slot s us other = go (test slot)
  where
    go : (b : Bool) → (if b then Some slot else find test us) ≡ Some s → find test us ≡ Some s
    go true found = absurd (other_found slot s slot other refl found)
    go false found = found

found_past : (test before : ℕ → Bool) (slot s : ℕ) (us : List ℕ) → (s == slot) ≡ false
    → find test (put_before before slot us) ≡ Some s → find test us ≡ Some s
found_past test before slot s [] other found = found_behind_it test slot s [] other found
found_past test before slot s (u ∷ us) other found = step (before u) (found_past test before slot s us other) found
  where
    by_test : (b : Bool) → (find test (put_before before slot us) ≡ Some s → find test us ≡ Some s)
        → (if b then Some u else find test (put_before before slot us)) ≡ Some s → (if b then Some u else find test us) ≡ Some s
    by_test true rest is = is
    by_test false rest is = rest is

    step : (b : Bool) → (find test (put_before before slot us) ≡ Some s → find test us ≡ Some s)
        → find test (if b then slot ∷ u ∷ us else u ∷ put_before before slot us) ≡ Some s → find test (u ∷ us) ≡ Some s
    step true rest is = found_behind_it test slot s (u ∷ us) other is
    step false rest is = by_test (test u) rest is

found_past_new : (test backdrops : ℕ → Bool) (backdrop : Bool) (place : Place) (slot s : ℕ) (us : List ℕ) → (s == slot) ≡ false
    → find test (placed backdrops backdrop place slot us) ≡ Some s → find test us ≡ Some s
found_past_new test backdrops false Front slot s us other found = found_behind_it test slot s us other found
found_past_new test backdrops false Behind slot s us other found = found_past test backdrops slot s us other found
found_past_new test backdrops true Front slot s us other found = found_past test backdrops slot s us other found
found_past_new test backdrops true Behind slot s us other found = found_past test (λ t. false) slot s us other found

-- what is found besides a number is found too by a test that only that number doesn't pass any more
found_still : (test other_test : ℕ → Bool) (slot s : ℕ) (us : List ℕ) → (s == slot) ≡ false
    → ((t : ℕ) → (t == slot) ≡ false → test t ≡ other_test t) → other_test slot ≡ false → find test us ≡ Some s
    → find other_test us ≡ Some s
found_still test other_test slot s [] other same off found = absurd (cc)
found_still test other_test slot s (u ∷ us) other same off found =
    step (u == slot) (test u) refl refl (found_still test other_test slot s us other same off) found
  where
    step : (e b : Bool) → (u == slot) ≡ e → test u ≡ b → (find test us ≡ Some s → find other_test us ≡ Some s)
        → (if b then Some u else find test us) ≡ Some s → (if other_test u then Some u else find other_test us) ≡ Some s
    step true true here passes rest is = absurd (other_found u s slot other (eqb-true u slot here) is)
    step true false here passes rest is =
        ap (λ t. if t then Some u else find other_test us) (ap other_test (eqb-true u slot here) ∙ off) ∙ rest is
    step false true here passes rest is =
        ap (λ t. if t then Some u else find other_test us) (sym (same u here) ∙ passes) ∙ is
    step false false here passes rest is =
        ap (λ t. if t then Some u else find other_test us) (sym (same u here) ∙ passes) ∙ rest is

-- a slot without a layer has no bounds
bare_slot : (d : Desk) (s : ℕ) (q : Slot) (x y : ℤ) → IsSlot d s q → is_live q ≡ false → bounds_have (d.bounds s) x y ≡ false
bare_slot d s Unopened x y is idle = ap (λ o. bounds_have o x y) is
bare_slot d s (Live l) x y is idle = absurd (true≢false idle)
bare_slot d s Closed x y is idle = ap (λ o. bounds_have o x y) is

pub created_covers : (d : Desk) (slot : ℕ) (make : Make) (window : Option Window) (framed : Bool) → IsDesk d
    → creation_refusal d slot make framed ≡ None → OnlyCovers d (create_layer d slot make window) slot
unfolding top
created_covers d slot make window framed ok none s x y other seen =
    go (has_pixel (screen_bounds d.sizes) x y) (the_one (top a x y) s seen)
  where
    a : Desk
    a = create_layer d slot make window

    free : is_live (d.slot slot) ≡ false
    free = idle d.sizes.version (d.slot slot) ((not_refused (may_open d.sizes.version (d.slot slot)) AlreadyOpen _ none).0)

    go : (b : Bool) → (if b then find (λ t. bounds_have (a.bounds t) x y) a.front_to_back else None) ≡ Some s
        → is_the (if b then find (λ t. bounds_have (d.bounds t) x y) d.front_to_back else None) s ≡ true
    go true found =
        ap (λ o. is_the o s)
        (found_still (λ t. bounds_have (a.bounds t) x y) (λ t. bounds_have (d.bounds t) x y) slot s d.front_to_back other
        (λ t apart. ap (λ o. bounds_have o x y) (other_value slot t _ d.bounds apart))
        (bare_slot d slot (d.slot slot) x y (ok.slots slot) free)
        (found_past_new (λ t. bounds_have (a.bounds t) x y) (has_backdrop d) make.backdrop make.place slot s d.front_to_back other
        found))
        ∙ eq-eqb s s refl
    go false found = absurd (cc)

pub front_covers : (d : Desk) (slot : ℕ) → IsBeside d (upfront_layer d slot) slot → OnlyCovers d (upfront_layer d slot) slot
unfolding top
front_covers d slot beside s x y other seen = by_bounds (bounds_have (d.bounds slot) x y) refl
  where
    a : Desk
    a = upfront_layer d slot

    first : bounds_have (d.bounds slot) x y ≡ true → (b : Bool)
        → (if b then find (λ t. bounds_have (a.bounds t) x y) a.front_to_back else None) ≡ Some s → ⊥
    first has true found =
        other_found slot s slot other refl
        (sym (ap (λ t. if t then Some slot else find (λ k. bounds_have (a.bounds k) x y) (without slot d.front_to_back)) has)
        ∙ found)
    first has false found = absurd (cc)

    by_bounds : (b : Bool) → bounds_have (d.bounds slot) x y ≡ b → is_shown d s x y ≡ true
    by_bounds true has = absurd (first has (has_pixel (screen_bounds d.sizes) x y) (the_one (top a x y) s seen))
    by_bounds false off = ap (λ o. is_the o s) (sym (same_top d a slot x y beside off off)) ∙ seen
