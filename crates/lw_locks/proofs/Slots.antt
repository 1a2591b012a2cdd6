-- Roles of which none stands twice: as many slots as there are, are all of them.
use Rattle.std.proofs.Common.{◌≡◌, ◌⊎◌, ℕ, ◌<◌, Bool, true, false, length, map, List, [], ◌∷◌, ◌++◌, ⊎_elim, inl, inr, refl, sym, subst, arith}
use Rattle.std.specs.Prelude.{All, Contains}
use Rattle.std.specs.List.{IsDistinct, AllByRecursion}
use Rattle.std.proofs.lemmas.Bool.{eqb-true}
use Rattle.std.proofs.lemmas.List.Elements.{All-nil, All-cons, All-head, All-tail, All-contains}
use Rattle.std.proofs.lemmas.Map.Keys.{IsDistinct-cons}
use Rattle.std.proofs.lemmas.Map.Steps.{length-le_from_distinct_below}
use Rattle.std.proofs.lemmas.Map.Views.{Contains-from_any}
use lib.Dec.{eqb}
use Rattle.lw_calls.specs.declared.sizes.Sizes.{Sizes}
use Rattle.lw_calls.specs.declared.touch.Role.{Role}
use Rattle.lw_calls.specs.declared.touch.Role.TheVariants.{Slot}
use Rattle.lw_order.specs.Roles.{HasEachOnce}
use Rattle.lw_order.specs.Rule.{IsRoleWithin}
use Rattle.lw_order.proofs.RoleLaws.{contains_first, contains_more, contains_map}

abbrev slot_roles : List ℕ → List Role
slot_roles slots = map (λ s. Slot s) slots

-- a slot is one of these, or differs from each
has_or_not : (slot : ℕ) (slots : List ℕ) → Contains slots slot ⊎ AllByRecursion (λ y. eqb slot y ≡ false) slots
has_or_not slot [] = inr tt
has_or_not slot (s ∷ slots) = step (eqb slot s) refl (has_or_not slot slots)
  where
    step : (t : Bool) → eqb slot s ≡ t → Contains slots slot ⊎ AllByRecursion (λ y. eqb slot y ≡ false) slots → Contains (s ∷ slots) slot ⊎ AllByRecursion (λ y. eqb slot y ≡ false) (s ∷ slots)
    step true is later = inl (contains_first s slot slots (sym (eqb-true slot s is)))
    step false is later = ⊎_elim (λ has. inl (contains_more s slot slots has)) (λ others. inr (is, others)) later

distinct_slots : (slots : List ℕ) → HasEachOnce (slot_roles slots) → IsDistinct eqb slots
unfolding IsDistinct
distinct_slots [] once = tt
distinct_slots (s ∷ slots) once =
    (⊎_elim (λ has. absurd (once.0 (contains_map (λ k. Slot k) slots s has))) (λ others. others) (has_or_not s slots), distinct_slots slots once.1)

once_end : (front back : List Role) → HasEachOnce (front ++ back) → HasEachOnce back
once_end [] back once = once
once_end (role ∷ front) back once = once_end front back once.1

fit_end : (sizes : Sizes) (front back : List Role) → All (IsRoleWithin sizes) (front ++ back) → All (IsRoleWithin sizes) back
fit_end sizes [] back fit = fit
fit_end sizes (role ∷ front) back fit = fit_end sizes front back (All-tail (IsRoleWithin sizes) role (front ++ back) fit)

slots_below : (sizes : Sizes) (slots : List ℕ) → All (IsRoleWithin sizes) (slot_roles slots) → All (λ s. s < sizes.slots) slots
slots_below sizes [] fit = All-nil (λ s. s < sizes.slots)
slots_below sizes (s ∷ slots) fit =
    All-cons (λ k. k < sizes.slots) s slots (All-head (IsRoleWithin sizes) (Slot s) (slot_roles slots) fit)
    (slots_below sizes slots (All-tail (IsRoleWithin sizes) (Slot s) (slot_roles slots) fit))

-- no number below n is left out of n different ones
none_left : (slots : List ℕ) (n slot : ℕ) → IsDistinct eqb slots → All (λ s. s < n) slots → length slots ≡ n → slot < n → AllByRecursion (λ y. eqb slot y ≡ false) slots → ⊥
none_left slots n slot distinct below many in_range others =
    let most = length-le_from_distinct_below (slot ∷ slots) n (IsDistinct-cons eqb slot slots others distinct)
    (λ q there. All-contains (λ s. s < n) (slot ∷ slots) q (All-cons (λ s. s < n) slot slots in_range below) (Contains-from_any eqb-true q (slot ∷ slots) there)) in
    omega (arith, most, many)

-- among roles of these sizes, of which none stands twice, as many slots as there are, are all of them
pub each_slot : (sizes : Sizes) (first roles : List Role) (slots : List ℕ) → roles ≡ first ++ slot_roles slots → HasEachOnce roles → All (IsRoleWithin sizes) roles → length slots ≡ sizes.slots → (slot : ℕ) → slot < sizes.slots → Contains slots slot
each_slot sizes first roles slots parts once fit many slot below =
    let distinct = distinct_slots slots (once_end first (slot_roles slots) (subst HasEachOnce parts once)) in
    let all_below = slots_below sizes slots (fit_end sizes first (slot_roles slots) (subst (λ rs. All (IsRoleWithin sizes) rs) parts fit)) in
    ⊎_elim (λ has. has) (λ others. absurd (none_left slots sizes.slots slot distinct all_below many below others)) (has_or_not slot slots)
