-- Laws of the list of layers: which layer is on top of a place, and which slots stand in the list.
use Rattle.std.proofs.Common.{◌≡◌, ℕ, ◌<◌, ◌≤◌, Bool, true, false, List, [], ◌∷◌, length, replicate, ℤ, Option, None, refl, sym, ap, subst, ◌∙◌, ◌⊎◌, inl, inr, arith}
use Rattle.std.specs.Prelude.{if◌then◌else◌}
use Rattle.std.specs.List.{All}
use Rattle.std.proofs.lemmas.List.{get_or_past, get_or-replicate, length-replicate}
use Rattle.std.proofs.lemmas.List.Elements.{All-nil, All-cons}
use Rattle.std.proofs.lemmas.Bool.{false≢true, cases_lt}
use Rattle.lw_region.specs.Rectangle.{Rectangle}
use Rattle.lw_calls.specs.declared.sizes.Sizes.{Sizes}
use Rattle.lw_calls.specs.Limits.{IsWithinLimits}
use Rattle.lw_calls.specs.Orders.{occurrences}
use Rattle.lw_machine.specs.Desk.{Desk, is_the}
use Rattle.lw_machine.specs.Screen.{top_at, top, is_shown}
use Rattle.lw_machine.specs.Reveal.{has_bounds}
use Rattle.lw_machine.specs.Parts.{info_part}
use Rattle.lw_machine.proofs.ListSound.{has_first, has_rest}
use Rattle.lw_stack.specs.Stack.{Stack, bounds_at, top_in, is_top_in, IsPlacedOn, IsStack, StandsForInfo}
use Rattle.lw_stack.specs.Laws.{ListLaw}

-- the top layer of a place of the desk is the list's
pub top_is_listed : (v : Stack) (d : Desk) → d.sizes ≡ v.sizes → StandsForInfo v (info_part d) → (x y : ℤ)
    → top d x y ≡ top_in v x y
unfolding top top_in
top_is_listed v d same h x y =
    ap (λ (z : Sizes). top_at z d.bounds d.front_to_back x y) same
    ∙ (ap (λ slots. top_at v.sizes d.bounds slots x y) h.front_to_back
    ∙ ap (λ (bounds : ℕ → Option Rectangle). top_at v.sizes bounds v.front_to_back x y) (λ i. λ s. h.bounds s i))

-- a layer is shown where it is on top by the list
pub shown_is_top : (v : Stack) (d : Desk) → d.sizes ≡ v.sizes → StandsForInfo v (info_part d) → (s : ℕ) (x y : ℤ)
    → is_shown d s x y ≡ is_top_in v s x y
shown_is_top v d same h s x y = ap (λ o. is_the o s) (top_is_listed v d same h x y)

pub list_law : ListLaw
list_law v d same h = record { top = top_is_listed v d same h; shown = shown_is_top v d same h }

-- what holds of each slot that stands in a list holds of its entries
pub all_entries : (P : ℕ → Type 0) (us : List ℕ) → ((t : ℕ) → 0 < occurrences t us → P t) → All P us
all_entries P [] h = All-nil P
all_entries P (u ∷ us) h = All-cons P u us (h u (has_first u us)) (all_entries P us (λ t k. h t (has_rest t u us k)))

-- a slot that stands in the list has bounds
pub listed_has_bounds : (v : Stack) → IsStack v → (s : ℕ) → 0 < occurrences s v.front_to_back
    → has_bounds (bounds_at v.bounds s) ≡ true
listed_has_bounds v h s stands = by_test (has_bounds (bounds_at v.bounds s)) (h.listed s)
  where
    by_test : (b : Bool) → occurrences s v.front_to_back ≡ (if b then 1 else 0) → b ≡ true
    by_test true e = refl
    by_test false e = absurd (omega arith)

-- a slot with bounds is one of those that there are
pub bounded_is_slot : (v : Stack) → IsStack v → (s : ℕ) → has_bounds (bounds_at v.bounds s) ≡ true → s < v.sizes.slots
bounded_is_slot v h s has =
    by_order (cases_lt s (length v.bounds))
  where
    by_order : (s < length v.bounds) ⊎ (length v.bounds ≤ s) → s < v.sizes.slots
    by_order (inl below) = omega (arith, below, h.many)
    by_order (inr past) = absurd (false≢true (ap has_bounds (sym (get_or_past v.bounds s None past)) ∙ has))

-- each entry of the list is one of the slots that there are
pub entries_are_slots : (v : Stack) → IsStack v → All (λ s. s < v.sizes.slots) v.front_to_back
entries_are_slots v h =
    all_entries (λ s. s < v.sizes.slots) v.front_to_back (λ s stands. bounded_is_slot v h s (listed_has_bounds v h s stands))

-- each entry of the list is an index of the bounds
pub entries_within_bounds : (v : Stack) → IsStack v → All (λ s. s < length v.bounds) v.front_to_back
entries_within_bounds v h = rw h.many (entries_are_slots v h)

-- where there are no bounds, no slot has any
pub nowhere : (n s : ℕ) → bounds_at (replicate n None) s ≡ None
nowhere n s =
    by_order (cases_lt s n)
  where
    by_order : (s < n) ⊎ (n ≤ s) → bounds_at (replicate n None) s ≡ None
    by_order (inl below) = get_or-replicate n s None None below
    by_order (inr past) = get_or_past (replicate n None) s None (omega (arith, past, length-replicate {A = Option Rectangle}))

-- the list on which nothing was created is one
pub empty_is_stack : (sizes : Sizes) (slots : List ℕ) (bounds : List (Option Rectangle)) → IsWithinLimits sizes
    → slots ≡ [] → bounds ≡ replicate sizes.slots None
    → IsStack (record { sizes = sizes; front_to_back = slots; bounds = bounds; active = None })
empty_is_stack sizes slots bounds limits e f =
    rw (e, f)
    (record {
      limits = limits;
      many = length-replicate sizes.slots None;
      listed = λ s. sym (ap (λ o. if has_bounds o then 1 else 0) (nowhere sizes.slots s));
      placed = λ s. subst (IsPlacedOn sizes) (sym (nowhere sizes.slots s)) tt;
    })
