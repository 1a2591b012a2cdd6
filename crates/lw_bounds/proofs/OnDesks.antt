-- On a sound desk a layer has few rectangles.
use Rattle.std.proofs.Common.{◌≡◌, ℕ, ◌+◌, ◌*◌, ◌≤◌, Bool, true, false, not, List, refl, Option, Some, None, ap, sym, subst, ◌∙◌}
use Rattle.std.proofs.Common.{arith}
use Rattle.std.specs.Prelude.{if◌then◌else◌}
use Rattle.std.proofs.lemmas.Bool.{and_parts}
use Rattle.lw_region.specs.Rectangle.{Rectangle}
use Rattle.lw_calls.specs.declared.sizes.Sizes.{Sizes}
use Rattle.lw_calls.specs.Limits.{may_leave_screen}
use Rattle.lw_calls.specs.Orders.{occurrences}
use Rattle.lw_machine.specs.Layer.{Layer, Slot, Unopened, Live, Closed, is_live}
use Rattle.lw_machine.specs.Desk.{Desk}
use Rattle.lw_machine.specs.Screen.{top}
use Rattle.lw_machine.specs.Arrangement.{is_on_screen, is_no_larger, may_lie_at, layer_may_have_bounds}
use Rattle.lw_machine.specs.Sound.{IsPlaced, IsSlot}
use Rattle.lw_bounds.specs.Cuts.{rectangle_count}
use Rattle.lw_bounds.specs.Desks.{RectanglesAreFew}
use Rattle.lw_bounds.specs.Fronts.{front_count, rectangle_limit}
use Rattle.lw_bounds.proofs.Fronts.{squares, lists_few}

-- a layer may have the bounds that a slot has
abbrev MayHave : Sizes → Rectangle → Type 0
MayHave sizes r = (l : Layer) × (layer_may_have_bounds sizes l r ≡ true)

-- a slot with bounds is live, and its layer may have them
bounds_may : (d : Desk) (s : ℕ) (r : Rectangle) (x : Slot) → IsSlot d s x → d.bounds s ≡ Some r
    → (is_live x ≡ true) × MayHave d.sizes r
bounds_may d s r Unopened is has = let bare : None ≡ Some r = sym is ∙ has in absurd (cc)
bounds_may d s r (Live l) is has =
    let P : Option Rectangle → Type 0 = λ o. IsPlaced d.sizes l o in
    let placed : IsPlaced d.sizes l (Some r) = subst P has is.0 in
    (refl, (l, placed.may))
bounds_may d s r Closed is has = let bare : None ≡ Some r = sym is ∙ has in absurd (cc)

-- in version 1 it lies on the screen
lies_on : (sizes : Sizes) (r : Rectangle) (l : Layer) → may_leave_screen sizes.version ≡ false
    → layer_may_have_bounds sizes l r ≡ true → is_on_screen sizes r ≡ true
unfolding may_lie_at
lies_on sizes r l first may =
    let lies : may_lie_at sizes r ≡ true = (and_parts (may_lie_at sizes r) _ (and_parts _ _ may).0).0 in
    sym (ap (λ b. if b then is_no_larger sizes r else is_on_screen sizes r) first) ∙ (and_parts _ _ lies).1

pub rectangles_few : RectanglesAreFew
unfolding top
rectangles_few d s bounds visible ok has canonical shown =
    let live = bounds_may d s bounds (d.slot s) (ok.slots s) has in
    let once : occurrences s d.front_to_back ≡ 1 = ok.listed s ∙ ap (λ b. if b then 1 else 0) live.0 in
    let few = lists_few d.sizes d.bounds d.front_to_back s bounds visible (omega (arith, once)) has canonical shown in
    by_version (may_leave_screen d.sizes.version) (is_on_screen d.sizes bounds)
    (λ first. lies_on d.sizes bounds live.1.0 first live.1.1) (front_count s d.front_to_back) few
  where
    wider : (n : ℕ) → rectangle_limit true n ≤ rectangle_limit false n
    wider n = squares (2 * n + 1) (2 * n + 3) (omega arith)

    by_version : (leaves lies : Bool) → (leaves ≡ false → lies ≡ true) → (n : ℕ)
        → rectangle_count bounds visible ≤ rectangle_limit lies n
        → rectangle_count bounds visible ≤ rectangle_limit (not leaves) n
    by_version true true is n few = let more = wider n in omega (arith, few, more)
    by_version true false is n few = few
    by_version false lies is n few = subst (λ b. rectangle_count bounds visible ≤ rectangle_limit b n) (is refl) few
