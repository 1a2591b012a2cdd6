-- A desk that differs from another in one slot's layer, its bounds and its place in the list shows the same layers elsewhere.
use Rattle.std.proofs.Common.{◌≡◌, ℕ, ◌==◌, Bool, true, false, ℤ, Some, None, find, refl, sym, ap, ◌∙◌, eqb-true}
use Rattle.std.specs.Prelude.{if◌then◌else◌}
use Rattle.std.proofs.Math.Path.{fun_ext}
use Rattle.lw_region.specs.Rectangle.{has_pixel}
use Rattle.lw_machine.specs.Desk.{Desk}
use Rattle.lw_machine.specs.Screen.{bounds_have, screen_bounds, top}
use Rattle.lw_changes.proofs.Places.{passes}

pub record IsBeside (d a : Desk) (slot : ℕ) : Type 0 where
  pub sizes : a.sizes ≡ d.sizes
  pub found : (test : ℕ → Bool) → test slot ≡ false → find test a.front_to_back ≡ find test d.front_to_back
  pub bounds : (s : ℕ) → (s == slot) ≡ false → a.bounds s ≡ d.bounds s
  pub slots : (s : ℕ) → (s == slot) ≡ false → a.slot s ≡ d.slot s

-- where that layer lies on neither desk, the same one is on top
pub same_top : (d a : Desk) (slot : ℕ) (x y : ℤ) → IsBeside d a slot → bounds_have (d.bounds slot) x y ≡ false
    → bounds_have (a.bounds slot) x y ≡ false → top a x y ≡ top d x y
unfolding top
same_top d a slot x y beside before after = λ i. if has_pixel (screen_bounds (beside.sizes i)) x y then found i else None
  where
    same : (s : ℕ) → bounds_have (a.bounds s) x y ≡ bounds_have (d.bounds s) x y
    same s = go (s == slot) refl
      where
        go : (b : Bool) → (s == slot) ≡ b → bounds_have (a.bounds s) x y ≡ bounds_have (d.bounds s) x y
        go true e =
            let is : s ≡ slot = eqb-true s slot e in
            ap (λ k. bounds_have (a.bounds k) x y) is ∙ (after ∙ sym (ap (λ k. bounds_have (d.bounds k) x y) is ∙ before))
        go false e = ap (λ o. bounds_have o x y) (beside.bounds s e)

    found : find (λ s. bounds_have (a.bounds s) x y) a.front_to_back ≡ find (λ s. bounds_have (d.bounds s) x y) d.front_to_back
    found =
        beside.found (λ s. bounds_have (a.bounds s) x y) after
        ∙ ap (λ (f : ℕ → Bool). find f d.front_to_back) (fun_ext same)

-- what is on top of a place is found in the list, and its bounds have the place
pub record IsOnTop (d : Desk) (x y : ℤ) (s : ℕ) : Type 0 where
  pub found : find (λ t. bounds_have (d.bounds t) x y) d.front_to_back ≡ Some s
  pub has : bounds_have (d.bounds s) x y ≡ true

pub on_top : (d : Desk) (x y : ℤ) (s : ℕ) → top d x y ≡ Some s → IsOnTop d x y s
unfolding top
on_top d x y s = go (has_pixel (screen_bounds d.sizes) x y)
  where
    go : (b : Bool) → (if b then find (λ t. bounds_have (d.bounds t) x y) d.front_to_back else None) ≡ Some s → IsOnTop d x y s
    go true is = record { found = is; has = passes (λ t. bounds_have (d.bounds t) x y) d.front_to_back s is }
    go false is = absurd (cc)
