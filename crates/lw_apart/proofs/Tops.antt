-- Where a task's layers are shown, on a desk and on one that has its layers alone.
use Rattle.std.proofs.Common.{◌≡◌, ℕ, ◌==◌, Bool, true, false, List, [], ◌∷◌, ℤ, Option, Some, None, find, refl, sym, ap, ◌∙◌}
use Rattle.std.specs.Prelude.{if◌then◌else◌}
use Rattle.std.specs.List.{filter}
use Rattle.std.proofs.lemmas.Bool.{and_parts, both_ways, eqb-true, eqb-false, false_from_ne_true}
use Rattle.lw_region.specs.Rectangle.{Rectangle, has_pixel}
use Rattle.lw_machine.specs.Desk.{Desk, is_the}
use Rattle.lw_machine.specs.Screen.{bounds_have, screen_bounds, top, is_shown}
use Rattle.lw_apart.specs.Apart.{Shares, OwnsColumns}

-- bounds, where there are some, have columns of the task alone
abbrev pub IsIn : Shares → ℕ → Option Rectangle → Type 0
IsIn shares task None = Unit {0}
IsIn shares task (Some r) = OwnsColumns shares task r

-- such bounds have no place in a column of another task
pub off_columns : (shares : Shares) (task : ℕ) (o : Option Rectangle) (x y : ℤ) → IsIn shares task o
    → (shares.column x ≡ task → ⊥) → bounds_have o x y ≡ false
off_columns shares task None x y has other = refl
off_columns shares task (Some r) x y has other = false_from_ne_true _ (λ inside. other (has x (and_parts _ _ inside).0))

-- what is found among all is found among those that are left, where no other passes
found_own : (own test other : ℕ → Bool) (us : List ℕ) → ((t : ℕ) → own t ≡ true → test t ≡ other t)
    → ((t : ℕ) → own t ≡ false → test t ≡ false) → find test us ≡ find other (filter own us)
found_own own test other [] same off = refl
found_own own test other (u ∷ us) same off = step (own u) refl (found_own own test other us same off)
  where
    step : (b : Bool) → own u ≡ b → find test us ≡ find other (filter own us)
        → (if test u then Some u else find test us) ≡ find other (if b then u ∷ filter own us else filter own us)
    step true is h = λ i. if same u is i then Some u else h i
    step false is h = ap (λ t. if t then Some u else find test us) (off u is) ∙ h

-- a number that doesn't pass isn't found
pub not_found : (test : ℕ → Bool) (us : List ℕ) (s : ℕ) → test s ≡ false → is_the (find test us) s ≡ false
not_found test [] s off = refl
not_found test (u ∷ us) s off = step (test u) refl (not_found test us s off)
  where
    step : (b : Bool) → test u ≡ b → is_the (find test us) s ≡ false → is_the (if b then Some u else find test us) s ≡ false
    step true is h = false_from_ne_true (u == s) (λ same. both_ways (test s) off (ap test (sym (eqb-true u s same)) ∙ is))
    step false is h = h

-- nor is it the top where places off the screen have none
pub off_top : (on : Bool) (o : Option ℕ) (s : ℕ) → is_the o s ≡ false → is_the (if on then o else None) s ≡ false
off_top true o s off = off
off_top false o s off = refl

-- Two desks show the task's layers on the same places: the one has them in the order in which they stand in the other's list,
-- with the same bounds, and all bounds of the other are in columns of their own tasks.
pub record AreOrderedAlike (shares : Shares) (task : ℕ) (d e : Desk) : Type 0 where
  pub sizes : d.sizes ≡ e.sizes
  pub list : e.front_to_back ≡ filter (λ s. shares.slot s == task) d.front_to_back
  pub bounds : (s : ℕ) → (shares.slot s == task) ≡ true → d.bounds s ≡ e.bounds s
  pub columns : (s : ℕ) → IsIn shares (shares.slot s) (d.bounds s)

module _ (shares : Shares) (task : ℕ) (d e : Desk) (alike : AreOrderedAlike shares task d e) where
  abbrev pub own : ℕ → Bool
  own s = shares.slot s == task

  -- in the task's columns the same layer is on top
  pub same_top : (x y : ℤ) → shares.column x ≡ task → top d x y ≡ top e x y
  unfolding top
  same_top x y here = λ i. if has_pixel (screen_bounds (alike.sizes i)) x y then found i else None
    where
      found : find (λ s. bounds_have (d.bounds s) x y) d.front_to_back ≡ find (λ s. bounds_have (e.bounds s) x y) e.front_to_back
      found =
          found_own own (λ s. bounds_have (d.bounds s) x y) (λ s. bounds_have (e.bounds s) x y) d.front_to_back
          (λ s mine. ap (λ o. bounds_have o x y) (alike.bounds s mine))
          (λ s not_mine. off_columns shares (shares.slot s) (d.bounds s) x y (alike.columns s)
          (λ there. eqb-false (shares.slot s) task not_mine (sym there ∙ here)))
          ∙ ap (find (λ s. bounds_have (e.bounds s) x y)) (sym alike.list)

  same_shown_at : (s : ℕ) → own s ≡ true → (x y : ℤ) → is_shown d s x y ≡ is_shown e s x y
  unfolding top
  same_shown_at s mine x y = step (shares.column x == task) refl
    where
      off : (shares.column x == task) ≡ false → bounds_have (d.bounds s) x y ≡ false
      off differ =
          off_columns shares (shares.slot s) (d.bounds s) x y (alike.columns s)
          (λ there. eqb-false (shares.column x) task differ (there ∙ eqb-true (shares.slot s) task mine))

      step : (b : Bool) → (shares.column x == task) ≡ b → is_shown d s x y ≡ is_shown e s x y
      step true here = ap (λ o. is_the o s) (same_top x y (eqb-true (shares.column x) task here))
      step false differ =
          off_top (has_pixel (screen_bounds d.sizes) x y) _ s
          (not_found (λ t. bounds_have (d.bounds t) x y) d.front_to_back s (off differ))
          ∙ sym (off_top (has_pixel (screen_bounds e.sizes) x y) _ s
          (not_found (λ t. bounds_have (e.bounds t) x y) e.front_to_back s
          (ap (λ o. bounds_have o x y) (sym (alike.bounds s mine)) ∙ off differ)))

  pub same_shown : (s : ℕ) → own s ≡ true → is_shown d s ≡ is_shown e s
  same_shown s mine = λ i x y. same_shown_at s mine x y i
