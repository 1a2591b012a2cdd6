-- Laws on the shelf of hooks.
use Rattle.std.proofs.Common.{◌≡◌, refl, ap, sym, ℕ, zero, suc, ◌==◌, Bool, true, false, if◌then◌else◌, List, [], ◌∷◌, map, set, Option, Some, None, option_map, ◌∙◌}
use Rattle.std.specs.List.{slice_index_or}
use Rattle.std.proofs.lemmas.Bool.{eqb-true, eq-eqb, false≢true}
use Rattle.std.proofs.lemmas.List.{get_or-set_other}
use Rattle.lw_machine.specs.Hook.{Hook}
use Rattle.lw_machine.specs.Desk.{shelf_of}

-- a shelf of all hooks has each of them at its number
pub all_there : {A : Type 0} (hook : A → Hook) (xs : List A) (n : ℕ) → slice_index_or (map (λ held. option_map hook held) (map (λ x. Some x) xs)) n None ≡ shelf_of (map hook xs) n
all_there hook [] n = refl
all_there hook (x ∷ xs) zero = refl
all_there hook (x ∷ xs) (suc n) = all_there hook xs n

-- what was taken isn't there
taken : (shelf : List (Option Hook)) (n : ℕ) → slice_index_or (set shelf n None) n None ≡ None
taken [] n = refl
taken (h ∷ hs) zero = refl
taken (h ∷ hs) (suc n) = taken hs n

taken_by : (t : Bool) (shelf : List (Option Hook)) (hook n : ℕ) → (n == hook) ≡ t → slice_index_or (set shelf hook None) n None ≡ (if t then None else slice_index_or shelf n None)
taken_by true shelf hook n same = ap (λ k. slice_index_or (set shelf k None) n None) (sym (eqb-true n hook same)) ∙ taken shelf n
taken_by false shelf hook n other = get_or-set_other shelf hook n None None (λ same. false≢true (sym other ∙ eq-eqb n hook same))

-- the shelf after a hook was taken: that one isn't there, and all others are as before
pub shelf_after : (shelf : List (Option Hook)) (hook n : ℕ) → slice_index_or (set shelf hook None) n None ≡ (if n == hook then None else slice_index_or shelf n None)
shelf_after shelf hook n = taken_by (n == hook) shelf hook n refl
