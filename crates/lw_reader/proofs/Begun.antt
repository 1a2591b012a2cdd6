-- A reader that has read nothing represents no lines.
use Rattle.std.proofs.Common.{◌≡◌, ℕ, ◌≤◌, false, get_or, replicate, ⊎_elim, subst, sym}
use Rattle.std.proofs.lemmas.Bool.{cases_lt}
use Rattle.std.proofs.lemmas.List.{length-replicate, get_or-replicate, get_or_past}

-- none of so many is given
pub none_given : (n i : ℕ) → get_or (replicate n false) i false ≡ false
none_given n i =
    ⊎_elim (λ below. get_or-replicate n i false false below) (λ past. get_or_past (replicate n false) i false (subst (λ (k : ℕ). k ≤ i) (sym (length-replicate n false)) past)) (cases_lt i n)
