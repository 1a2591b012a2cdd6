use Rattle.std.proofs.Common.{◌∷◌, [], refl, inl, inr, arith}
use Rattle.std.proofs.lemmas.Bool.{false≢true}
use Rattle.lw_cases.proofs.orders.lock_keeps_others_off.Goals as goal

pub returns-clause-within : goal.returns-clause-within
returns-clause-within c =
    record { illegal = refl; before = (0 ∷ 1 ∷ [], refl); ends = inl (omega arith, λ (rest, legal). false≢true legal) }

pub returns-clause-short : goal.returns-clause-short
returns-clause-short c = record { illegal = refl; before = (0 ∷ 1 ∷ [], refl); ends = inr refl }
