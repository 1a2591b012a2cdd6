-- Lists in order without repetition, and whole numbers one after another.
use Rattle.std.specs.Prelude.{◌≡◌, ℕ, zero, suc, Bool, true, cond, List, [], ◌∷◌, ℤ, pos, negsuc, ◌+ℤ◌, ◌-ℤ◌}

-- a put into a list that is in order, where it is not there already
abbrev pub put_in_order : {A : Type 0} → (A → A → Bool) → A → List A → List A
put_in_order before a [] = a ∷ []
put_in_order before a (b ∷ bs) =
    cond (before a b) (a ∷ b ∷ bs) (cond (before b a) (b ∷ put_in_order before a bs) (b ∷ bs))

-- the elements of the list in order, each once
abbrev pub in_order : {A : Type 0} → (A → A → Bool) → List A → List A
in_order before [] = []
in_order before (a ∷ rest) = put_in_order before a (in_order before rest)

-- a comes before each element of the list
abbrev pub ComesBefore : {A : Type 0} → (A → A → Bool) → A → List A → Type 0
ComesBefore before a [] = Unit {0}
ComesBefore before a (b ∷ bs) = (before a b ≡ true) × ComesBefore before a bs

-- each element comes before all that stand after it, so none stands twice
abbrev pub IsInOrder : {A : Type 0} → (A → A → Bool) → List A → Type 0
IsInOrder before [] = Unit {0}
IsInOrder before (a ∷ rest) = ComesBefore before a rest × IsInOrder before rest

-- the number itself, or 0 where it is below 0
abbrev pub natural : ℤ → ℕ
natural (pos n) = n
natural (negsuc n) = 0

-- so many whole numbers from z on
abbrev pub count_up : ℤ → ℕ → List ℤ
count_up z zero = []
count_up z (suc n) = z ∷ count_up (z +ℤ pos 1) n

-- the whole numbers from low to high, both inclusive
abbrev pub span : ℤ → ℤ → List ℤ
span low high = count_up low (natural (high +ℤ pos 1 -ℤ low))
