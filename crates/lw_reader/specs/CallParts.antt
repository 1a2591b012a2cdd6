-- For private contracts.
-- What the line of a call tells of the layers, the bitmap and the hooks that it names.
use Rattle.std.specs.Prelude.{◌≡◌, ℕ, ◌==◌, Bool, List, [], ◌∷◌}
use Rattle.std.specs.List.{list_any}
use Rattle.lw_grammar.specs.Statements.{Act, PutAct}
use Rattle.lw_grammar.specs.Told.{and_name, place_among}

-- the number of the first layer that a line names, below lines that name these, and 0 where it names none
abbrev pub first_place : List (List ℕ) → List (List ℕ) → ℕ
first_place names [] = 0
first_place names (l ∷ layers) = place_among names l

-- the number of the second one, and 0 where it names none
abbrev pub second_place : List (List ℕ) → List (List ℕ) → ℕ
second_place names (l ∷ m ∷ layers) = place_among (and_name names l) m
second_place names layers = 0

-- the number of the bitmap that an act names, where the bitmaps have these names, and 0 where it names none
abbrev pub bitmap_place : List (List ℕ) → Act → ℕ
bitmap_place bitmaps (PutAct bm area) = place_among bitmaps bm
bitmap_place bitmaps act = 0

-- the hooks that were noted are those that are named
abbrev pub AreNoted : List ℕ → (ℕ → Bool) → Type 0
AreNoted noted named = (n : ℕ) → list_any (λ m. n == m) noted ≡ named n
