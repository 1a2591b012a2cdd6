-- Owners of rows.
use Rattle.std.proofs.Common.{◌≡◌, ℕ, ◌+◌, ◌<◌, ◌≤◌, Bool, true, false, nat_le, nat_lt, if◌then◌else◌, List, [], ◌∷◌, length, get_or, Some, refl, sym, ap, ◌∙◌, subst, ⊎_elim, arith}
use Rattle.std.specs.List.{All}
use Rattle.std.proofs.lemmas.Bool.{and_parts, leb-true, ltb-true, cases_lt, cases_eq}
use Rattle.std.proofs.lemmas.Bool.Decides.{nat_tests}
use Rattle.std.proofs.lemmas.List.{get_or_past, get_or_read, get_or_default}
use Rattle.std.proofs.lemmas.List.Elements.{All-head, All-tail}
use Rattle.lw_screens.specs.Display.{Display, IsDisplay, screen_of, has_row, first_with, owner_of}
use Rattle.lw_screens.specs.declared.screen.Screen.{Screen}

-- a row has the owner of another one where each screen has both or none
first_same : (screens : List Screen) (order : List ℕ) (y z : ℕ) → ((k : ℕ) → has_row (screen_of screens k) y ≡ has_row (screen_of screens k) z)
    → first_with screens order y ≡ first_with screens order z
first_same screens [] y z same = refl
first_same screens (k ∷ behind) y z same =
    ap (λ t. if t then Some k else first_with screens behind y) (same k)
    ∙ ap (λ o. if has_row (screen_of screens k) z then Some k else o) (first_same screens behind y z same)

-- a screen that hasn't the row isn't its owner
pub owner_next : (screens : List Screen) (left behind order : List ℕ) (k y : ℕ) → left ≡ k ∷ behind → first_with screens left y ≡ first_with screens order y
    → has_row (screen_of screens k) y ≡ false → first_with screens behind y ≡ first_with screens order y
owner_next screens left behind order k y is same off =
    sym (ap (λ t. if t then Some k else first_with screens behind y) off) ∙ (sym (ap (λ ks. first_with screens ks y) is) ∙ same)

-- no row is in a screen without rows
none_there : (y : ℕ) → has_row (record { top = 0; height = 0 }) y ≡ false
none_there y = grind (arith, nat_tests)

-- a row has the owner of another one where each screen that there is has both or none
pub owner_same : (screens : List Screen) (order : List ℕ) (y z : ℕ)
    → ((k : ℕ) → k < length screens → has_row (screen_of screens k) y ≡ has_row (screen_of screens k) z) → first_with screens order y ≡ first_with screens order z
owner_same screens order y z same =
    first_same screens order y z
    (λ k. ⊎_elim (λ (there : k < length screens). same k there)
    (λ (past : length screens ≤ k).
    let P : Screen → Type 0 = λ s. has_row s y ≡ has_row s z in
    subst P (sym (get_or_past screens k (record { top = 0; height = 0 }) past)) (none_there y ∙ sym (none_there z)))
    (cases_lt k (length screens)))

-- the element that was read is the screen of its number
pub screen_read : (screens : List Screen) (k : ℕ) (s : Screen) → k < length screens → s ≡ get_or screens k s → s ≡ screen_of screens k
screen_read screens k s there read = get_or_read screens k s there read (record { top = 0; height = 0 })

-- the same of an element that was read with another default
pub read_off : (screens : List Screen) (k y : ℕ) (d : Screen) → k < length screens → has_row (get_or screens k d) y ≡ false → has_row (screen_of screens k) y ≡ false
read_off screens k y d there off = subst (λ (s : Screen). has_row s y ≡ false) (get_or_default screens k d (record { top = 0; height = 0 }) there) off

-- up to an edge all screens looked at have all rows or none, one screen more
pub alike_more : (screens : List Screen) (i row edge next : ℕ) (s : Screen) → i < length screens → s ≡ get_or screens i s → next ≤ edge
    → ((k y : ℕ) → k < i → row ≤ y → y < edge → has_row (screen_of screens k) y ≡ has_row (screen_of screens k) row)
    → ((y : ℕ) → row ≤ y → y < next → has_row s y ≡ has_row s row)
    → (k y : ℕ) → k < i + 1 → row ≤ y → y < next → has_row (screen_of screens k) y ≡ has_row (screen_of screens k) row
alike_more screens i row edge next s there read near before here k y low from to =
    ⊎_elim
    (λ (same : k ≡ i).
    let P : Screen → Type 0 = λ t. has_row t y ≡ has_row t row in
    subst P (screen_read screens i s there read ∙ ap (screen_of screens) (sym same)) (here y from to))
    (λ (other : k ≡ i → ⊥). before k y (omega arith) from (omega arith))
    (cases_eq k i)

-- which rows a screen has
pub row_parts : (s : Screen) (y : ℕ) → has_row s y ≡ true → (s.top ≤ y) × (y < s.top + s.height)
row_parts s y has =
    let parts = and_parts (nat_le s.top y) (nat_lt y (s.top + s.height)) has in
    (leb-true s.top y parts.0, ltb-true y (s.top + s.height) parts.1)

-- the first screen that has a row is of the given numbers, and has it
first_there : (screens : List Screen) (order : List ℕ) (n y k : ℕ) → All (λ j. j < n) order → first_with screens order y ≡ Some k
    → (k < n) × (has_row (screen_of screens k) y ≡ true)
first_there screens [] n y k all is = let no : ⊥ = cc in absurd no
first_there screens (j ∷ behind) n y k all is =
    choice screens j behind n y k (has_row (screen_of screens j) y) refl (All-head (λ i. i < n) j behind all) is
    (λ rest. first_there screens behind n y k (All-tail (λ i. i < n) j behind all) rest)
  where
    choice : (screens : List Screen) (j : ℕ) (behind : List ℕ) (n y k : ℕ) (t : Bool) → has_row (screen_of screens j) y ≡ t → j < n
        → (if t then Some j else first_with screens behind y) ≡ Some k
        → (first_with screens behind y ≡ Some k → (k < n) × (has_row (screen_of screens k) y ≡ true)) → (k < n) × (has_row (screen_of screens k) y ≡ true)
    choice screens j behind n y k true has there is rest =
        let same : j ≡ k = cc in
        (omega arith, subst (λ i. has_row (screen_of screens i) y ≡ true) same has)
    choice screens j behind n y k false has there is rest = rest is

-- the owner of a row is a screen of the display, and has the row
pub owner_there : (d : Display) (y k : ℕ) → IsDisplay d → owner_of d y ≡ Some k
    → (k < length d.screens) × ((screen_of d.screens k).top ≤ y) × (y < (screen_of d.screens k).top + (screen_of d.screens k).height)
owner_there d y k ok is =
    let there = first_there d.screens d.order (length d.screens) y k ok.order is in
    let parts = row_parts (screen_of d.screens k) y there.1 in
    (there.0, parts.0, parts.1)
