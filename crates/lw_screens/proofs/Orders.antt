-- Orders have the number of each screen once.
use Rattle.std.proofs.Common.{◌≡◌, ℕ, zero, suc, ◌+◌, ◌<◌, nat_lt, if◌then◌else◌, List, [], ◌∷◌, ◌++◌, length}
use Rattle.std.proofs.Common.{refl, sym, ap, ◌∙◌, subst, ⊎_elim, arith}
use Rattle.std.specs.List.{All}
use Rattle.std.proofs.lemmas.Bool.{lt-ltb, ne_eqb, cases_eq}
use Rattle.std.proofs.lemmas.Bool.Decides.{nat_tests}
use Rattle.std.proofs.lemmas.List.{length-set}
use Rattle.std.proofs.lemmas.List.Elements.{All-head, All-tail}
use Rattle.lw_calls.specs.Orders.{occurrences}
use Rattle.lw_calls.proofs.OrdersComplete.{occurs_again, occurs_as_before}
use Rattle.lw_machine.specs.Arrangement.{without}
use Rattle.lw_machine.proofs.ListSound.{occurrences_without_same, occurrences_without_other, occurrences_moved}
use Rattle.lw_screens.specs.Display.{Display, screen_of, dragged, with_top, after, acted_on, placed, last_first, opened, after_all}
use Rattle.lw_screens.specs.Laws.{HasEachScreenOnce}
use Rattle.lw_screens.specs.declared.act.Act.{Act}
use Rattle.lw_screens.specs.declared.act.Act.TheVariants.{Drag, ToFront, ToBack}
use Rattle.lw_screens.proofs.Changes.{placed_length}

-- a number that stands in a list once is put last: each stands in it as often as before
moved_last : (j k : ℕ) (order : List ℕ) → occurrences j order ≡ 1
    → occurrences k (without j order ++ j ∷ []) ≡ occurrences k order
moved_last j k order once =
    ⊎_elim
    (λ (same : j ≡ k).
    subst (λ n. occurrences n (without j order ++ j ∷ []) ≡ occurrences n order) same
    (occurs_again j (without j order) ∙ (ap (λ n. n + 1) (occurrences_without_same j order) ∙ sym once)))
    (λ (other : j ≡ k → ⊥). occurs_as_before k j (without j order) other ∙ occurrences_without_other j k order (ne_eqb j k other))
    (cases_eq j k)

-- an act on a screen that stands in the order once leaves how often each does, and how many screens there are
act_once : (act : Act) (d : Display) → occurrences (acted_on act) d.order ≡ 1
    → (k : ℕ) → occurrences k (after act d).order ≡ occurrences k d.order
act_once (Drag j dy) d once k = refl
act_once (ToFront j) d once k = occurrences_moved j k d.order once
act_once (ToBack j) d once k = moved_last j k d.order once

as_many : (act : Act) (d : Display) → length (after act d).screens ≡ length d.screens
as_many (Drag j dy) d = let s = screen_of d.screens j in length-set d.screens j (with_top s (dragged d.height s.top dy))
as_many (ToFront j) d = refl
as_many (ToBack j) d = refl

acts_once : (acts : List Act) (d : Display) → All (λ act. acted_on act < length d.screens) acts → HasEachScreenOnce d
    → HasEachScreenOnce (after_all acts d)
acts_once [] d there once = once
acts_once (act ∷ acts) d there once =
    let n : ℕ = length d.screens in
    let long : n ≡ length (after act d).screens = sym (as_many act d) in
    let on : acted_on act < n = All-head (λ a. acted_on a < n) act acts there in
    let one : occurrences (acted_on act) d.order ≡ 1 =
    once (acted_on act) ∙ ap (λ t. if t then 1 else 0) (lt-ltb (acted_on act) n on) in
    acts_once acts (after act d)
    (subst (λ m. All (λ a. acted_on a < m) acts) long (All-tail (λ a. acted_on a < n) act acts there))
    (λ k. act_once act d one k ∙ (once k ∙ ap (λ m. if nat_lt k m then 1 else 0) long))

-- the numbers of so many screens, each once
numbers_once : (n k : ℕ) → occurrences k (last_first n) ≡ (if nat_lt k n then 1 else 0)
numbers_once zero k = grind (arith, nat_tests)
numbers_once (suc n) k = let rest = numbers_once n k in grind (arith, nat_tests)

pub orders_once : (height : ℕ) (tops heights : List ℕ) (acts : List Act) → length heights ≡ length tops
    → All (λ act. acted_on act < length tops) acts
    → HasEachScreenOnce (after_all acts (opened height tops heights))
orders_once height tops heights acts alike there =
    let long : length tops ≡ length (placed tops heights) = sym (placed_length tops heights alike) in
    acts_once acts (opened height tops heights) (subst (λ n. All (λ act. acted_on act < n) acts) long there)
    (λ k. numbers_once (length tops) k ∙ ap (λ n. if nat_lt k n then 1 else 0) long)
