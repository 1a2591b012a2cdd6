-- The slots of a list, one after another: what is told of them, and how they are settled.
use Rattle.std.proofs.Common.{◌≡◌, ◌≢◌, ℕ, zero, suc, ◌+◌, ◌<◌, ◌≤◌, ◌==◌, false, List, [], ◌∷◌, ◌++◌, length, take, get_or, set, replicate, Option, None, ◌⊎◌, inl, inr, refl, sym, ap, subst, ◌∙◌, ⊎_elim, arith}
use Rattle.std.specs.Prelude.{if◌then◌else◌}
use Rattle.std.proofs.lemmas.Bool.{cases_eq, cases_lt, ne_eqb, eq-eqb}
use Rattle.std.proofs.lemmas.List.{get_or-set_same, get_or-set_other, get_or_default, get_or-replicate, get_or-map, length-set, length-map, length-replicate, map_more, take-map, take_all}
use Rattle.lw_calls.specs.Orders.{occurrences}
use Rattle.lw_calls.proofs.OrdersComplete.{occurs_again, occurs_as_before}
use Rattle.lw_machine.specs.Reveal.{has_bounds}
use Rattle.lw_machine.proofs.ListSound.{has_first, has_rest}
use Rattle.lw_layer.specs.View.{State, CellView}
use Rattle.lw_layer.specs.View as view
use Rattle.lw_layer.specs.Looks.{IsLookAt}
use Rattle.lw_layer.specs.declared.look.Look.{Look}
use Rattle.lw_stack.specs.Stack.{Stack, IsStack}
use Rattle.lw_engine.specs.Desks.{no_cell, cell_at}
use Rattle.lw_engine.specs.Slots.{ReadyView, IsSettled, nothing_ready}
use Rattle.lw_engine.specs.Arranging.{IsTruth, AreLooks, AreListed, slots_of, AreSettled, AreChangedAt, AreUnder}

-- a number that was added to a list
pub occurs_at_end : (s u : ℕ) (us : List ℕ) → s ≡ u → occurrences s (us ++ u ∷ []) ≡ occurrences s us + 1
occurs_at_end s u us same =
    let P : ℕ → Type 0 = λ n. occurrences s (us ++ n ∷ []) ≡ occurrences s us + 1 in
    subst P same (occurs_again s us)

pub occurs_before : (s u : ℕ) (us : List ℕ) → s ≢ u → occurrences s (us ++ u ∷ []) ≡ occurrences s us
occurs_before s u us other = occurs_as_before s u us (λ same. other (sym same))

-- a list has each of its entries, and one that stands there once isn't among those before it
pub entry_occurs : (us : List ℕ) (i d : ℕ) → i < length us → 0 < occurrences (get_or us i d) us
entry_occurs [] i d below = absurd (omega arith)
entry_occurs (u ∷ us) zero d below = has_first u us
entry_occurs (u ∷ us) (suc i) d below = has_rest (get_or us i d) u us (entry_occurs us i d (omega (arith, below)))

first_time : (us : List ℕ) (i d : ℕ) → i < length us → occurrences (get_or us i d) us ≤ 1 → occurrences (get_or us i d) (take i us) ≡ 0
first_time [] i d below once = absurd (omega (arith, below))
first_time (u ∷ us) zero d below once = refl
first_time (u ∷ us) (suc i) d below once =
    let q = get_or us i d in
    let low : i < length us = omega (arith, below) in
    let there = entry_occurs us i d low in
    let rest = first_time us i d low (omega (arith, once)) in
    omega (arith, once, there, rest)

-- Of the slots in the list so far what is told is so, and of no other one something was told.
pub record AreSeen (us : List ℕ) (cells : List CellView) (looks : List (Option Look)) : Type 0 where
  pub many : length looks ≡ length cells
  pub seen : (s : ℕ) → 0 < occurrences s us → IsTruth (cell_at cells s) (get_or looks s None)
  pub others : (s : ℕ) → s < length cells → occurrences s us ≡ 0 → get_or looks s None ≡ None

pub none_seen : (cells : List CellView) (looks : List (Option Look)) → looks ≡ replicate (length cells) None → AreSeen [] cells looks
none_seen cells looks is = record {
  many = ap length is ∙ length-replicate (length cells) None;
  seen = λ s has. absurd (omega (arith, has));
  others = λ s low none. ap (λ l. get_or l s None) is ∙ get_or-replicate (length cells) s None None low;
}

pub one_more_seen : (us : List ℕ) (u : ℕ) (cells : List CellView) (looks : List (Option Look)) (k : Option Look) → AreSeen us cells looks
    → u < length cells → IsTruth (cell_at cells u) k → AreSeen (us ++ u ∷ []) cells (set looks u k)
one_more_seen us u cells looks k so_far low one = record {
  many = length-set looks u k ∙ so_far.many;
  seen = λ s has.
      let P : Option Look → Type 0 = λ o. IsTruth (cell_at cells s) o in
      let Q : ℕ → Type 0 = λ n. IsTruth (cell_at cells n) (get_or (set looks u k) n None) in
      let R : Option Look → Type 0 = λ o. IsTruth (cell_at cells u) o in
      ⊎_elim
      (λ (same : s ≡ u). subst Q (sym same) (subst R (sym (get_or-set_same looks u k None (omega (arith, so_far.many, low)))) one))
      (λ (other : s ≢ u).
      let before = occurs_before s u us other in
      subst P (sym (get_or-set_other looks u s k None other)) (so_far.seen s (omega (arith, has, before))))
      (cases_eq s u);
  others = λ s below none.
      ⊎_elim
      (λ (same : s ≡ u). let more = occurs_at_end s u us same in absurd (omega (arith, none, more)))
      (λ (other : s ≢ u).
      get_or-set_other looks u s k None other ∙ so_far.others s below (sym (occurs_before s u us other) ∙ none))
      (cases_eq s u);
}

-- a slot that isn't in the list has no layer
pub idle_slot : (v : Stack) (cells : List CellView) (s : ℕ) → IsStack v → AreListed v cells → s < length cells
    → occurrences s v.front_to_back ≡ 0 → (cell_at cells s).state ≡ view.Live → ⊥
idle_slot v cells s ok listed low none live =
    let one : occurrences s v.front_to_back ≡ 1 = ok.listed s ∙ ap (λ o. if has_bounds o then 1 else 0) (listed s low live) in
    omega (arith, one, none)

pub all_seen : (v : Stack) (cells : List CellView) (looks : List (Option Look)) → IsStack v → AreListed v cells
    → AreSeen v.front_to_back cells looks → AreLooks cells looks
all_seen v cells looks ok listed so_far = record { many = so_far.many; each = λ s low. either s low (cases_lt 0 (occurrences s v.front_to_back)) }
  where
    untold : (c : CellView) (q : State) → (q ≡ view.Live → ⊥) → IsLookAt q c.live None
    untold c view.Unopened idle = refl
    untold c view.Live idle = absurd (idle refl)
    untold c view.Closed idle = refl

    either : (s : ℕ) → s < length cells → (0 < occurrences s v.front_to_back) ⊎ (occurrences s v.front_to_back ≤ 0)
        → IsTruth (cell_at cells s) (get_or looks s None)
    either s low (inl has) = so_far.seen s has
    either s low (inr past) =
        let none : occurrences s v.front_to_back ≡ 0 = omega (arith, past) in
        let idle = idle_slot v cells s ok listed low none in
        let P : Option Look → Type 0 = λ o. IsTruth (cell_at cells s) o in
        subst P (sym (so_far.others s low none))
        (record { look = untold (cell_at cells s) (cell_at cells s).state idle; sound = λ live. absurd (idle live) })

-- What is next, where the first k were settled: its slot isn't one of theirs.
next_slot : (made : List ReadyView) (k : ℕ) → k < length made → ((s : ℕ) → occurrences s (slots_of made) ≤ 1)
    → occurrences (get_or made k nothing_ready).slot (slots_of (take k made)) ≡ 0
next_slot made k below once =
    let us = slots_of made in
    let q = (get_or made k nothing_ready).slot in
    let inside : k < length us = omega (arith, below, length-map made (λ (r : ReadyView). r.slot)) in
    let is : get_or us k 0 ≡ q = get_or-map (λ (r : ReadyView). r.slot) made k nothing_ready 0 below in
    let P : ℕ → Type 0 = λ n. occurrences n us ≤ 1 in
    ap (λ n. occurrences n (slots_of (take k made))) (sym is)
    ∙ (ap (occurrences (get_or us k 0)) (sym (take-map (λ (r : ReadyView). r.slot) k made))
    ∙ first_time us k 0 inside (once (get_or us k 0)))

pub next_ready : (becomes : CellView → CellView) (k : ℕ) (cells now : List CellView) (made ready : List ReadyView) (d : ReadyView)
    → AreUnder becomes k cells now made ready → k < length made → get_or ready k d ≡ get_or made k nothing_ready
next_ready becomes k cells now made ready d under below =
    get_or_default ready k d nothing_ready (omega (arith, under.many, below)) ∙ under.still k (omega arith)

pub settle_ready : (glyphs : List (List ℕ)) (becomes : CellView → CellView) (k : ℕ) (cells now : List CellView) (made ready : List ReadyView)
    (d : ReadyView) → AreSettled glyphs becomes cells made → ((s : ℕ) → occurrences s (slots_of made) ≤ 1)
    → AreUnder becomes k cells now made ready → k < length made
    → ((get_or ready k d).slot < length now)
    × IsSettled glyphs (cell_at now (get_or ready k d).slot) (becomes (cell_at cells (get_or made k nothing_ready).slot)) (get_or ready k d)
settle_ready glyphs becomes k cells now made ready d all once under below =
    let one = get_or made k nothing_ready in
    let same = next_ready becomes k cells now made ready d under below in
    let here = all k nothing_ready below in
    let left : cell_at now one.slot ≡ cell_at cells one.slot =
    under.cells.each one.slot
    ∙ ap (λ t. if t then cell_at cells one.slot else becomes (cell_at cells one.slot)) (eq-eqb (occurrences one.slot (slots_of (take k made))) 0 (next_slot made k below once))
    in
    let P : CellView → Type 0 = λ v. IsSettled glyphs v (becomes (cell_at cells one.slot)) one in
    let Q : ReadyView → Type 0 = λ r. (r.slot < length now) × IsSettled glyphs (cell_at now r.slot) (becomes (cell_at cells one.slot)) r in
    subst Q (sym same) (omega (arith, here.0, under.cells.many), subst P (sym left) here.1)

-- and once it was settled too
pub settle_step : (becomes : CellView → CellView) (k : ℕ) (cells now : List CellView) (made ready : List ReadyView) (q : ℕ) (c : CellView) (p : ReadyView)
    → AreUnder becomes k cells now made ready → k < length made → q ≡ (get_or made k nothing_ready).slot → q < length now
    → c ≡ becomes (cell_at cells q) → AreUnder becomes (k + 1) cells (set now q c) made (set ready k p)
settle_step becomes k cells now made ready q c p under below is low done =
    let us = slots_of (take k made) in
    let more : slots_of (take (k + 1) made) ≡ us ++ q ∷ [] =
    map_more (λ (r : ReadyView). r.slot) made k nothing_ready below ∙ ap (λ n. us ++ n ∷ []) (sym is)
    in
    record {
      cells = record {
        many = length-set now q c ∙ under.cells.many;
        each = λ s.
            let P : List ℕ → Type 0 =
            λ l. cell_at (set now q c) s ≡ (if occurrences s l == 0 then cell_at cells s else becomes (cell_at cells s))
            in
            subst P (sym more) (either s);
      };
      many = length-set ready k p ∙ under.many;
      still = λ i past. get_or-set_other ready k i p nothing_ready (λ same. absurd (omega (arith, same, past))) ∙ under.still i (omega (arith, past));
    }
  where
    either : (s : ℕ) → cell_at (set now q c) s
        ≡ (if occurrences s (slots_of (take k made) ++ q ∷ []) == 0 then cell_at cells s else becomes (cell_at cells s))
    either s =
        let us = slots_of (take k made) in
        ⊎_elim
        (λ (same : s ≡ q).
        let here : get_or (set now q c) q no_cell ≡ c = get_or-set_same now q c no_cell low in
        let some = occurs_at_end s q us same in
        let test : (occurrences s (us ++ q ∷ []) == 0) ≡ false = ne_eqb (occurrences s (us ++ q ∷ [])) 0 (λ none. absurd (omega (arith, some, none))) in
        ap (λ n. cell_at (set now q c) n) same
        ∙ (here ∙ (done ∙ (ap (λ n. becomes (cell_at cells n)) (sym same)
        ∙ sym (ap (λ t. if t then cell_at cells s else becomes (cell_at cells s)) test)))))
        (λ (other : s ≢ q).
        get_or-set_other now q s c no_cell other
        ∙ (under.cells.each s
        ∙ sym (ap (λ n. if n == 0 then cell_at cells s else becomes (cell_at cells s)) (occurs_before s q us other))))
        (cases_eq s q)

pub nothing_settled : (becomes : CellView → CellView) (cells : List CellView) (made : List ReadyView) → AreUnder becomes 0 cells cells made made
nothing_settled becomes cells made = record { cells = record { many = refl; each = λ s. refl }; many = refl; still = λ i past. refl }

pub all_settled : (becomes : CellView → CellView) (k : ℕ) (cells now : List CellView) (made ready : List ReadyView) → AreUnder becomes k cells now made ready
    → length made ≤ k → AreChangedAt (slots_of made) becomes cells now
all_settled becomes k cells now made ready under past =
    let P : List ReadyView → Type 0 = λ l. AreChangedAt (slots_of l) becomes cells now in
    subst P (take_all k made past) under.cells
