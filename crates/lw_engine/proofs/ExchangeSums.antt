-- Sums over owners of the pieces that each gives up and claims, and the lists of what is ready while they do.
use Rattle.std.proofs.Common.{◌≡◌, ◌≢◌, ℕ, zero, suc, ◌+◌, ◌-◌, ◌<◌, ◌≤◌, ◌==◌, Bool, true, false, cond, List, [], ◌∷◌, ◌++◌, map, reverse, length, take, get_or, set, Option, refl, sym, ap, ◌∙◌, inl, inr, ⊎_elim, arith}
use Rattle.std.specs.Prelude.{if◌then◌else◌}
use Rattle.std.specs.List.{All, filter, sum_by, sum}
use Rattle.std.proofs.lemmas.Bool.{cases_lt, cases_eq, ne_eqb, eq-eqb, eqb-false}
use Rattle.std.proofs.lemmas.List.{length-set, length-map, get_or_default, get_or-map, get_or-set_same, get_or-set_other, ext_get_or, take_all}
use Rattle.std.proofs.lemmas.List.Elements.{All-head, All-tail, All-weaker, All-map}
use Rattle.std.proofs.lemmas.List.Sums.{sum_by-cons, sum_by_more, sum-map}
use Rattle.lw_region.specs.Rectangle.{Rectangle}
use Rattle.lw_planes.specs.Row.{bit_of}
use Rattle.lw_calls.specs.declared.call.Call.{Call}
use Rattle.lw_calls.specs.Orders.{occurrences}
use Rattle.lw_machine.specs.Hook.{Hook}
use Rattle.lw_strips.specs.Strips.{StripView, rects_of}
use Rattle.lw_strips.specs.Pools.{PoolView, same_rectangle, copies, copies_in}
use Rattle.lw_strips.specs.Exchange.{lost_by, gained_by, lost_rects, gained_rects, pieces_of, total}
use Rattle.lw_strips.specs.declared.piece.Piece.{Piece}
use Rattle.lw_strips.proofs.PoolLaws.{counting}
use Rattle.lw_strips.proofs.ExchangeLaws.{exchange}
use Rattle.lw_layer.specs.View.{CellView}
use Rattle.lw_engine.specs.Desks.{no_cell}
use Rattle.lw_engine.specs.Slots.{ReadyView, IsSettled, nothing_ready}
use Rattle.lw_engine.specs.Arranging.{slots_of, AreSettled, with_taken, given_up, HaveGiven}
use Rattle.lw_engine.proofs.ReadyLists.{others_differ, taken_keeps}

pub total_more : (k : ℕ) (f : ℕ → ℕ) → total (k + 1) f ≡ total k f + f k
total_more k f = let next : k + 1 ≡ suc k = omega arith in ap (λ n. total n f) next

total_same : (n : ℕ) (f g : ℕ → ℕ) → ((i : ℕ) → i < n → f i ≡ g i) → total n f ≡ total n g
total_same zero f g same = refl
total_same (suc n) f g same =
    let rest = total_same n f g (λ i low. same i (omega (arith, low))) in
    let last = same n (omega arith) in
    omega (arith, rest, last)

total_plus : (n : ℕ) (f g : ℕ → ℕ) → total n (λ i. f i + g i) ≡ total n f + total n g
total_plus zero f g = refl
total_plus (suc n) f g = let rest = total_plus n f g in omega (arith, rest)

total_none : (n : ℕ) → total n (λ _. 0) ≡ 0
total_none zero = refl
total_none (suc n) = let rest = total_none n in omega (arith, rest)

total_past : (n a : ℕ) → n ≤ a → total n (λ i. bit_of (a == i)) ≡ 0
total_past zero a past = refl
total_past (suc n) a past =
    let rest = total_past n a (omega (arith, past)) in
    let last : bit_of (a == n) ≡ 0 = ap bit_of (ne_eqb a n (λ same. absurd (omega (arith, same, past)))) in
    omega (arith, rest, last)

total_one : (n a : ℕ) → a < n → total n (λ i. bit_of (a == i)) ≡ 1
total_one zero a below = absurd (omega arith)
total_one (suc n) a below =
    elim (cases_lt a n) [
      | inl less ↦ let rest = total_one n a less in
          let last : bit_of (a == n) ≡ 0 = ap bit_of (ne_eqb a n (λ same. absurd (omega (arith, same, less)))) in
          omega (arith, rest, last)
      | inr most ↦ let rest = total_past n a most in
          let last : bit_of (a == n) ≡ 1 = ap bit_of (eq-eqb a n (omega (arith, most, below))) in
          omega (arith, rest, last)
    ]

-- all owners together lose each piece once
first_lost : (t : Bool) (p : Piece) (rest : List Piece)
    → length (map (λ (q : Piece). q.rect) (cond t (p ∷ rest) rest)) ≡ bit_of t + length (map (λ (q : Piece). q.rect) rest)
first_lost true p rest = let one : suc (length (map (λ (q : Piece). q.rect) rest)) ≡ 1 + length (map (λ (q : Piece). q.rect) rest) = omega arith in one
first_lost false p rest = let none : length (map (λ (q : Piece). q.rect) rest) ≡ 0 + length (map (λ (q : Piece). q.rect) rest) = omega arith in none

pub total_lost : (pieces : List Piece) (n : ℕ) → All (λ p. p.from < n) pieces → total n (λ o. length (lost_rects o pieces)) ≡ length pieces
total_lost [] n below = total_none n
total_lost (p ∷ rest) n below =
    let others = total_lost rest n (All-tail (λ q. q.from < n) p rest below) in
    let one = total_one n p.from (All-head (λ q. q.from < n) p rest below) in
    let split : total n (λ o. length (lost_rects o (p ∷ rest))) ≡ total n (λ o. bit_of (p.from == o)) + total n (λ o. length (lost_rects o rest)) =
    total_same n (λ o. length (lost_rects o (p ∷ rest))) (λ o. bit_of (p.from == o) + length (lost_rects o rest))
    (λ o _. first_lost (p.from == o) p (filter (λ q. q.from == o) rest))
    ∙ total_plus n (λ o. bit_of (p.from == o)) (λ o. length (lost_rects o rest))
    in
    omega (arith, others, one, split)

-- strips are counted by their rectangles
pub strips_counted : (r : Rectangle) (strips : List StripView) → copies_in r strips ≡ copies r (rects_of strips)
strips_counted r [] = refl
strips_counted r (s ∷ rest) =
    sum_by-cons (λ (t : StripView). bit_of (same_rectangle r t.rect)) s rest
    ∙ (ap (λ n. bit_of (same_rectangle r s.rect) + n) (strips_counted r rest)
    ∙ sym (sum_by-cons (λ q. bit_of (same_rectangle r q)) s.rect (rects_of rest)))

rects_many : (strips : List StripView) → length (rects_of strips) ≡ length strips
rects_many [] = refl
rects_many (s ∷ rest) = ap suc (rects_many rest)

pub strips_many : (k : ℕ) (pieces : List Piece) (lost : List StripView) → rects_of lost ≡ lost_rects k pieces
    → length lost ≡ length (lost_rects k pieces)
strips_many k pieces lost is = sym (rects_many lost) ∙ ap length is

pub lost_counted : (r : Rectangle) (k : ℕ) (pieces : List Piece) (lost : List StripView) → rects_of lost ≡ lost_rects k pieces
    → copies_in r lost ≡ lost_by r k pieces
lost_counted r k pieces lost is = strips_counted r lost ∙ (ap (copies r) is ∙ exchange.lost r k pieces)

-- what is ready, of which none, one more, or all gave their strips up
pub none_given : (ready : List ReadyView) → HaveGiven 0 ready ready
none_given ready = record { many = refl; done = λ s below. absurd (omega arith); left = λ s _. refl }

pub next_given : (k : ℕ) (ready now : List ReadyView) (d : ReadyView) → HaveGiven k ready now → k < length ready
    → get_or now k d ≡ get_or ready k nothing_ready
next_given k ready now d given below = get_or_default now k d nothing_ready (omega (arith, given.many, below)) ∙ given.left k (omega arith)

pub given_more : (k : ℕ) (ready now : List ReadyView) (d r : ReadyView) → HaveGiven k ready now → k < length ready
    → r ≡ given_up (get_or now k d) → HaveGiven (k + 1) ready (set now k r)
given_more k ready now d r given below is =
    let inside : k < length now = omega (arith, given.many, below) in
    record {
      many = length-set now k r ∙ given.many;
      done =
          λ s low.
          ⊎_elim
          (λ (same : s ≡ k).
          let here : get_or (set now k r) k nothing_ready ≡ r = get_or-set_same now k r nothing_ready inside in
          ap (λ n. get_or (set now k r) n nothing_ready) same
          ∙ (here ∙ (is ∙ (ap given_up (next_given k ready now d given below) ∙ ap (λ n. given_up (get_or ready n nothing_ready)) (sym same)))))
          (λ (other : s ≢ k). get_or-set_other now k s r nothing_ready other ∙ given.done s (omega (arith, other, low)))
          (cases_eq s k);
      left = λ s past. get_or-set_other now k s r nothing_ready (λ same. absurd (omega (arith, same, past))) ∙ given.left s (omega (arith, past));
    }

pub all_given : (k : ℕ) (ready now : List ReadyView) → HaveGiven k ready now → length ready ≤ k → now ≡ map given_up ready
all_given k ready now given past =
    ext_get_or nothing_ready now (map given_up ready) (given.many ∙ sym (length-map ready given_up))
    (λ i low.
    let inside : i < length ready = omega (arith, given.many, low) in
    given.done i (omega (arith, inside, past)) ∙ sym (get_or-map given_up ready i nothing_ready nothing_ready inside))

-- the pool with the strips of one more
pub given_numbers : (r : Rectangle) (lost : List StripView) (old new : PoolView) (so_far : ℕ)
    → new ≡ record { strips = old.strips ++ reverse lost; spare = old.spare - length lost } → copies_in r old.strips ≡ so_far
    → copies_in r new.strips ≡ so_far + copies_in r lost
given_numbers r lost old new so_far step is =
    let strips = ap (λ (p : PoolView). copies_in r p.strips) step in
    let both = counting.given r old.strips lost in
    omega (arith, strips, both, is)

pub given_spare : (lost : List StripView) (old new : PoolView) (first so_far : ℕ)
    → new ≡ record { strips = old.strips ++ reverse lost; spare = old.spare - length lost } → length lost ≤ old.spare
    → old.spare + so_far ≡ first → new.spare + (so_far + length lost) ≡ first
given_spare lost old new first so_far step room is = let spare = ap (λ (p : PoolView). p.spare) step in omega (arith, spare, room, is)

-- what the next one adds to a sum, by its own default
pub sum_next : (f : ReadyView → ℕ) (k : ℕ) (ready now : List ReadyView) (d : ReadyView) → HaveGiven k ready now → k < length ready
    → sum_by f (take (k + 1) ready) ≡ sum_by f (take k ready) + f (get_or now k d)
sum_next f k ready now d given below =
    sum_by_more f ready k nothing_ready below ∙ ap (λ q. sum_by f (take k ready) + f q) (sym (next_given k ready now d given below))

pub sum_end : (f : ReadyView → ℕ) (k : ℕ) (ready : List ReadyView) → length ready ≤ k → sum_by f (take k ready) ≡ sum_by f ready
sum_end f k ready past = ap (sum_by f) (take_all k ready past)

-- neither a hook for a new layer nor giving up changes a sum of something else, and what is settled
up_keeps : {X : Type 0} (f : ReadyView → X) (ready : List ReadyView) → ((r : ReadyView) → f (given_up r) ≡ f r) → map f (map given_up ready) ≡ map f ready
up_keeps f [] keeps = refl
up_keeps f (r ∷ ready) keeps = λ i. keeps r i ∷ up_keeps f ready keeps i

pub given_slots : (shelf : List (Option Hook)) (call : Call) (ready : List ReadyView)
    → slots_of (map given_up (with_taken shelf call ready)) ≡ slots_of ready
given_slots shelf call ready =
    up_keeps (λ r. r.slot) (with_taken shelf call ready) (λ r. refl) ∙ taken_keeps (λ r. r.slot) shelf call ready (λ r h. refl)

pub given_claims : (r : Rectangle) (shelf : List (Option Hook)) (call : Call) (ready : List ReadyView)
    → sum_by (λ q. copies r q.claims) (map given_up (with_taken shelf call ready)) ≡ sum_by (λ q. copies r q.claims) ready
given_claims r shelf call ready =
    sym (sum-map (λ (q : ReadyView). copies r q.claims) (map given_up (with_taken shelf call ready)))
    ∙ (ap sum (up_keeps (λ q. copies r q.claims) (with_taken shelf call ready) (λ q. refl) ∙ taken_keeps (λ q. copies r q.claims) shelf call ready (λ q h. refl))
    ∙ sum-map (λ (q : ReadyView). copies r q.claims) ready)

pub taken_sum : (f : ReadyView → ℕ) (shelf : List (Option Hook)) (call : Call) (ready : List ReadyView) → ((r : ReadyView) (h : Option Hook) → f (record r { taken = h }) ≡ f r)
    → sum_by f (with_taken shelf call ready) ≡ sum_by f ready
taken_sum f shelf call ready keeps =
    sym (sum-map f (with_taken shelf call ready)) ∙ (ap sum (taken_keeps f shelf call ready keeps) ∙ sum-map f ready)

pub given_settled : (glyphs : List (List ℕ)) (after : CellView → CellView) (slots : List CellView) (ready : List ReadyView)
    → AreSettled glyphs after slots ready → AreSettled glyphs after slots (map given_up ready)
given_settled glyphs after slots ready all =
    All-map (λ r. (r.slot < length slots) × IsSettled glyphs (get_or slots r.slot no_cell) (after (get_or slots r.slot no_cell)) r) given_up ready all

-- what all owners have but for one
abbrev off : ℕ → (ℕ → ℕ) → ℕ → ℕ
off k f i = if i == k then 0 else f i

total_off : (n k : ℕ) (f : ℕ → ℕ) → k < n → total n f ≡ f k + total n (off k f)
total_off zero k f below = absurd (omega (arith, below))
total_off (suc n) k f below =
    elim (cases_lt k n) [
      | inl less ↦ let rest = total_off n k f less in
          let last : off k f n ≡ f n = ap (λ t. if t then 0 else f n) (ne_eqb n k (λ same. absurd (omega (arith, same, less)))) in
          omega (arith, rest, last)
      | inr most ↦ let same : k ≡ n = omega (arith, most, below) in
          let here : off k f n ≡ 0 = ap (λ t. if t then 0 else f n) (eq-eqb n k (sym same)) in
          let others = total_same n (off k f) f
          (λ i low. ap (λ t. if t then 0 else f i) (ne_eqb i k (λ is. absurd (omega (arith, is, low, same))))) in
          let own = ap f same in
          omega (arith, here, others, own)
    ]

-- What the slots have for which something is ready is what all slots have, where the others have nothing.
pub ready_total : (f : ReadyView → ℕ) (n : ℕ) (ready : List ReadyView) (g : ℕ → ℕ) → All (λ r. (r.slot < n) × (f r ≡ g r.slot)) ready
    → ((s : ℕ) → occurrences s (slots_of ready) ≤ 1) → ((s : ℕ) → s < n → occurrences s (slots_of ready) ≡ 0 → g s ≡ 0)
    → sum_by f ready ≡ total n g
ready_total f n [] g each once none = sym (total_same n g (λ _. 0) (λ s low. none s low refl) ∙ total_none n)
ready_total f n (r ∷ ready) g each once none =
    let k = r.slot in
    let first = All-head (λ q. (q.slot < n) × (f q ≡ g q.slot)) r ready each in
    let others = All-tail (λ q. (q.slot < n) × (f q ≡ g q.slot)) r ready each in
    let here : bit_of (k == k) ≡ 1 = ap bit_of (eq-eqb k k refl) in
    let only = once k in
    let alone : occurrences k (slots_of ready) ≡ 0 = omega (arith, here, only) in
    let rest =
    ready_total f n ready (off k g)
    (λ i d below.
    let q = get_or ready i d in
    let one = others i d below in
    (one.0, one.1 ∙ sym (ap (λ t. if t then 0 else g q.slot) (others_differ ready k i d below alone))))
    (λ s. let all = once s in omega (arith, all))
    (λ s low absent.
    by_test s (s == k) refl
    (λ other.
    let apart : bit_of (k == s) ≡ 0 = ap bit_of (ne_eqb k s (λ same. eqb-false s k other (sym same))) in
    none s low (omega (arith, apart, absent))))
    in
    let cut = total_off n k g first.0 in
    let own = first.1 in
    let split = sum_by-cons f r ready in
    omega (arith, rest, cut, own, split)
  where
    by_test : (s : ℕ) (t : Bool) → (s == r.slot) ≡ t → ((s == r.slot) ≡ false → g s ≡ 0) → (if t then 0 else g s) ≡ 0
    by_test s true is other = refl
    by_test s false is other = other is

pub all_but_last : (r : Rectangle) (n : ℕ) (pieces : List Piece) → All (λ p. p.to < n + 1) pieces
    → pieces_of r pieces ≡ total n (λ s. gained_by r s pieces) + gained_by r n pieces
all_but_last r n pieces owners = sym (exchange.gains pieces (n + 1) r owners) ∙ total_more n (λ s. gained_by r s pieces)

pub enough_claims : (r : Rectangle) (n : ℕ) (pieces : List Piece) (pool : ℕ) → All (λ p. p.to < n + 1) pieces → pool ≡ pieces_of r pieces
    → total n (λ s. gained_by r s pieces) ≤ pool
enough_claims r n pieces pool owners is = let all = all_but_last r n pieces owners in omega (arith, all, is)

pub last_claims : (r : Rectangle) (n : ℕ) (pieces : List Piece) (pool left : ℕ) → All (λ p. p.to < n + 1) pieces → pool ≡ pieces_of r pieces
    → pool ≡ left + total n (λ s. gained_by r s pieces) → left ≡ gained_by r n pieces
last_claims r n pieces pool left owners is step = let all = all_but_last r n pieces owners in omega (arith, all, is, step)

pub none_left : (n : ℕ) (pieces : List Piece) (claims : List Rectangle) (old new : PoolView) → claims ≡ gained_rects n pieces
    → ((r : Rectangle) → copies_in r old.strips ≡ gained_by r n pieces)
    → ((r : Rectangle) → copies_in r old.strips ≡ copies_in r new.strips + copies r claims) → new.strips ≡ []
none_left n pieces claims old new is was step =
    counting.empty new.strips (λ r.
    let one = ap (copies r) is ∙ exchange.gained r n pieces in
    let before = was r in
    let after = step r in
    omega (arith, one, before, after))

pub owners_below : (n : ℕ) (pieces : List Piece) → All (λ p. (p.from ≤ n) × (p.to ≤ n)) pieces
    → All (λ p. p.from < n + 1) pieces × All (λ p. p.to < n + 1) pieces
owners_below n pieces owners = (
  All-weaker (λ p. (p.from ≤ n) × (p.to ≤ n)) (λ p. p.from < n + 1) (λ p both. omega (arith, both.0)) pieces owners,
  All-weaker (λ p. (p.from ≤ n) × (p.to ≤ n)) (λ p. p.to < n + 1) (λ p both. omega (arith, both.1)) pieces owners,
)
