-- The groups of a plan's tasks that stand for words done with pairs.
use Rattle.std.proofs.Common.{◌≡◌, ℕ, zero, suc, ◌+◌, ◌-◌, ◌<◌, ◌≤◌, ◌==◌, Bool, true, false, ◌&&◌, List, [], ◌∷◌, length, take}
use Rattle.std.proofs.Common.{drop, AllPairs, slice_index_or, Some, None, refl, sym, ap, subst, ◌∙◌, ◌⊎◌, inl, inr, ⊎_elim, arith}
use Rattle.std.specs.Prelude.{nat_lt, nat_le}
use Rattle.std.specs.List.{list_all, slice_get}
use Rattle.std.proofs.lemmas.Bool.{and_parts, and_from, or_left, or_right, or_parts, or_from, both_ways, eq-eqb, lt-ltb, le-leb}
use Rattle.std.proofs.lemmas.Bool.{ltb-true, leb-true, cases_lt, cases_order}
use Rattle.lw_calls.specs.declared.pair.Pair.{Pair}
use Rattle.lw_calls.specs.declared.call.Call.{Call}
use Rattle.lw_calls.specs.declared.group.Group.{Group}
use Rattle.lw_calls.specs.declared.group.Hold.TheVariants.{All as AllLayers}
use Rattle.lw_calls.specs.Plan.{group_fits, groups_fit}
use Rattle.lw_calls.specs.Touches.{touch_of, is_arrangement}
use Rattle.lw_calls.specs.Orders.{meets, is_open}
use Rattle.lw_calls.proofs.OrderGroups.{head_fits, rest_fits, follows_on, has_order}
use Rattle.lw_machine.proofs.Untouched.{differ_back}
use Rattle.lw_gzz.specs.declared.word.GzzWord.{GzzWord}
use Rattle.lw_gzz.specs.declared.word.GzzWord.TheVariants.{Open, SetBox, Front, Behind, InFrontOf, Close}
use Rattle.lw_gzz.specs.Words.{expansion}
use Rattle.lw_gzz.specs.Together.{is_of, may_part, AreDisjoint}

-- what a list has from a place on
drop_next : {X : Type 0} (xs : List X) (n : ℕ) (x : X) → slice_get xs n ≡ Some x → drop n xs ≡ x ∷ drop (n + 1) xs
drop_next [] n x at = let none : None ≡ Some x = at in absurd (cc)
drop_next (y ∷ ys) zero x at = let some : Some y ≡ Some x = at in let same : y ≡ x = cc in ap (λ z. z ∷ ys) same
drop_next (y ∷ ys) (suc n) x at =
    let next : suc (n + 1) ≡ suc n + 1 = omega arith in drop_next ys n x at ∙ ap (λ k. x ∷ drop k (y ∷ ys)) next

-- what is left of a group's calls where so many calls were made
abbrev pub left : List Call → Group → ℕ → List Call
left calls g made = take ((g.last + 1) - made) (drop made calls)

pub next_left : (calls : List Call) (g : Group) (n : ℕ) (c : Call) → slice_get calls n ≡ Some c → n ≤ g.last
    → left calls g n ≡ c ∷ left calls g (n + 1)
next_left calls g n c at low =
    let count : (g.last + 1) - n ≡ suc ((g.last + 1) - (n + 1)) = omega arith in
    ap (λ k. take k (drop n calls)) count ∙ ap (take (suc ((g.last + 1) - (n + 1)))) (drop_next calls n c at)

pub none_left : (calls : List Call) (g : Group) (n : ℕ) → g.last ≤ n → left calls g (n + 1) ≡ []
none_left calls g n high =
    let count : (g.last + 1) - (n + 1) ≡ 0 = omega arith in ap (λ k. take k (drop (n + 1) calls)) count

-- groups of a task fit
pub fits_at : (calls : List Call) (gs : List Group) (g : Group) (k : ℕ) → groups_fit calls gs ≡ true → k < length gs
    → slice_index_or gs k g ≡ g → group_fits calls g ≡ true
fits_at calls [] g k fit low is = absurd (omega arith)
fits_at calls (h ∷ gs) g zero fit low is = subst (λ x. group_fits calls x ≡ true) is (head_fits calls h gs fit)
fits_at calls (h ∷ gs) g (suc k) fit low is = fits_at calls gs g k (rest_fits calls h gs fit) (omega arith) is

-- and no call stands in two of them
behind_head : (calls : List Call) (g h : Group) (gs : List Group) (k : ℕ) → groups_fit calls (g ∷ gs) ≡ true → k < length gs
    → slice_index_or gs k h ≡ h → g.last < h.first
behind_head calls g h [] k fit low is = absurd (omega arith)
behind_head calls g h (i ∷ gs) zero fit low is = subst (λ x. g.last < x.first) is (follows_on calls g i gs fit)
behind_head calls g h (i ∷ gs) (suc k) fit low is =
    let rest = rest_fits calls g (i ∷ gs) fit in
    let next : g.last < i.first = follows_on calls g i gs fit in
    let order : i.first ≤ i.last = has_order calls i (head_fits calls i gs rest) in
    let behind : i.last < h.first = behind_head calls i h gs k rest (omega arith) is in
    omega (arith, next, order, behind)

pub same_group : (calls : List Call) (gs : List Group) (g h : Group) (j k n : ℕ) → groups_fit calls gs ≡ true → j < length gs
    → slice_index_or gs j g ≡ g → k < length gs → slice_index_or gs k h ≡ h → g.first ≤ n → n ≤ g.last → h.first ≤ n → n ≤ h.last
    → g ≡ h
same_group calls [] g h j k n fit low is low_h is_h a b c d = absurd (omega arith)
same_group calls (i ∷ gs) g h zero zero n fit low is low_h is_h a b c d = sym is ∙ is_h
same_group calls (i ∷ gs) g h zero (suc k) n fit low is low_h is_h a b c d =
    let behind : i.last < h.first = behind_head calls i h gs k fit (omega arith) is_h in
    let same : i.last ≡ g.last = ap (λ x. x.last) is in
    absurd (omega (arith, behind, same, b, c))
same_group calls (i ∷ gs) g h (suc j) zero n fit low is low_h is_h a b c d =
    let behind : i.last < g.first = behind_head calls i g gs j fit (omega arith) is in
    let same : i.last ≡ h.last = ap (λ x. x.last) is_h in
    absurd (omega (arith, behind, same, a, d))
same_group calls (i ∷ gs) g h (suc j) (suc k) n fit low is low_h is_h a b c d =
    same_group calls gs g h j k n (rest_fits calls i gs fit) (omega arith) is (omega arith) is_h a b c d

-- a group that is open, and one that opens
pub open_at : (n : ℕ) (g : Group) → g.first < n → n ≤ g.last → is_open n g ≡ true
open_at n g low high = and_from _ _ (lt-ltb g.first n low) (le-leb n g.last high)

pub opens_now : (n : ℕ) (g : Group) → is_open n g ≡ false → is_open (n + 1) g ≡ true → g.first ≡ n
opens_now n g before now =
    let parts = and_parts (nat_lt g.first (n + 1)) (nat_le (n + 1) g.last) now in
    let low : g.first < n + 1 = ltb-true g.first (n + 1) parts.0 in
    let high : n + 1 ≤ g.last = leb-true (n + 1) g.last parts.1 in
    ⊎_elim (λ (less : g.first < n). absurd (both_ways _ before (open_at n g less (omega (arith, high)))))
    (λ (more : n ≤ g.first). omega (arith, low, more)) (cases_lt g.first n)

-- the first call of a word's may part its pair, and touches all layers
pub outer_of : (p : Pair) → is_of p p.outer ≡ true
outer_of p = or_left (p.outer == p.outer) (p.outer == p.inner) (eq-eqb p.outer p.outer refl)

pub inner_of : (p : Pair) → is_of p p.inner ≡ true
inner_of p = or_right (p.inner == p.outer) (p.inner == p.inner) (eq-eqb p.inner p.inner refl)

abbrev begins_one : Pair → ℕ → List Call → Bool
begins_one p task [] = false
begins_one p task (c ∷ cs) = may_part p c && meets AllLayers (touch_of task c)

word_begins : (p : Pair) (task : ℕ) (word : GzzWord) → begins_one p task (expansion p word) ≡ true
word_begins p task (Open kind place x y w h asks title) = and_from _ _ (outer_of p) refl
word_begins p task (SetBox x y w h) = and_from _ _ (outer_of p) refl
word_begins p task Front = and_from _ _ (outer_of p) refl
word_begins p task Behind = and_from _ _ (inner_of p) refl
word_begins p task (InFrontOf other) = and_from _ _ (or_left _ _ (outer_of p)) refl
word_begins p task Close = and_from _ _ (outer_of p) refl

pub first_call : (p : Pair) (task : ℕ) (word : GzzWord) (c : Call) (cs : List Call) → expansion p word ≡ c ∷ cs
    → (may_part p c ≡ true) × (meets AllLayers (touch_of task c) ≡ true)
first_call p task word c cs is =
    and_parts (may_part p c) (meets AllLayers (touch_of task c))
    (subst (λ l. begins_one p task l ≡ true) is (word_begins p task word))

-- all of them are arrangements
pub all_arrange : (p : Pair) (word : GzzWord) → list_all is_arrangement (expansion p word) ≡ true
all_arrange p (Open kind place x y w h asks title) = refl
all_arrange p (SetBox x y w h) = refl
all_arrange p Front = refl
all_arrange p Behind = refl
all_arrange p (InFrontOf other) = refl
all_arrange p Close = refl

-- pairs of which no two have a slot in common are one or disjoint
turned_round : (p q : Pair) → AreDisjoint p q → AreDisjoint q p
turned_round p q apart =
    let outer = or_parts (p.outer == q.outer) (p.outer == q.inner) apart.0 in
    let inner = or_parts (p.inner == q.outer) (p.inner == q.inner) apart.1 in (
      or_from (q.outer == p.outer) (q.outer == p.inner) (differ_back _ _ outer.0) (differ_back _ _ inner.0),
      or_from (q.inner == p.outer) (q.inner == p.inner) (differ_back _ _ outer.1) (differ_back _ _ inner.1),
    )

pub one_or_disjoint : (ps : List Pair) (p : Pair) (j k : ℕ) → AllPairs AreDisjoint ps → j < length ps → slice_index_or ps j p ≡ p
    → k < length ps → (p ≡ slice_index_or ps k p) ⊎ AreDisjoint p (slice_index_or ps k p)
one_or_disjoint ps p j k disjoint low is low_k =
    ⊎_elim (λ (same : j ≡ k). inl (sym is ∙ ap (λ n. slice_index_or ps n p) same))
    (⊎_elim
    (λ (less : j < k). inr (subst (λ x. AreDisjoint x (slice_index_or ps k p)) is (disjoint j k p less low_k)))
    (λ (more : k < j). inr
    (turned_round (slice_index_or ps k p) p (subst (λ x. AreDisjoint (slice_index_or ps k p) x) is (disjoint k j p more low)))))
    (cases_order j k)
