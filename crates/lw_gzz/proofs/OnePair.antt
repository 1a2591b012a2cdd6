-- Calls stand for one word at most, done with one pair, and each of them may part it.
use Rattle.std.proofs.Common.{◌≡◌, ℕ, ◌==◌, true, List, [], ◌∷◌, refl, sym, ap, ◌∙◌, Some}
use Rattle.std.specs.List.{list_all}
use Rattle.std.proofs.lemmas.Bool.{eq-eqb, and_from, or_left, or_right}
use Rattle.lw_calls.specs.declared.pair.Pair.{Pair}
use Rattle.lw_calls.specs.declared.call.Call.{Call}
use Rattle.lw_calls.specs.declared.call.Call.TheVariants.{OpenWindow, Close as CloseCall, ToFront, ToBack}
use Rattle.lw_calls.specs.declared.call.Call.TheVariants.{InFrontOf as PutInFront, SetBox as BoxCall}
use Rattle.lw_gzz.specs.declared.word.GzzWord.{GzzWord}
use Rattle.lw_gzz.specs.declared.word.GzzWord.TheVariants.{Open, SetBox, Front, Behind, InFrontOf, Close}
use Rattle.lw_gzz.specs.Words.{expansion, Spells}
use Rattle.lw_gzz.specs.Together.{is_of, may_part}
use Rattle.lw_gzz.specs.Recognition.{word_of}
use Rattle.lw_gzz.proofs.Spelling.{exact}

-- the slot of a call, and the slots of the outer and the inner layer of a word's calls
abbrev slot_in : Call → ℕ
slot_in (OpenWindow slot make framed nocare asks title) = slot
slot_in (BoxCall slot x y w h) = slot
slot_in (ToFront slot) = slot
slot_in (ToBack slot) = slot
slot_in (PutInFront slot other) = slot
slot_in (CloseCall slot) = slot
slot_in call = 0

abbrev outer_in : List Call → ℕ
outer_in (ToBack inner ∷ call ∷ calls) = slot_in call
outer_in (call ∷ calls) = slot_in call
outer_in [] = 0

abbrev inner_in : List Call → ℕ
inner_in (ToBack inner ∷ calls) = inner
inner_in (first ∷ call ∷ calls) = slot_in call
inner_in calls = 0

outer_is : (p : Pair) (word : GzzWord) → outer_in (expansion p word) ≡ p.outer
outer_is p (Open kind place x y w h asks title) = refl
outer_is p (SetBox x y w h) = refl
outer_is p Front = refl
outer_is p Behind = refl
outer_is p (InFrontOf other) = refl
outer_is p Close = refl

inner_is : (p : Pair) (word : GzzWord) → inner_in (expansion p word) ≡ p.inner
inner_is p (Open kind place x y w h asks title) = refl
inner_is p (SetBox x y w h) = refl
inner_is p Front = refl
inner_is p Behind = refl
inner_is p (InFrontOf other) = refl
inner_is p Close = refl

pub same_pair : (p q : Pair) (calls : List Call) (word other : GzzWord) → Spells p word calls → Spells q other calls → p ≡ q
same_pair p q calls word other s t =
    let same = s.1 ∙ sym t.1 in
    let outer : p.outer ≡ q.outer = sym (outer_is p word) ∙ ap outer_in same ∙ outer_is q other in
    let inner : p.inner ≡ q.inner = sym (inner_is p word) ∙ ap inner_in same ∙ inner_is q other in
    λ i. record { outer = outer i; inner = inner i }

pub one_pair : (p q : Pair) (calls : List Call) (word other : GzzWord) → Spells p word calls → Spells q other calls → (p ≡ q) × (word ≡ other)
one_pair p q calls word other s t =
    let same = same_pair p q calls word other s t in
    let first = (exact p calls).found word s in
    let second = (exact q calls).found other t in
    let both : Some word ≡ Some other = sym first ∙ (ap (λ r. word_of r calls) same ∙ second) in
    (same, cc)

-- each call of a word is on a slot of its pair
of_outer : (p : Pair) → is_of p p.outer ≡ true
of_outer p = or_left (p.outer == p.outer) (p.outer == p.inner) (eq-eqb p.outer p.outer refl)

of_inner : (p : Pair) → is_of p p.inner ≡ true
of_inner p = or_right (p.inner == p.outer) (p.inner == p.inner) (eq-eqb p.inner p.inner refl)

pub words_part : (p : Pair) (word : GzzWord) → list_all (may_part p) (expansion p word) ≡ true
words_part p (Open kind place x y w h asks title) =
    and_from _ _ (of_outer p) (and_from _ _ (of_inner p) (and_from _ _ (or_left (is_of p p.inner) (is_of p p.outer) (of_inner p)) refl))
words_part p (SetBox x y w h) = and_from _ _ (of_outer p) (and_from _ _ (of_inner p) refl)
words_part p Front = and_from _ _ (of_outer p) (and_from _ _ (of_inner p) refl)
words_part p Behind = and_from _ _ (of_inner p) (and_from _ _ (of_outer p) refl)
words_part p (InFrontOf other) =
    and_from _ _ (or_left (is_of p p.outer) (is_of p other) (of_outer p)) (and_from _ _ (or_left (is_of p p.inner) (is_of p p.outer) (of_inner p)) refl)
words_part p Close = and_from _ _ (of_outer p) (and_from _ _ (of_inner p) refl)
