-- The word for which calls stand is the one whose calls they are.
use Rattle.std.proofs.Common.{◌≡◌, ℕ, ◌==◌, Bool, true, false, not, List, [], ◌∷◌, ℤ, pos, ◌+ℤ◌, ◌-ℤ◌, Option, Some, None, refl}
use Rattle.std.proofs.Common.{sym, ap, subst, ◌∙◌, length, Result, Ok, Err, IfOk, FitsSigned, w32, arith}
use Rattle.std.specs.Prelude.{◌&&◌, is_some}
use Rattle.std.specs.Ordering.{int_eq}
use Rattle.std.proofs.lemmas.Bool.{and_parts, and_from, eqb-true, eq-eqb, not-true, false≢true}
use Rattle.std.proofs.lemmas.Int.{ints}
use Rattle.lw_region.proofs.Numbers.{eq_true, eq_of}
use Rattle.lw_calls.specs.declared.make.Kind.{Kind}
use Rattle.lw_calls.specs.declared.make.Kind.TheVariants.{Simple, Smart, SuperBitmap}
use Rattle.lw_calls.specs.declared.make.Place.{Place}
use Rattle.lw_calls.specs.declared.make.Place.TheVariants.{Front as InFront, Behind as AtBack}
use Rattle.lw_calls.specs.declared.make.Make.{Make}
use Rattle.lw_calls.specs.declared.pair.Pair.{Pair}
use Rattle.lw_calls.specs.declared.call.Call.{Call}
use Rattle.lw_calls.specs.declared.call.Call.TheVariants.{OpenWindow, Close as CloseCall, ToFront, ToBack}
use Rattle.lw_calls.specs.declared.call.Call.TheVariants.{InFrontOf as PutInFront, SetBox as BoxCall}
use Rattle.lw_calls.specs.Kinds.{is_super}
use Rattle.lw_gzz.specs.declared.word.GzzWord.{GzzWord}
use Rattle.lw_gzz.specs.declared.word.GzzWord.TheVariants.{Open, SetBox, Front, Behind, InFrontOf, Close}
use Rattle.lw_gzz.specs.Words.{plain_make, expansion, has_kind, Spells, IsWordOf, HasInner}
use Rattle.lw_gzz.specs.Recognition.{is_plain, is_smart, is_same_place, is_inner_box, are_makes, is_bare, has_both, word_if}
use Rattle.lw_gzz.specs.Recognition.{word_of_two, word_of_three, word_of}

-- the tests that hold of a word's own calls
both_is : (p : Pair) → has_both p p.outer p.inner ≡ true
both_is p = and_from (p.outer == p.outer) (p.inner == p.inner) (eq-eqb p.outer p.outer refl) (eq-eqb p.inner p.inner refl)

-- what was taken off and put on again
back : (n less : ℤ) → (n -ℤ less) +ℤ less ≡ n
back n less = omega (arith, ints)

less_from : (n less m : ℤ) → m +ℤ less ≡ n → n -ℤ less ≡ m
less_from n less m is = omega (arith, ints)

box_is : (x y w h : ℤ) → is_inner_box x y w h (x +ℤ pos 4) (y +ℤ pos 11) (w -ℤ pos 8) (h -ℤ pos 13) ≡ true
box_is x y w h =
    and_from _ _ (and_from _ _ (eq_true (x +ℤ pos 4) (x +ℤ pos 4) refl) (eq_true (y +ℤ pos 11) (y +ℤ pos 11) refl))
    (and_from _ _ (eq_true ((w -ℤ pos 8) +ℤ pos 8) w (back w (pos 8))) (eq_true ((h -ℤ pos 13) +ℤ pos 13) h (back h (pos 13))))

place_is : (place : Place) → is_same_place place place ≡ true
place_is InFront = refl
place_is AtBack = refl

-- the word of its own calls
pub found : (p : Pair) (word : GzzWord) → has_kind word ≡ true → word_of p (expansion p word) ≡ Some word
found p (Open kind place x y w h asks title) fits =
    let made : Make = plain_make Smart place x y w h in
    let small : Make = plain_make kind place (x +ℤ pos 4) (y +ℤ pos 11) (w -ℤ pos 8) (h -ℤ pos 13) in
    let makes : are_makes made small ≡ true =
    and_from _ _ (and_from _ _ fits refl) (and_from _ _ (place_is place) (box_is x y w h)) in
    let bare : is_bare asks false false asks [] ≡ true = and_from _ _ refl (and_from _ _ (eq-eqb asks asks refl) refl) in
    ap (λ t. word_if t (Open kind place x y w h asks title))
    (and_from _ _ (and_from _ _ (and_from _ _ (both_is p) (both_is p)) refl) (and_from _ _ makes bare))
found p (SetBox x y w h) fits = ap (λ t. word_if t (SetBox x y w h)) (and_from _ _ (both_is p) (box_is x y w h))
found p Front fits = ap (λ t. word_if t Front) (both_is p)
found p Behind fits = ap (λ t. word_if t Behind) (both_is p)
found p (InFrontOf other) fits =
    ap (λ t. word_if t (InFrontOf other)) (and_from _ _ (both_is p) (eq-eqb p.outer p.outer refl))
found p Close fits = ap (λ t. word_if t Close) (both_is p)

-- no word is some word
none_is : (P : Type 0) (word : GzzWord) → None ≡ Some word → P
none_is P word is = absurd (cc)

-- calls that stand for a word where a test holds
where_holds : (p : Pair) (calls : List Call) (test : Bool) (own word : GzzWord) → (test ≡ true → Spells p own calls)
    → word_if test own ≡ Some word → Spells p word calls
where_holds p calls true own word spells is = let same : own ≡ word = cc in subst (λ q. Spells p q calls) same (spells refl)
where_holds p calls false own word spells is = none_is (Spells p word calls) word is

-- the slots of a pair
record AreSlots (p : Pair) (outer inner : ℕ) : Type 0 where
  outer_is : p.outer ≡ outer
  inner_is : p.inner ≡ inner

slots_are : (p : Pair) (outer inner : ℕ) → has_both p outer inner ≡ true → AreSlots p outer inner
slots_are p outer inner is =
    let both = and_parts (outer == p.outer) (inner == p.inner) is in
    record { outer_is = sym (eqb-true outer p.outer both.0); inner_is = sym (eqb-true inner p.inner both.1) }

-- an inner box
record IsInnerBox (x y w h a b c d : ℤ) : Type 0 where
  column : x +ℤ pos 4 ≡ a
  row : y +ℤ pos 11 ≡ b
  columns : w -ℤ pos 8 ≡ c
  rows : h -ℤ pos 13 ≡ d

box_from : (x y w h a b c d : ℤ) → is_inner_box x y w h a b c d ≡ true → IsInnerBox x y w h a b c d
box_from x y w h a b c d is =
    let parts = and_parts (int_eq (x +ℤ pos 4) a && int_eq (y +ℤ pos 11) b)
    (int_eq (c +ℤ pos 8) w && int_eq (d +ℤ pos 13) h) is in
    let place = and_parts (int_eq (x +ℤ pos 4) a) (int_eq (y +ℤ pos 11) b) parts.0 in
    let size = and_parts (int_eq (c +ℤ pos 8) w) (int_eq (d +ℤ pos 13) h) parts.1 in
    record {
      column = eq_of (x +ℤ pos 4) a place.0;
      row = eq_of (y +ℤ pos 11) b place.1;
      columns = less_from w (pos 8) c (eq_of (c +ℤ pos 8) w size.0);
      rows = less_from h (pos 13) d (eq_of (d +ℤ pos 13) h size.1);
    }

-- whose numbers are signed words where those of the inner box are
pub box_fits : (x y w h a b c d : ℤ) → FitsSigned w32 a → FitsSigned w32 b → FitsSigned w32 c → FitsSigned w32 d
    → is_inner_box x y w h a b c d ≡ true → HasInner x y w h
box_fits x y w h a b c d column row columns rows is =
    let box = box_from x y w h a b c d is in
    record {
      column = subst (λ z. FitsSigned w32 z) (sym box.column) column;
      row = subst (λ z. FitsSigned w32 z) (sym box.row) row;
      columns = subst (λ z. FitsSigned w32 z) (sym box.columns) columns;
      rows = subst (λ z. FitsSigned w32 z) (sym box.rows) rows;
    }

-- the word of two calls
spelled_two : (p : Pair) (first second : Call) (word : GzzWord) → word_of_two p first second ≡ Some word
    → Spells p word (first ∷ second ∷ [])
spelled_two p (BoxCall outer x y w h) (BoxCall inner a b c d) word is =
    where_holds p _ (has_both p outer inner && is_inner_box x y w h a b c d) (SetBox x y w h) word
    (λ t. let parts = and_parts (has_both p outer inner) (is_inner_box x y w h a b c d) t in
    let slots = slots_are p outer inner parts.0 in
    let box = box_from x y w h a b c d parts.1 in (
      refl,
      λ i. BoxCall (slots.outer_is i) x y w h
          ∷ BoxCall (slots.inner_is i) (box.column i) (box.row i) (box.columns i) (box.rows i) ∷ [],
    )) is
spelled_two p (ToFront outer) (ToFront inner) word is =
    where_holds p _ (has_both p outer inner) Front word
    (λ t. let slots = slots_are p outer inner t in (refl, λ i. ToFront (slots.outer_is i) ∷ ToFront (slots.inner_is i) ∷ [])) is
spelled_two p (ToBack inner) (ToBack outer) word is =
    where_holds p _ (has_both p outer inner) Behind word
    (λ t. let slots = slots_are p outer inner t in (refl, λ i. ToBack (slots.inner_is i) ∷ ToBack (slots.outer_is i) ∷ [])) is
spelled_two p (PutInFront outer other) (PutInFront inner place) word is =
    where_holds p _ (has_both p outer inner && (place == p.outer)) (InFrontOf other) word
    (λ t. let parts = and_parts (has_both p outer inner) (place == p.outer) t in
    let slots = slots_are p outer inner parts.0 in
    let there : p.outer ≡ place = sym (eqb-true place p.outer parts.1) in
    (refl, λ i. PutInFront (slots.outer_is i) other ∷ PutInFront (slots.inner_is i) (there i) ∷ [])) is
spelled_two p (CloseCall outer) (CloseCall inner) word is =
    where_holds p _ (has_both p outer inner) Close word
    (λ t. let slots = slots_are p outer inner t in
    (refl, λ i. CloseCall (slots.outer_is i) ∷ CloseCall (slots.inner_is i) ∷ [])) is
spelled_two p first second word is = none_is (Spells p word (first ∷ second ∷ [])) word is

-- what the tests of makes and windows say
kind_smart : (k : Kind) → is_smart k ≡ true → Smart ≡ k
kind_smart Simple is = absurd (false≢true is)
kind_smart Smart is = refl
kind_smart SuperBitmap is = absurd (false≢true is)

place_same : (a b : Place) → is_same_place a b ≡ true → a ≡ b
place_same InFront InFront is = refl
place_same AtBack AtBack is = refl
place_same InFront AtBack is = absurd (false≢true is)
place_same AtBack InFront is = absurd (false≢true is)

no_hook : (o : Option ℕ) → is_some o ≡ false → None ≡ o
no_hook None is = refl
no_hook (Some n) is = absurd (false≢true (sym is))

no_text : (text : List ℕ) → (length text == 0) ≡ true → [] ≡ text
no_text [] is = refl
no_text (u ∷ us) is = let none : length (u ∷ us) ≡ 0 = eqb-true (length (u ∷ us)) 0 is in absurd (omega (arith, none))

-- a plain make is one of its own kind, place and box
plain_from : (m : Make) → is_plain m ≡ true → plain_make m.kind m.place m.x m.y m.w m.h ≡ m
plain_from m is =
    let parts = and_parts (not m.backdrop && not (is_some m.hook)) ((m.bits_w == 0) && (m.bits_h == 0)) is in
    let open_ = and_parts (not m.backdrop) (not (is_some m.hook)) parts.0 in
    let bits = and_parts (m.bits_w == 0) (m.bits_h == 0) parts.1 in
    let backdrop : false ≡ m.backdrop = sym (not-true m.backdrop open_.0) in
    let hook : None ≡ m.hook = no_hook m.hook (not-true (is_some m.hook) open_.1) in
    let wide : 0 ≡ m.bits_w = sym (eqb-true m.bits_w 0 bits.0) in
    let high : 0 ≡ m.bits_h = sym (eqb-true m.bits_h 0 bits.1) in
    λ i. record {
      kind = m.kind;
      place = m.place;
      x = m.x;
      y = m.y;
      w = m.w;
      h = m.h;
      backdrop = backdrop i;
      hook = hook i;
      bits_w = wide i;
      bits_h = high i;
    }

-- the makes of a new pair
record AreMakes (m n : Make) : Type 0 where
  some_kind : not (is_super n.kind) ≡ true
  outer : plain_make Smart m.place m.x m.y m.w m.h ≡ m
  inner : plain_make n.kind m.place (m.x +ℤ pos 4) (m.y +ℤ pos 11) (m.w -ℤ pos 8) (m.h -ℤ pos 13) ≡ n

makes_from : (m n : Make) → are_makes m n ≡ true → AreMakes m n
makes_from m n is =
    let parts = and_parts ((is_smart m.kind && not (is_super n.kind)) && (is_plain m && is_plain n))
    (is_same_place m.place n.place && is_inner_box m.x m.y m.w m.h n.x n.y n.w n.h) is in
    let made = and_parts (is_smart m.kind && not (is_super n.kind)) (is_plain m && is_plain n) parts.0 in
    let kinds = and_parts (is_smart m.kind) (not (is_super n.kind)) made.0 in
    let plain = and_parts (is_plain m) (is_plain n) made.1 in
    let where_ = and_parts (is_same_place m.place n.place) (is_inner_box m.x m.y m.w m.h n.x n.y n.w n.h) parts.1 in
    let place : m.place ≡ n.place = place_same m.place n.place where_.0 in
    let box = box_from m.x m.y m.w m.h n.x n.y n.w n.h where_.1 in
    record {
      some_kind = kinds.1;
      outer = ap (λ k. plain_make k m.place m.x m.y m.w m.h) (kind_smart m.kind kinds.0) ∙ plain_from m plain.0;
      inner =
          (λ i. plain_make n.kind (place i) (box.column i) (box.row i) (box.columns i) (box.rows i)) ∙ plain_from n plain.1;
    }

-- the word of three calls
spelled_three : (p : Pair) (first second third : Call) (word : GzzWord) → word_of_three p first second third ≡ Some word
    → Spells p word (first ∷ second ∷ third ∷ [])
spelled_three p (OpenWindow outer make framed nocare asks title) (OpenWindow inner small rim care classes text)
    (PutInFront slot place) word is =
    where_holds p _
    (((has_both p outer inner && has_both p place slot) && (framed && not nocare))
    && (are_makes make small && is_bare asks rim care classes text))
    (Open small.kind make.place make.x make.y make.w make.h asks title) word
    (λ t. let parts = and_parts ((has_both p outer inner && has_both p place slot) && (framed && not nocare))
    (are_makes make small && is_bare asks rim care classes text) t in
    let outside = and_parts (has_both p outer inner && has_both p place slot) (framed && not nocare) parts.0 in
    let both = and_parts (has_both p outer inner) (has_both p place slot) outside.0 in
    let frame = and_parts framed (not nocare) outside.1 in
    let inside = and_parts (are_makes make small) (is_bare asks rim care classes text) parts.1 in
    let makes = makes_from make small inside.0 in
    let bare = and_parts (not rim && not care) ((classes == asks) && (length text == 0)) inside.1 in
    let flags = and_parts (not rim) (not care) bare.0 in
    let told = and_parts (classes == asks) (length text == 0) bare.1 in
    let slots = slots_are p outer inner both.0 in
    let joined = slots_are p place slot both.1 in
    let cares : false ≡ nocare = sym (not-true nocare frame.1) in
    let is_framed : true ≡ framed = sym frame.0 in
    let no_rim : false ≡ rim = sym (not-true rim flags.0) in
    let no_care : false ≡ care = sym (not-true care flags.1) in
    let same : asks ≡ classes = sym (eqb-true classes asks told.0) in
    let untitled : [] ≡ text = no_text text told.1 in (
      makes.some_kind,
      λ i.
          OpenWindow (slots.outer_is i) (makes.outer i) (is_framed i) (cares i) asks title
          ∷ OpenWindow (slots.inner_is i) (makes.inner i) (no_rim i) (no_care i) (same i) (untitled i)
          ∷ PutInFront (joined.inner_is i) (joined.outer_is i)
          ∷ [],
    )) is
spelled_three p first second third word is = none_is (Spells p word (first ∷ second ∷ third ∷ [])) word is

spelled : (p : Pair) (calls : List Call) (word : GzzWord) → word_of p calls ≡ Some word → Spells p word calls
spelled p [] word is = none_is (Spells p word []) word is
spelled p (first ∷ []) word is = none_is (Spells p word (first ∷ [])) word is
spelled p (first ∷ second ∷ []) word is = spelled_two p first second word is
spelled p (first ∷ second ∷ third ∷ []) word is = spelled_three p first second third word is
spelled p (first ∷ second ∷ third ∷ c ∷ cs) word is = none_is (Spells p word (first ∷ second ∷ third ∷ c ∷ cs)) word is

-- The answer is the word whose calls they are.
pub exact : (p : Pair) (calls : List Call) → IsWordOf p calls (word_of p calls)
exact p calls =
    record {
      spelled = λ word is. spelled p calls word is;
      found = λ word spells. ap (word_of p) (sym spells.1) ∙ found p word spells.0;
    }

-- So is an answer that equals it, and one that is told unless memory ran out.
pub exact_of : (p : Pair) (calls : List Call) (answer : Option GzzWord) → answer ≡ word_of p calls → IsWordOf p calls answer
exact_of p calls answer is = subst (λ a. IsWordOf p calls a) (sym is) (exact p calls)

pub exact_if : {E : Type 0} (p : Pair) (calls : List Call) (r : Result (Option GzzWord) E)
    → IfOk r (λ answer. answer ≡ word_of p calls) → IfOk r (λ answer. IsWordOf p calls answer)
exact_if p calls (Ok answer) is = exact_of p calls answer is
exact_if p calls (Err e) is = tt
