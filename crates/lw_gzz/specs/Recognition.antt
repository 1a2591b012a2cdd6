-- The word for which calls stand, found by tests of their parts (this project's own).
use Rattle.std.specs.Prelude.{◌≡◌, ℕ, ◌==◌, Bool, true, false, not, ◌&&◌, if◌then◌else◌, List, [], ◌∷◌, ℤ, pos, ◌+ℤ◌, Option}
use Rattle.std.specs.Prelude.{Some}
use Rattle.std.specs.Prelude.{None, is_some, length}
use Rattle.std.specs.Ordering.{int_eq}
use Rattle.std.specs.List.{list_all}
use Rattle.lw_calls.specs.declared.make.Kind.{Kind}
use Rattle.lw_calls.specs.declared.make.Kind.TheVariants.{Simple, Smart, SuperBitmap}
use Rattle.lw_calls.specs.declared.make.Place.{Place}
use Rattle.lw_calls.specs.declared.make.Place.TheVariants.{Front as InFront, Behind as AtBack}
use Rattle.lw_calls.specs.declared.make.Make.{Make}
use Rattle.lw_calls.specs.declared.pair.Pair.{Pair}
use Rattle.lw_calls.specs.declared.call.Call.{Call}
use Rattle.lw_calls.specs.declared.call.Call.TheVariants.{OpenWindow, Close as CloseCall, ToFront, ToBack}
use Rattle.lw_calls.specs.declared.call.Call.TheVariants.{InFrontOf as PutInFront, SetBox as BoxCall}
use Rattle.lw_calls.specs.Kinds.{is_super}
use Rattle.lw_gzz.specs.declared.word.GzzWord.{GzzWord}
use Rattle.lw_gzz.specs.declared.word.GzzWord.TheVariants.{Open, SetBox, Front, Behind, InFrontOf, Close}
use Rattle.lw_gzz.specs.Words.{expansion, Spells, IsWordOf}
use Rattle.lw_gzz.specs.Together.{may_part}

-- the layer is no backdrop, and has no hook and no bitmap of its own
abbrev pub is_plain : Make → Bool
is_plain m = (not m.backdrop && not (is_some m.hook)) && ((m.bits_w == 0) && (m.bits_h == 0))

abbrev pub is_smart : Kind → Bool
is_smart Simple = false
is_smart Smart = true
is_smart SuperBitmap = false

abbrev pub is_same_place : Place → Place → Bool
is_same_place InFront InFront = true
is_same_place AtBack AtBack = true
is_same_place InFront AtBack = false
is_same_place AtBack InFront = false

-- the second box is the inner rectangle of the first one
abbrev pub is_inner_box : ℤ → ℤ → ℤ → ℤ → ℤ → ℤ → ℤ → ℤ → Bool
is_inner_box x y w h inner_x inner_y inner_w inner_h =
    (int_eq (x +ℤ pos 4) inner_x && int_eq (y +ℤ pos 11) inner_y)
    && (int_eq (inner_w +ℤ pos 8) w && int_eq (inner_h +ℤ pos 13) h)

-- the layers of a new pair
abbrev pub are_makes : Make → Make → Bool
are_makes outer inner =
    ((is_smart outer.kind && not (is_super inner.kind)) && (is_plain outer && is_plain inner))
    && (is_same_place outer.place inner.place && is_inner_box outer.x outer.y outer.w outer.h inner.x inner.y inner.w inner.h)

-- a window without a frame and a title, which wants refresh messages and asks for these classes
abbrev pub is_bare : ℕ → Bool → Bool → ℕ → List ℕ → Bool
is_bare asks framed nocare classes title = (not framed && not nocare) && ((classes == asks) && (length title == 0))

abbrev pub has_both : Pair → ℕ → ℕ → Bool
has_both p outer inner = (outer == p.outer) && (inner == p.inner)

-- the word where the test holds
abbrev pub word_if : Bool → GzzWord → Option GzzWord
word_if test word = if test then Some word else None

-- The word for which two calls stand, and that for which three stand.
abbrev pub word_of_two : Pair → Call → Call → Option GzzWord
word_of_two p (BoxCall outer x y w h) (BoxCall inner a b c d) =
    word_if (has_both p outer inner && is_inner_box x y w h a b c d) (SetBox x y w h)
word_of_two p (ToFront outer) (ToFront inner) = word_if (has_both p outer inner) Front
word_of_two p (ToBack inner) (ToBack outer) = word_if (has_both p outer inner) Behind
word_of_two p (PutInFront outer other) (PutInFront inner place) =
    word_if (has_both p outer inner && (place == p.outer)) (InFrontOf other)
word_of_two p (CloseCall outer) (CloseCall inner) = word_if (has_both p outer inner) Close
word_of_two p first second = None

abbrev pub word_of_three : Pair → Call → Call → Call → Option GzzWord
word_of_three p (OpenWindow outer make framed nocare asks title) (OpenWindow inner small rim care classes text)
    (PutInFront slot place) =
    word_if
    (((has_both p outer inner && has_both p place slot) && (framed && not nocare))
    && (are_makes make small && is_bare asks rim care classes text))
    (Open small.kind make.place make.x make.y make.w make.h asks title)
word_of_three p first second third = None

-- The word for which calls stand, if they stand for one.
abbrev pub word_of : Pair → List Call → Option GzzWord
word_of p (first ∷ second ∷ []) = word_of_two p first second
word_of p (first ∷ second ∷ third ∷ []) = word_of_three p first second third
word_of p calls = None

-- It is the word whose calls they are, and there is none exactly where they stand for no word.
abbrev pub CallsHaveTheirWord : Type 0
CallsHaveTheirWord = (p : Pair) (calls : List Call) → IsWordOf p calls (word_of p calls)

-- Calls stand for one word at most, done with one pair.
abbrev pub CallsStandForOnePair : Type 0
CallsStandForOnePair =
    (p q : Pair) (calls : List Call) (word other : GzzWord) → Spells p word calls → Spells q other calls
    → (p ≡ q) × (word ≡ other)

-- Each call of a word is one that may part its pair.
abbrev pub WordsMayPartTheirPair : Type 0
WordsMayPartTheirPair = (p : Pair) (word : GzzWord) → list_all (may_part p) (expansion p word) ≡ true
