-- The calls that stand for what is done with a window of two layers (the manual's Intuition Windows chapter: GIMMEZEROZERO; that
-- it is made of two windows, and these calls, are this project's own).
use Rattle.std.specs.Prelude.{◌≡◌, Bool, true, false, not, List, [], ◌∷◌, ℤ, pos, ◌+ℤ◌, ◌-ℤ◌, Option, Some, None, FitsSigned}
use Rattle.std.specs.Int.{w32}
use Rattle.lw_calls.specs.declared.make.Kind.{Kind}
use Rattle.lw_calls.specs.declared.make.Kind.TheVariants.{Smart}
use Rattle.lw_calls.specs.declared.make.Place.{Place}
use Rattle.lw_calls.specs.declared.make.Make.{Make}
use Rattle.lw_calls.specs.declared.pair.Pair.{Pair}
use Rattle.lw_calls.specs.declared.call.Call.{Call}
use Rattle.lw_calls.specs.declared.call.Call.TheVariants.{OpenWindow, Close as CloseCall, ToFront, ToBack}
use Rattle.lw_calls.specs.declared.call.Call.TheVariants.{InFrontOf as PutInFront, SetBox as BoxCall}
use Rattle.lw_calls.specs.Kinds.{is_super}
use Rattle.lw_gzz.specs.declared.word.GzzWord.{GzzWord}
use Rattle.lw_gzz.specs.declared.word.GzzWord.TheVariants.{Open, SetBox, Front, Behind, InFrontOf, Close}

-- a layer of this kind in this place with this box, that is no backdrop, has no hook and no bitmap of its own
abbrev pub plain_make : Kind → Place → ℤ → ℤ → ℤ → ℤ → Make
plain_make kind place x y w h = record {
  kind = kind;
  place = place;
  x = x;
  y = y;
  w = w;
  h = h;
  backdrop = false;
  hook = None;
  bits_w = 0;
  bits_h = 0;
}

-- The calls of what is done with a pair: a frame takes 4 columns on each side, 11 rows at the top and 2 at the bottom.
abbrev pub expansion : Pair → GzzWord → List Call
expansion p (Open kind place x y w h asks title) =
    OpenWindow p.outer (plain_make Smart place x y w h) true false asks title
    ∷ OpenWindow p.inner (plain_make kind place (x +ℤ pos 4) (y +ℤ pos 11) (w -ℤ pos 8) (h -ℤ pos 13)) false false asks []
    ∷ PutInFront p.inner p.outer
    ∷ []
expansion p (SetBox x y w h) =
    BoxCall p.outer x y w h ∷ BoxCall p.inner (x +ℤ pos 4) (y +ℤ pos 11) (w -ℤ pos 8) (h -ℤ pos 13) ∷ []
expansion p Front = ToFront p.outer ∷ ToFront p.inner ∷ []
expansion p Behind = ToBack p.inner ∷ ToBack p.outer ∷ []
expansion p (InFrontOf other) = PutInFront p.outer other ∷ PutInFront p.inner p.outer ∷ []
expansion p Close = CloseCall p.outer ∷ CloseCall p.inner ∷ []

-- the inner window of this kind is no super-bitmap layer, which has none of its own here
abbrev pub has_kind : GzzWord → Bool
has_kind (Open kind place x y w h asks title) = not (is_super kind)
has_kind word = true

-- The place and the size of the inner rectangle of a box are signed words of 32 bits, as the box's own are.
pub record HasInner (x y w h : ℤ) : Type 0 where
  pub column : FitsSigned w32 (x +ℤ pos 4)
  pub row : FitsSigned w32 (y +ℤ pos 11)
  pub columns : FitsSigned w32 (w -ℤ pos 8)
  pub rows : FitsSigned w32 (h -ℤ pos 13)

abbrev pub HasInnerBox : GzzWord → Type 0
HasInnerBox (Open kind place x y w h asks title) = HasInner x y w h
HasInnerBox (SetBox x y w h) = HasInner x y w h
HasInnerBox word = Unit {0}

-- These calls are what the word stands for, whose inner window is simple or smart.
abbrev pub Spells : Pair → GzzWord → List Call → Type 0
Spells p word calls = (has_kind word ≡ true) × (expansion p word ≡ calls)

-- The answer is the word for which these calls stand, and none exactly where they stand for no word.
pub record IsWordOf (p : Pair) (calls : List Call) (answer : Option GzzWord) : Type 0 where
  pub spelled : (word : GzzWord) → answer ≡ Some word → Spells p word calls
  pub found : (word : GzzWord) → Spells p word calls → answer ≡ Some word
