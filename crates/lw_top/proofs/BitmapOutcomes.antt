-- What is due where a picture is written as a bitmap: an input has one outcome.
use Rattle.std.proofs.Common.{◌≡◌, ℕ, ◌<◌, ◌≤◌, ◌⊎◌, List, length, Result, Ok, Err, false, refl, sym, ap, subst, ◌∙◌, inl, inr, arith}
use Rattle.std.proofs.lemmas.Bool.{cases_lt}
use Rattle.lw_planes.specs.Bitmap.{Bitmap}
use Rattle.lw_grammar.specs.Statements.{bitmap_size_limit}
use Rattle.lw_ilbm.specs.Reading.{picture_of}
use Rattle.lw_print.specs.Bitmaps.{bitmap_text}
use Rattle.lw_top.specs.declared.status.Status.{Status}
use Rattle.lw_top.specs.declared.status.Status.TheVariants.{Done, TooLong, BadPicture}
use Rattle.lw_top.specs.Bitmaps.{IsBitmapOutcome}
use Rattle.lw_top.specs.Laws.{is_stop, BitmapsAreDecided}
use Rattle.lw_top.specs.Status.{text_of, input_limit}
use Rattle.lw_top.proofs.OutcomeLaws.{AreOutcomes}

-- a file gives one picture, or has one first fault
same_picture : (input : List ℕ) (x y : Bitmap) → picture_of bitmap_size_limit input ≡ Ok x → picture_of bitmap_size_limit input ≡ Ok y → x ≡ y
same_picture input x y h k = let same : ◌≡◌ {A = Result Bitmap ℕ} (Ok x) (Ok y) = sym h ∙ k in cc

same_place : (input : List ℕ) (x y : ℕ) → picture_of bitmap_size_limit input ≡ Err x → picture_of bitmap_size_limit input ≡ Err y → x ≡ y
same_place input x y h k = let same : ◌≡◌ {A = Result Bitmap ℕ} (Err x) (Err y) = sym h ∙ k in cc

picture_or_fault : (input : List ℕ) (x : Bitmap) (y : ℕ) → picture_of bitmap_size_limit input ≡ Ok x → picture_of bitmap_size_limit input ≡ Err y → ⊥
picture_or_fault input x y h k = let same : ◌≡◌ {A = Result Bitmap ℕ} (Ok x) (Err y) = sym h ∙ k in cc

one : (name input : List ℕ) (s q : Status) (a b : List ℕ) → IsBitmapOutcome name input s a → IsBitmapOutcome name input q b → (s ≡ q) × (a ≡ b)
one name input TooLong TooLong a b x y = (refl, x.1 ∙ sym y.1)
one name input TooLong Done a b x y = let long = x.0 in let short = y.0 in absurd (omega (arith, long, short))
one name input TooLong (BadPicture n) a b x y = let long = x.0 in let short = y.0 in absurd (omega (arith, long, short))
one name input Done TooLong a b x y = let short = x.0 in let long = y.0 in absurd (omega (arith, long, short))
one name input Done Done a b x y = (refl, x.3 ∙ ap (bitmap_text name) (same_picture input x.1 y.1 x.2 y.2) ∙ sym y.3)
one name input Done (BadPicture n) a b x y = absurd (picture_or_fault input x.1 n x.2 y.1)
one name input (BadPicture n) TooLong a b x y = let short = x.0 in let long = y.0 in absurd (omega (arith, long, short))
one name input (BadPicture n) Done a b x y = absurd (picture_or_fault input y.1 n y.2 x.1)
one name input (BadPicture n) (BadPicture m) a b x y =
    let same = ap BadPicture (same_place input n m x.1 y.1) in
    (same, x.2 ∙ ap text_of same ∙ sym y.2)
one name input TooLong q a b x y = absurd y
one name input Done q a b x y = absurd y
one name input (BadPicture n) q a b x y = absurd y
one name input s q a b x y = absurd x

some : (name input : List ℕ) → (status : Status) × (text : List ℕ) × IsBitmapOutcome name input status text
some name input = elim (cases_lt input_limit (length input)) [ inl long ↦ (TooLong, text_of TooLong, (long, refl)) | inr short ↦ read short (picture_of bitmap_size_limit input) refl ]
  where
    read : length input ≤ input_limit → (r : Result Bitmap ℕ) → picture_of bitmap_size_limit input ≡ r → (status : Status) × (text : List ℕ) × IsBitmapOutcome name input status text
    read short (Ok picture) is = (Done, bitmap_text name picture, (short, picture, is, refl))
    read short (Err place) is = (BadPicture place, text_of (BadPicture place), (short, is, refl))

pub bitmaps_decided : BitmapsAreDecided
bitmaps_decided name input = record { some = some name input; one = one name input }

no_stop : (name input : List ℕ) (s : Status) (text : List ℕ) → IsBitmapOutcome name input s text → is_stop s ≡ false
no_stop name input TooLong text h = refl
no_stop name input Done text h = refl
no_stop name input (BadPicture place) text h = refl
no_stop name input s text h = absurd h

own : (name input : List ℕ) (s : Status) (text : List ℕ) → IsBitmapOutcome name input s text → (s ≡ Done) ⊎ (text ≡ text_of s)
own name input TooLong text h = inr h.1
own name input Done text h = inl refl
own name input (BadPicture place) text h = inr h.2
own name input s text h = absurd h

longer : (name input left : List ℕ) (s : Status) (text : List ℕ) → input_limit < length input → length input ≤ length left → IsBitmapOutcome name input s text → IsBitmapOutcome name left s text
longer name input left TooLong text long more h = (omega (arith, long, more), h.1)
longer name input left Done text long more h = let short = h.0 in absurd (omega (arith, long, short))
longer name input left (BadPicture place) text long more h = let short = h.0 in absurd (omega (arith, long, short))
longer name input left s text long more h = absurd h

pub bitmap_outcomes : (name : List ℕ) → AreOutcomes (IsBitmapOutcome name)
bitmap_outcomes name = record {
  one = λ input s q a b x y. (one name input s q a b x y).0;
  no_stop = no_stop name;
  own = own name;
  longer = longer name;
}

-- the outcome by its answer and its text, as the code makes them
pub done_bitmap : (name input : List ℕ) (picture : Bitmap) (s : Status) (text shown : List ℕ) → length input ≤ input_limit → picture_of bitmap_size_limit input ≡ Ok picture → text ≡ bitmap_text name picture → s ≡ Done → shown ≡ text → IsBitmapOutcome name input s shown
done_bitmap name input picture s text shown short is said done same =
    subst (λ q. IsBitmapOutcome name input q shown) (sym done) (short, picture, is, same ∙ said)

pub bad_bitmap : (name input : List ℕ) (place : ℕ) (s : Status) (text : List ℕ) → length input ≤ input_limit → picture_of bitmap_size_limit input ≡ Err place → s ≡ BadPicture place → text ≡ text_of (BadPicture place) → IsBitmapOutcome name input s text
bad_bitmap name input place s text short is bad said = subst (λ q. IsBitmapOutcome name input q text) (sym bad) (short, is, said)
