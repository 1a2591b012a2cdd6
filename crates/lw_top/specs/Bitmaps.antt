-- What is due where the picture in an input is written as a bitmap of a script.
use Rattle.std.specs.Prelude.{◌≡◌, ℕ, ◌<◌, ◌≤◌, List, length, Ok, Err}
use Rattle.lw_planes.specs.Bitmap.{Bitmap}
use Rattle.lw_grammar.specs.Statements.{bitmap_size_limit}
use Rattle.lw_ilbm.specs.Reading.{picture_of}
use Rattle.lw_print.specs.Bitmaps.{bitmap_text}
use Rattle.lw_top.specs.declared.status.Status.{Status}
use Rattle.lw_top.specs.declared.status.Status.TheVariants.{Done, TooLong, BadPicture}
use Rattle.lw_top.specs.Status.{text_of, input_limit}

-- The outcome on an input, which is the answer that is due and its text: more bytes than the limit are too long; else an ILBM
-- file of no more columns and rows than a script's bitmap may have gives the lines of its picture as a bitmap of this name; and
-- any other input has a first fault.
abbrev pub IsBitmapOutcome : List ℕ → List ℕ → Status → List ℕ → Type 0
IsBitmapOutcome name input TooLong text = (input_limit < length input) × (text ≡ text_of TooLong)
IsBitmapOutcome name input Done text =
    (length input ≤ input_limit) × (picture : Bitmap) × (picture_of bitmap_size_limit input ≡ Ok picture)
    × (text ≡ bitmap_text name picture)
IsBitmapOutcome name input (BadPicture place) text =
    (length input ≤ input_limit) × (picture_of bitmap_size_limit input ≡ Err place) × (text ≡ text_of (BadPicture place))
IsBitmapOutcome name input status text = ⊥
