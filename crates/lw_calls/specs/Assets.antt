-- What a script hands in besides its calls.
use Rattle.std.specs.Prelude.{ℕ, List}
use Rattle.lw_planes.specs.Bitmap.{Bitmap}

-- What a script hands in: the glyphs of the codes 0x20 to 0x7e, each of 8 bytes from its top row, and its bitmaps.
pub record Assets : Type 0 where
  pub glyphs : List (List ℕ)
  pub bitmaps : List Bitmap
