-- What the definitions of packing and of files promise.
use Rattle.std.specs.Prelude.{◌≡◌, ℕ, List, ◌++◌, Ok}
use Rattle.lw_planes.specs.Bitmap.{Bitmap}
use Rattle.lw_ilbm.specs.Packing.{packed, unpacked}
use Rattle.lw_ilbm.specs.Pictures.{encoded}
use Rattle.lw_ilbm.specs.Reading.{picture_of}

-- A packed row, and codes after it, stand for the row and what these codes stand for.
abbrev pub PackedRowsUnpack : List ℕ → List ℕ → Type 0
PackedRowsUnpack row codes = unpacked (packed row ++ codes) ≡ row ++ unpacked codes

-- The file of a bitmap gives this bitmap again.
abbrev pub PicturesReadBack : Bitmap → Type 0
PicturesReadBack b = picture_of 2048 (encoded b) ≡ Ok b
