-- Pictures as ILBM files (the IFF text on ILBM: FORM, BMHD, BODY; that colours, a mask plane and more than 8 planes are left out
-- is this project's own). Numbers in a file have their most significant byte first.
use Rattle.std.specs.Prelude.{ℕ, ◌+◌, ◌*◌, ◌%◌, List, ◌∷◌, ◌++◌, length, replicate, codes}
use Rattle.std.specs.Int.{w16, w32, to_be_bytes}
use Rattle.std.specs.List.{flat_map, range_with_len}
use Rattle.lw_planes.specs.Row.{row_bit}
use Rattle.lw_planes.specs.Pen.{pen_of}
use Rattle.lw_planes.specs.Bitmap.{Bitmap, bitmap, row_bytes, plane_row}
use Rattle.lw_ilbm.specs.declared.header.Header.{Header}
use Rattle.lw_ilbm.specs.Packing.{packed}

-- how many bytes the rows of a picture have: of each row its planes' rows, one after another
abbrev pub picture_length : Header → ℕ
picture_length h = h.height * (h.depth * row_bytes h.width)

-- The picture that has these bytes: row after row, and of each row its planes one after another. Padding bits are no part of it.
abbrev pub picture : Header → List ℕ → Bitmap
picture h bytes =
    bitmap h.width h.height h.depth
    (λ x y. pen_of h.depth (λ k. row_bit bytes (8 * ((y * h.depth + k) * row_bytes h.width) + x)))

-- a chunk: its name, the length of its contents, its contents, and one byte more where the length is odd
abbrev pub chunk : List ℕ → List ℕ → List ℕ
chunk name contents = name ++ (to_be_bytes w32 (length contents) ++ (contents ++ replicate (length contents % 2) 0))

-- The contents of the header of a packed picture: width and height, the place 0 0, the planes, no mask, packed, a zero, no colour
-- that is transparent, pixels as wide as high, and the page's width and height.
abbrev pub header_data : Bitmap → List ℕ
header_data b =
    to_be_bytes w16 b.width ++ (to_be_bytes w16 b.height ++ (0 ∷ 0 ∷ 0 ∷ 0 ∷ b.depth ∷ 0 ∷ 1 ∷ 0 ∷ 0 ∷ 0 ∷ 1 ∷ 1 ∷
    (to_be_bytes w16 b.width ++ to_be_bytes w16 b.height)))

-- the packed rows of a bitmap: of each row its planes' rows, each packed alone
abbrev pub body_data : Bitmap → List ℕ
body_data b = flat_map (λ y. flat_map (λ k. packed (plane_row b k y)) (range_with_len 0 b.depth)) (range_with_len 0 b.height)

-- a bitmap as a file
abbrev pub encoded : Bitmap → List ℕ
encoded b =
    let contents = codes "ILBM" ++ (chunk (codes "BMHD") (header_data b) ++ chunk (codes "BODY") (body_data b)) in
    codes "FORM" ++ (to_be_bytes w32 (length contents) ++ contents)
