-- A picture and its file, for worked cases.
use Rattle.std.specs.Prelude.{ℕ, List, [], ◌∷◌, ◌++◌, ◌&&◌, nat_le, if◌then◌else◌}
use Rattle.lw_planes.specs.Bitmap.{Bitmap, bitmap}

-- 16 columns and 4 rows, with pen 1 at the columns 1 and 2 of the rows 1 and 2
abbrev pub small_picture : Bitmap
small_picture = bitmap 16 4 1 (λ x y. if (nat_le 1 x && nat_le x 2) && (nat_le 1 y && nat_le y 2) then 1 else 0)

abbrev pub file_head : List ℕ
file_head =
    70 ∷ 79 ∷ 82 ∷ 77 ∷ 0 ∷ 0 ∷ 0 ∷ 52 ∷ 73 ∷ 76 ∷ 66 ∷ 77 ∷ 66 ∷ 77 ∷ 72 ∷ 68 ∷ 0 ∷ 0 ∷ 0 ∷ 20 ∷
    0 ∷ 16 ∷ 0 ∷ 4 ∷ 0 ∷ 0 ∷ 0 ∷ 0 ∷ 1 ∷ 0 ∷ 1 ∷ 0 ∷ 0 ∷ 0 ∷ 1 ∷ 1 ∷ 0 ∷ 16 ∷ 0 ∷ 4 ∷
    66 ∷ 79 ∷ 68 ∷ 89 ∷ 0 ∷ 0 ∷ 0 ∷ []

abbrev pub body_bytes : List ℕ
body_bytes = 1 ∷ 0 ∷ 0 ∷ 1 ∷ 96 ∷ 0 ∷ 1 ∷ 96 ∷ 0 ∷ 1 ∷ 0 ∷ 0 ∷ []

abbrev pub small_file : List ℕ
small_file = file_head ++ (12 ∷ body_bytes)

-- the same file whose body says that it is a byte shorter
abbrev pub cut_body : List ℕ
cut_body = file_head ++ (11 ∷ body_bytes)
