-- Lines and numbers as they are written in reports and scripts.
use Rattle.std.specs.Prelude.{ℕ, ◌+◌, ◌%◌, ◌/◌, nat_lt, if◌then◌else◌, List, [], ◌∷◌, ◌++◌, ℤ}
use Rattle.std.specs.Fmt.{decimal, signed_decimal}
use Rattle.lw_region.specs.Rectangle.{Rectangle}

-- a line: its bytes, and a line feed
abbrev pub line_of : List ℕ → List ℕ
line_of bytes = bytes ++ 10 ∷ []

-- a space and the number
abbrev pub spaced : ℕ → List ℕ
spaced n = 32 ∷ decimal n

-- a lower-case hexadecimal digit, and a byte in two of them
abbrev pub hex_digit : ℕ → ℕ
hex_digit n = if nat_lt n 10 then 48 + n else 87 + n

abbrev pub hex_byte : ℕ → List ℕ
hex_byte b = hex_digit (b / 16) ∷ hex_digit (b % 16) ∷ []

-- a space and the signed number
abbrev pub spaced_signed : ℤ → List ℕ
spaced_signed z = 32 ∷ signed_decimal z

-- the four bounds of a rectangle, each after a space
abbrev pub spaced_bounds : Rectangle → List ℕ
spaced_bounds r = spaced_signed r.min_x ++ spaced_signed r.min_y ++ spaced_signed r.max_x ++ spaced_signed r.max_y
