-- Rows of planes with zeros in their padding.
use Rattle.std.specs.Prelude.{ℕ, ◌-◌, nat_lt, if◌then◌else◌, List, [], ◌∷◌}
use Rattle.std.specs.Int.{bit_at}
use Rattle.lw_planes.specs.Pen.{byte_of}

-- The byte with its leftmost bits, as many as this, and zeros after them.
unfoldable pub leftmost_bits : ℕ → ℕ → ℕ
leftmost_bits kept byte = byte_of (λ j. if nat_lt j kept then bit_at byte (7 - j) else 0)

-- The bytes of a row of so many pixels, with zeros in the padding.
abbrev pub without_padding : ℕ → List ℕ → List ℕ
without_padding width [] = []
without_padding width (byte ∷ bytes) = leftmost_bits width byte ∷ without_padding (width - 8) bytes
