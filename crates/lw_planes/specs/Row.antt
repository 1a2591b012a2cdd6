-- Rows of bytes as bits (Graphics Primitives: the leftmost pixel of a byte is its most significant bit).
use Rattle.std.specs.Prelude.{ℕ, ◌-◌, ◌*◌, ◌/◌, ◌%◌, Bool, if◌then◌else◌, List, map, length, slice_index}
use Rattle.std.specs.Int.{bit_at}
use Rattle.std.specs.List.{range_with_len}

-- a truth value as a bit
abbrev pub bit_of : Bool → ℕ
bit_of b = if b then 1 else 0

-- bit x of a row of bytes, from its left: the most significant bit of byte 0 is bit 0; it is 0 past the row
unfoldable pub row_bit : List ℕ → ℕ → ℕ
row_bit row x = bit_at (slice_index row (x / 8)) (7 - x % 8)

-- the bits of a row of bytes, from its left
unfoldable pub row_bits : List ℕ → List ℕ
row_bits row = map (λ x. row_bit row x) (range_with_len 0 (8 * length row))
