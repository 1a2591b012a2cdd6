-- Laws of rows of bytes as bits.
use Rattle.std.proofs.Common.{◌≡◌, ℕ, ◌+◌, ◌-◌, ◌*◌, ◌/◌, ◌%◌, ◌<◌, ◌≤◌, List, length, get_or, slice_index, ◌∙◌, ap, zero-add, arith}
use Rattle.std.specs.Int.{bit_at}
use Rattle.std.proofs.lemmas.List.{get_or_past}
use Rattle.std.proofs.lemmas.List.FromFn.{length-map-range_with_len, get_or-map-range_with_len}
use Rattle.std.proofs.lemmas.Nat.Bits.{bit_at-lt, bit_at-zero}
use Rattle.lw_planes.specs.Row.{row_bit, row_bits}

-- a bit is 0 or 1
pub row_bit_lt : (row : List ℕ) (x : ℕ) → row_bit row x < 2
unfolding row_bit
row_bit_lt row x = bit_at-lt _ _

-- past the row every bit is 0
pub row_bit_past : (row : List ℕ) (x : ℕ) → 8 * length row ≤ x → row_bit row x ≡ 0
unfolding row_bit
row_bit_past row x past =
    let beyond : length row ≤ x / 8 = omega arith in
    ap (λ p. bit_at p (7 - x % 8)) (get_or_past row (x / 8) 0 beyond) ∙ bit_at-zero (7 - x % 8)

-- bit j of byte i
pub row_bit_at : (row : List ℕ) (i j : ℕ) → j < 8 → row_bit row (8 * i + j) ≡ bit_at (slice_index row i) (7 - j)
unfolding row_bit
row_bit_at row i j h =
    let byte : (8 * i + j) / 8 ≡ i = omega arith in
    let place : (8 * i + j) % 8 ≡ j = omega arith in
    rw (byte, place)

-- there are eight bits for each byte
pub length_row_bits : (row : List ℕ) → length (row_bits row) ≡ 8 * length row
unfolding row_bits
length_row_bits row = length-map-range_with_len _ 0 (8 * length row)

-- the list of the bits has each bit in its place
pub row_bits_at : (row : List ℕ) (x : ℕ) → x < 8 * length row → get_or (row_bits row) x 0 ≡ row_bit row x
unfolding row_bits
row_bits_at row x h = get_or-map-range_with_len (λ i. row_bit row i) 0 (8 * length row) x x 0 h (zero-add x)
