-- What the calls on rows and on blocks of rows leave. A block is so many rows of `step` bytes each, one after another.
use Rattle.std.specs.Prelude.{◌≡◌, ℕ, ◌+◌, ◌-◌, ◌*◌, ◌<◌, Bool, true, false, ◌&&◌, nat_le, nat_lt, if◌then◌else◌, List, length, ℤ}
use Rattle.lw_planes.specs.Row.{row_bit}
use Rattle.lw_planes.specs.Minterm.{minterm_bit}
use Rattle.lw_kernels.specs.Kernel.{is_named, place_in}
use Rattle.lw_c_arrays.specs.Answers.{done, outside}

-- so many bits from `from` on lie in the row
abbrev pub lie_in : List ℕ → ℕ → ℕ → Bool
lie_in row from count = nat_le (from + count) (8 * length row)

-- so of the bits of two rows
abbrev pub both_lie_in : List ℕ → ℕ → List ℕ → ℕ → ℕ → Bool
both_lie_in to to_bit source source_bit count = lie_in to to_bit count && lie_in source source_bit count

-- If the named bits lie in the row, each becomes `value x`, x being its place; every other bit stays. Otherwise the row stays.
pub record IsRowSet (fits : Bool) (from count : ℕ) (value : ℕ → ℕ) (old new : List ℕ) (answer : ℤ) : Type 0 where
  pub answered : answer ≡ (if fits then done else outside)
  pub bits : fits ≡ true → (x : ℕ) → row_bit new x ≡ (if is_named from count x then value x else row_bit old x)
  pub kept : fits ≡ false → new ≡ old

-- so many bits from `from` on lie in a row of `step` bytes, and the rows up to `rows` in the array
abbrev pub block_lies_in : List ℕ → ℕ → ℕ → ℕ → ℕ → Bool
block_lies_in bytes step rows from count = nat_le (from + count) (8 * step) && nat_le (rows * step) (length bytes)

-- If the named bits of the rows from `row` on lie in the block, bit x of row y becomes `value y x`; every other bit of a row
-- stays. Otherwise all bytes stay, and so they do where rows have no bytes.
pub record IsBlockSet
    (fits : Bool) (step row rows from count : ℕ) (value : ℕ → ℕ → ℕ) (old new : List ℕ) (answer : ℤ) : Type 0 where
  pub answered : answer ≡ (if fits then done else outside)
  pub bits : fits ≡ true → (y x : ℕ) → x < 8 * step → row_bit new (place_in step y x)
      ≡ (if is_named row rows y && is_named from count x then value y x else row_bit old (place_in step y x))
  pub kept : fits ≡ false → new ≡ old
  pub without_bytes : step ≡ 0 → new ≡ old
