-- For private contracts.
-- Where a row's bits stand in a word, and the bits of rows that one word has.
use Rattle.std.specs.Prelude.{◌≡◌, ℕ, ◌+◌, ◌-◌, ◌*◌, ◌/◌, ◌%◌, ◌<◌, ◌≤◌}
use Rattle.std.specs.Int.{bit_at}
use Rattle.lw_planes.specs.Row.{bit_of}
use Rattle.lw_kernels.specs.Kernel.{is_between}
use Rattle.lw_kernels.specs.declared.columns.Column.{Column}

-- where bit j of some bytes, counted from their left, stands in the word whose lowest byte is the first of them
abbrev pub spot : ℕ → ℕ
spot j = 8 * (j / 8) + (7 - j % 8)

-- At least one bit. They lie in one word of their row on either side, and turning the source's word brings them to their place.
pub record IsColumn (to_step source_step : ℕ) (c : Column) : Type 0 where
  pub small : c.size ≤ 8
  pub some : 0 < c.count
  pub inside : c.at + c.size ≤ to_step
  pub named : c.lead + c.count ≤ 8 * c.size
  pub source_inside : c.start + c.size ≤ source_step
  pub source_named : c.place + c.count ≤ 8 * c.size
  pub low : c.turn < 64
  pub turn : (c.lead + c.turn) % 64 ≡ c.place
  pub mask : (j : ℕ) → j < 64 → bit_at c.mask (spot j) ≡ bit_of (is_between c.lead (c.lead + c.count) j)
