-- For private contracts.
-- The bits of rows that two words have, and the masks of these words.
use Rattle.std.specs.Prelude.{◌≡◌, ℕ, ◌+◌, ◌*◌, ◌%◌, ◌<◌, ◌≤◌, ◌&&◌, not, nat_lt, Bool}
use Rattle.std.specs.Int.{bit_at}
use Rattle.lw_planes.specs.Row.{bit_of}
use Rattle.lw_kernels.specs.Kernel.{is_between}
use Rattle.lw_kernels.specs.Words.{spot}
use Rattle.lw_kernels.specs.declared.wide.Masks.{Masks}
use Rattle.lw_kernels.specs.declared.wide.WideColumn.{WideColumn}

-- The bits of a word for which the test holds are new ones: bit `shift` of a byte of the source becomes the first one of a byte.
-- `here` has those that are in that byte, `next` those that come from the next one, and `old` the bits that stay.
pub record IsMasks (shift : ℕ) (test : ℕ → Bool) (m : Masks) : Type 0 where
  pub here : (j : ℕ) → j < 64 → bit_at m.here (spot j) ≡ bit_of (test j && nat_lt (j % 8 + shift) 8)
  pub next : (j : ℕ) → j < 64 → bit_at m.next (spot j) ≡ bit_of (test j && not (nat_lt (j % 8 + shift) 8))
  pub old : (j : ℕ) → j < 64 → bit_at m.old (spot j) ≡ bit_of (not (test j))

-- the bits lie in the two words, and the masks are theirs
pub record IsWideColumn (c : WideColumn) : Type 0 where
  pub low : c.shift < 8
  pub named : c.lead + c.count ≤ 128
  pub first : IsMasks c.shift (λ j. is_between c.lead (c.lead + c.count) j) c.first
  pub second : IsMasks c.shift (λ j. is_between c.lead (c.lead + c.count) (64 + j)) c.second

-- a column of the first of so many bits, at least of one, whose words, with one more byte of the source, lie in the rows
pub record IsWideColumnOf (to_step to_bit source_step source_bit count : ℕ) (c : WideColumn) : Type 0 where
  pub column : IsWideColumn c
  pub some : 0 < c.count
  pub few : c.count ≤ count
  pub inside : c.at + 16 ≤ to_step
  pub source_inside : c.start + 17 ≤ source_step
  pub begins : 8 * c.at + c.lead ≡ to_bit
  pub source_begins : 8 * c.start + (c.shift + c.lead) ≡ source_bit
