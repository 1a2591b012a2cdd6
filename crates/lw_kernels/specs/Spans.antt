-- For private contracts.
-- Bits of a row, by the bytes that they begin and end in.
use Rattle.std.specs.Prelude.{◌≡◌, ℕ, ◌+◌, ◌-◌, ◌*◌, ◌/◌, ◌%◌, ◌<◌, min, max, true, bit_and}
use Rattle.std.specs.Int.{bit_at}
use Rattle.lw_planes.specs.Row.{bit_of}
use Rattle.lw_kernels.specs.Kernel.{is_between}
use Rattle.lw_kernels.specs.declared.spans.Span.{Span}
use Rattle.lw_kernels.specs.declared.ways.Way.{Way}

-- At least one bit. The first mask names those of byte `first`, the second those of byte `last`, where it is another byte.
pub record IsSpan (s : Span) : Type 0 where
  pub some : s.from < s.end
  pub first : s.first ≡ s.from / 8
  pub last : s.last ≡ (s.end - 1) / 8
  pub next : s.next ≡ min s.last (s.first + 1)
  pub cut : s.cut ≡ min s.end (8 * s.first + 8)
  pub rest : s.rest ≡ max s.cut (8 * s.last)
  pub head : (j : ℕ) → j < 8 → bit_at s.head (7 - j) ≡ bit_of (is_between s.from s.cut (8 * s.first + j))
  pub tail : (j : ℕ) → j < 8 → bit_at s.tail (7 - j) ≡ bit_of (is_between s.rest s.end (8 * s.last + j))

-- what a way says of a blit by this minterm of sources that begin at this bit of their row
pub record IsWay (minterm : ℕ) (s : Span) (place : ℕ) (way : Way) : Type 0 where
  pub copies : way.copies ≡ true → bit_and minterm 240 ≡ 192
  pub whole : way.whole ≡ true → place % 8 ≡ s.from % 8
