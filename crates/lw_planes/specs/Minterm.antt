-- Minterms of a blit (Graphics Primitives: `BltBitMap` combines a source bit B with the old destination bit C).
use Rattle.std.specs.Prelude.{ℕ, ◌==◌, if◌then◌else◌}
use Rattle.std.specs.Int.{bit_at}

-- The value of a minterm for the source bit b and the old destination bit c: its bit 0x80 for b and c, 0x40 for b and
-- not c, 0x20 for c and not b, 0x10 for neither.
abbrev pub minterm_bit : ℕ → ℕ → ℕ → ℕ
minterm_bit minterm b c =
    if b == 1
    then (if c == 1 then bit_at minterm 7 else bit_at minterm 6)
    else (if c == 1 then bit_at minterm 5 else bit_at minterm 4)
