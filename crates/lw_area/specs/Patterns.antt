-- Area patterns (Graphics Primitives: an area pattern has 16 columns and a power of two of rows; that it is counted from the
-- layer's own corner is this project's own rule).
use Rattle.std.specs.Prelude.{◌≡◌, ℕ, ◌-◌, ◌==◌, Bool, true, ◌||◌, List, length, ℤ, pos, unsigned_abs}
use Rattle.std.specs.List.{slice_index_or}
use Rattle.std.specs.Int.{bit_at, int_rem_euclid}

-- so many words make a pattern: 1, 2, 4, 8 or 16
abbrev pub is_pattern_count : ℕ → Bool
is_pattern_count n = (n == 1) || ((n == 2) || ((n == 4) || ((n == 8) || (n == 16))))

abbrev pub IsPattern : List ℕ → Type 0
IsPattern words = is_pattern_count (length words) ≡ true

-- the word of row y: that at the row's remainder by the number of words, which is never negative
abbrev pub word_at : List ℕ → ℤ → ℕ
word_at words y = slice_index_or words (unsigned_abs (int_rem_euclid y (pos (length words)))) 0

-- the bit of column x is 1: that at the column's remainder by 16, which is never negative, counted from the left
unfoldable pub word_has : ℕ → ℤ → Bool
word_has word x = bit_at word (15 - unsigned_abs (int_rem_euclid x (pos 16))) == 1

-- the pattern's bit at (x, y) is 1
abbrev pub pattern_has : List ℕ → ℤ → ℤ → Bool
pattern_has words x y = word_has (word_at words y) x
