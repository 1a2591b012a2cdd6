use Rattle.std.proofs.Common.{◌≡◌, ℕ, ◌<◌, get_or}
use Rattle.lw_words.specs.Digits.{decoded}
use Rattle.lw_reader.proofs.assets.glyph_of.Given as goal

-- the rows before the place are those that the digits spell
abbrev pub invariant-loop-place : goal.invariant-loop-place
invariant-loop-place l = (k : ℕ) → k < l.place → get_or l.row-items k 0 ≡ get_or (decoded l.digits.digits.now) k 0
