use Rattle.std.proofs.Common.{◌≡◌, ◌-◌, ◌*◌, ◌==◌, length}
use Rattle.std.specs.List.{list_any, range_with_len}
use Rattle.lw_planes.specs.Row.{row_bit}
use Rattle.lw_words.specs.Digits.{decoded}
use Rattle.lw_words.proofs.hex.Digits.has_bit_from.Given as goal

-- no bit that was seen is 1
abbrev pub invariant-loop-place : goal.invariant-loop-place
invariant-loop-place l =
    list_any (λ x. row_bit (decoded l.self.digits.now) x == 1) (range_with_len l.width (8 * length (decoded l.self.digits.now) - l.width))
    ≡ list_any (λ x. row_bit (decoded l.self.digits.now) x == 1) (range_with_len l.place (8 * length (decoded l.self.digits.now) - l.place))
