use Rattle.lw_words.proofs.HexDigits.{pair_within}
use Rattle.lw_words.proofs.hex.Digits.byte.Goals as goal

pub byte_at-requires-clause-digits : goal.byte_at-requires-clause-digits
byte_at-requires-clause-digits c = c.args.self.now.hex

pub byte_at-requires-clause-inside : goal.byte_at-requires-clause-inside
byte_at-requires-clause-inside c = pair_within c.args.self.now.digits.now c.args.place c.requires
