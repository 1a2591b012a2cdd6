use Rattle.lw_words.proofs.HexDigits.{decoded_by}
use Rattle.lw_words.proofs.hex.byte_at.Goals as goal

pub returns : goal.returns
returns c =
    rw (c.hex_value.ensures.value, c.hex_value-2.ensures.value) (decoded_by c.args.digits.now c.args.place c.requires.inside)
