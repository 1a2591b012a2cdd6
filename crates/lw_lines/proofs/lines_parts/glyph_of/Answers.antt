use Rattle.lw_words.specs.Digits.{decoded}
use Rattle.lw_words.proofs.HexDigits.{glyph_made}
use Rattle.lw_lines.proofs.lines_parts.glyph_of.Goals as goal

pub returns-in-Some-digits_in : goal.returns-in-Some-digits_in
returns-in-Some-digits_in c =
    glyph_made (decoded c.in-Some.code.digits.now) (decoded c.in-Some-digits_in.digits.digits.now) _ _ c.byte-code.result c.in-Some.ensures.bytes c.in-Some-digits_in.ensures.bytes c.in-Some.ensures.long c.byte-code.ensures
