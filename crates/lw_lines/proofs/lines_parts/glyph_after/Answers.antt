use Rattle.lw_words.specs.TokenMeaning.{token_meaning}
use Rattle.lw_words.proofs.HexDigits.{one_word}
use Rattle.lw_lines.proofs.lines_parts.glyph_after.Goals as goal

pub returns-in-len2-up : goal.returns-in-len2-up
returns-in-len2-up c = one_word (token_meaning c.args.code.now) c.args.tokens.now c.in-len2-up.len_at_least
