use Rattle.std.proofs.Common.{sym, ◌∙◌}
use Rattle.lw_words.proofs.CutWords.{no_text_end, text_end_at}
use Rattle.lw_words.proofs.tokens.ends_text.Goals as goal

pub returns-in-None : goal.returns-in-None
returns-in-None c = sym (no_text_end c.args.bytes.now (sym c.place_of.ensures ∙ c.in-None.is))

pub returns-in-Some : goal.returns-in-Some
returns-in-Some c = sym (text_end_at c.args.bytes.now c.in-Some.end (sym c.place_of.ensures ∙ c.in-Some.is))
