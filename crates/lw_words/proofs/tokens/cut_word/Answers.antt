use Rattle.std.proofs.Common.{sym, ◌∙◌, arith}
use Rattle.lw_words.proofs.CutLines.{some_bytes}
use Rattle.lw_words.proofs.CutWords.{last_word}
use Rattle.lw_words.proofs.tokens.cut_word.Goals as goal

pub returns-in-None : goal.returns-in-None
returns-in-None c =
    (last_word c.args.line.now (some_bytes c.args.line.now _ c.is_empty.ensures c.if-is_empty.false) c.if-line-eq34.false (sym c.break_of.ensures ∙ c.in-None.is), omega arith)
