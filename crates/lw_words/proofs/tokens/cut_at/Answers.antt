use Rattle.lw_words.proofs.CutWords.{quote_inside, cuts_word}
use Rattle.lw_words.proofs.tokens.cut_at.Goals as goal

pub returns-then-line-end-eq34 : goal.returns-then-line-end-eq34
returns-then-line-end-eq34 c = quote_inside c.args.line.now c.args.end c.requires.found c.requires.begun c.if-line-end-eq34.true

pub returns : goal.returns
returns c =
    cuts_word c.args.line.now c.args.end c.requires.found c.requires.begun c.if-line-end-eq34.false c.if-end-eq0.false
