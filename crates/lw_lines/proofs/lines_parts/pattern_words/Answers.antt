use Rattle.lw_lines.proofs.PatternWords.{more_words}
use Rattle.lw_lines.proofs.lines_parts.pattern_words.Goals as goal

pub loop-token-preserved : goal.loop-token-preserved
loop-token-preserved c =
    rw c.in_ok-push-in-Some.ensures.items (more_words c.args.tokens.now c.loop-token.token-index c.in-Some.word c.loop-token.words.items _ c.loop-token-test.true c.in-Some.ensures c.loop-token.invariant)
