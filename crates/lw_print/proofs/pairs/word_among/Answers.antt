use Rattle.std.proofs.Common.{sym, ◌∙◌}
use Rattle.std.specs.Prelude.{Some, None}
use Rattle.lw_print.proofs.PairWords.{first_of}
use Rattle.lw_print.proofs.pairs.word_among.Goals as goal

pub returns-in-Some : goal.returns-in-Some
returns-in-Some c =
    let l = c.loop-pair in
    sym (first_of c.args.pairs.now l.pair-index _ c.args.calls.now (Some c.in-Some.word) c.loop-pair-test.true (rw c.in-Some.is at c.in_ok-word.ensures.exact)) ∙ l.invariant

pub loop-pair-preserved : goal.loop-pair-preserved
loop-pair-preserved c =
    let l = c.loop-pair in
    sym (first_of c.args.pairs.now l.pair-index _ c.args.calls.now None c.loop-pair-test.true (rw c.in_default.is at c.in_ok-word.ensures.exact)) ∙ l.invariant
