use Rattle.std.proofs.Common.{sym, ◌∙◌}
use Rattle.lw_stack.proofs.SetsLaws.{others_taken}
use Rattle.lw_stack.proofs.sets.place_of.Goals as goal

pub loop-index-preserved : goal.loop-index-preserved
loop-index-preserved c =
    others_taken c.args.slot c.args.parts.now c.loop-index.index c.index-parts-index.result c.loop-index-test.true
    c.index-parts-index.is c.loop-index.invariant (sym c.is_of.ensures ∙ c.if-is_of.false)
