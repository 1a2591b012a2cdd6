use Rattle.lw_changes.proofs.Hulls.{hull_more}
use Rattle.std.proofs.Common.{◌∙◌}
use Rattle.lw_changes.proofs.changes.hull_of.Goals as goal

pub loop-one-preserved : goal.loop-one-preserved
loop-one-preserved c =
    c.hull-all.ensures ∙ hull_more c.args.rects.now c.loop-one.one-index c.one-item.result c.args.rect.now c.loop-one.all
    c.loop-one-test.true c.one-item.is c.loop-one.invariant
