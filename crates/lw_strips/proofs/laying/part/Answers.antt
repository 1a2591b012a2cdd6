use Rattle.lw_strips.proofs.LayingLaws.{part_more}
use Rattle.lw_strips.proofs.laying.part.Goals as goal

pub loop-rect-preserved : goal.loop-rect-preserved
loop-rect-preserved c =
    part_more c.args.strip.now c.args.rects.now c.loop-rect.rect-index c.rect-item.result c.loop-rect.parts.items c.push.new.self.items c.in_ok-one_part.field-0
    c.loop-rect-test.true c.rect-item.is c.loop-rect.invariant c.in_ok-one_part.ensures c.in_ok-push.ensures.items
