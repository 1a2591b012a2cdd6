use Rattle.lw_region.proofs.SetOps.{list_combined}
use Rattle.lw_region.proofs.region.combination.Goals as goal

pub returns : goal.returns
returns c = list_combined c.args.operation c.args.a.now c.args.b.now c.in_ok-rects.rects.items c.in_ok-rects.ensures.canonical c.in_ok-rects.ensures.pixels
