use Rattle.lw_changes.proofs.Hulls.{hull_ordered}
use Rattle.lw_changes.proofs.changes.hull.Goals as goal

pub unreachable-requires : goal.unreachable-requires
unreachable-requires c =
    c.in-None.ensures {u = tt} (hull_ordered c.args.rect.now c.args.other.now c.min_x.ensures.ordered)
