use Rattle.lw_statements.specs.StatementMeaning.{corners_meaning}
use Rattle.lw_statements.proofs.RectRanges.{axes, lower, upper, in_order, some_rect}
use Rattle.lw_statements.proofs.statement.Corners.rect.Goals as goal

pub coordinate-requires : goal.coordinate-requires
coordinate-requires c = lower _ _ (axes (corners_meaning c.args.self.now) c.requires).0

pub coordinate-requires-2 : goal.coordinate-requires-2
coordinate-requires-2 c = lower _ _ (axes (corners_meaning c.args.self.now) c.requires).1

pub coordinate-requires-3 : goal.coordinate-requires-3
coordinate-requires-3 c = upper _ _ (axes (corners_meaning c.args.self.now) c.requires).0

pub coordinate-requires-4 : goal.coordinate-requires-4
coordinate-requires-4 c = upper _ _ (axes (corners_meaning c.args.self.now) c.requires).1

pub unwrap-requires : goal.unwrap-requires
unwrap-requires c =
    let a = axes (corners_meaning c.args.self.now) c.requires in
    some_rect c.new.result _ c.new.ensures (record {
      columns = in_order _ _ _ _ a.0 c.coordinate.ensures c.coordinate-3.ensures;
      rows = in_order _ _ _ _ a.1 c.coordinate-2.ensures c.coordinate-4.ensures;
    })
