use Rattle.std.proofs.Common.{rules, ◌<◌, length}
use Rattle.std.proofs.lemmas.List.{length-map}
use Rattle.lw_backfill.proofs.Tiles.{cycle_pen}
use Rattle.lw_backfill.proofs.cycle.CycleBackfill.pen_at.Goals as goal

pub returns-clause-pen : goal.returns-clause-pen
returns-clause-pen c =
    let within : c.args.self.now.place < length c.args.self.now.pens.items = search (rules, length-map) in
    cycle_pen c.args.self.now.pens.items c.args.self.now.place c.index.result.now c.args._x c.args._y within c.index.ensures
