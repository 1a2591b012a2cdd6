use Rattle.std.proofs.Common.{◌∙◌, ap, to_z-of_z}
use Rattle.lw_machine.specs.Hook.{tile_place}
use Rattle.lw_backfill.proofs.Tiles.{checker_even, checker_odd}
use Rattle.lw_backfill.proofs.checker.CheckerBackfill.pen_at.Goals as goal

pub returns-then-tile_place-eq0-clause-pen : goal.returns-then-tile_place-eq0-clause-pen
returns-then-tile_place-eq0-clause-pen c =
    checker_even c.args.self.now.a c.args.self.now.b c.tile_place.result c.tile_place-2.result c.args.x c.args.y
    (c.tile_place.ensures.place ∙ ap tile_place (to_z-of_z c.ranges.x))
    (c.tile_place-2.ensures.place ∙ ap tile_place (to_z-of_z c.ranges.y))
    c.if-tile_place-eq0.true

pub returns-else-tile_place-eq0-clause-pen : goal.returns-else-tile_place-eq0-clause-pen
returns-else-tile_place-eq0-clause-pen c =
    checker_odd c.args.self.now.a c.args.self.now.b c.tile_place.result c.tile_place-2.result c.args.x c.args.y
    (c.tile_place.ensures.place ∙ ap tile_place (to_z-of_z c.ranges.x))
    (c.tile_place-2.ensures.place ∙ ap tile_place (to_z-of_z c.ranges.y))
    c.if-tile_place-eq0.false
