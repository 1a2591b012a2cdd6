use Rattle.std.proofs.Common.{◌≡◌, ◌∙◌, ap, w32}
use Rattle.std.proofs.lemmas.Int.{to_z-of_z}
use Rattle.lw_machine.specs.Hook.{tile_place}
use Rattle.lw_program_desk.proofs.TilesLaws.{tiles_pen, tiles_are_hook}
use Rattle.lw_program_desk.proofs.tiles.TilesBackfill.pen_at.Goals as goal

pub returns-clause-pen : goal.returns-clause-pen
returns-clause-pen c =
    let t = c.args.self.now in
    let left : c.tile_place.result ≡ tile_place c.args.x = c.tile_place.ensures.place ∙ ap tile_place (to_z-of_z w32 c.args.x c.ranges.x) in
    let top : c.tile_place-2.result ≡ tile_place c.args.y = c.tile_place-2.ensures.place ∙ ap tile_place (to_z-of_z w32 c.args.y c.ranges.y) in
    tiles_pen t.pens.items t.place c.index_of.result c.index.result.now c.tile_place.result c.tile_place-2.result c.args.x c.args.y t.within left top
    c.tile_place.ensures.within c.tile_place-2.ensures.within c.index_of.ensures.value c.index.ensures

pub returns-clause-sound : goal.returns-clause-sound
returns-clause-sound c = tiles_are_hook c.args.self.now.pens.items c.args.self.now.place c.args.self.now.bytes c.args.self.now.within
