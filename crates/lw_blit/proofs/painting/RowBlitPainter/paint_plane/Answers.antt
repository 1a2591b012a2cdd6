use Rattle.lw_layer.specs.View.{draws}
use Rattle.lw_blit.proofs.PaintingLaws.{block_in_row}
use Rattle.lw_blit.proofs.painting.RowBlitPainter.paint_plane.Goals as goal

pub blit_row-requires-clause-one : goal.blit_row-requires-clause-one
blit_row-requires-clause-one c =
    (block_in_row c.args.layer.now (λ i j. draws c.args.layer.now i j) c.args.self.now.y c.args.self.now.first c.args.block c.requires.block c.requires.reached).one

pub blit_row-requires-clause-starts : goal.blit_row-requires-clause-starts
blit_row-requires-clause-starts c =
    (block_in_row c.args.layer.now (λ i j. draws c.args.layer.now i j) c.args.self.now.y c.args.self.now.first c.args.block c.requires.block c.requires.reached).starts

pub blit_row-requires-clause-right : goal.blit_row-requires-clause-right
blit_row-requires-clause-right c =
    (block_in_row c.args.layer.now (λ i j. draws c.args.layer.now i j) c.args.self.now.y c.args.self.now.first c.args.block c.requires.block c.requires.reached).right
