use Rattle.std.proofs.lemmas.Bool.{and_parts}
use Rattle.lw_kernels.specs.Kernel.{is_between}
use Rattle.lw_layer.specs.View.{draws}
use Rattle.lw_blit.proofs.LoopLaws.{bitmap_gives_bits}
use Rattle.lw_blit.proofs.between_layers.between_piece.Goals as goal

pub invariant_of-blit : goal.invariant_of-blit
invariant_of-blit c = record { near = c.requires.near; block = c.requires.kept }

pub paint_rows-requires-clause-bits : goal.paint_rows-requires-clause-bits
paint_rows-requires-clause-bits c = bitmap_gives_bits c.args.source.now.layer.bits c.args.area

pub paint_rows-requires-clause-reached : goal.paint_rows-requires-clause-reached
paint_rows-requires-clause-reached c i j on =
    let rows = c.args.rows in
    let columns = c.args.columns in
    let down = and_parts (is_between rows.from rows.end j) _ on in
    c.requires.sources i j down.0 (and_parts (is_between columns.from columns.end i) (draws c.args.to.now i j) down.1).0
