use Rattle.std.proofs.Common.{◌≡◌}
use Rattle.lw_draw.specs.Drawn.{drawn}
use Rattle.lw_hook_fill.specs.Filling.{tile_bit}
use Rattle.lw_hook_fill.proofs.PaintingLaws.{rows_before}
use Rattle.lw_hook_fill.proofs.painting.tile_block.Given as goal

abbrev pub invariant-loop-row : goal.invariant-loop-row
invariant-loop-row l = l.layer ≡ drawn (rows_before l.plane l.block l.row) (tile_bit l.tile) l.initial.layer
