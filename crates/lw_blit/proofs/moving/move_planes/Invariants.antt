use Rattle.std.proofs.Common.{◌≡◌}
use Rattle.lw_draw.specs.Drawn.{drawn}
use Rattle.lw_blit.specs.Blitting.{from_layer, planes_before}
use Rattle.lw_draw.specs.Blocks.{in_block}
use Rattle.lw_blit.proofs.moving.move_planes.Given as goal

abbrev pub invariant-loop-plane : goal.invariant-loop-plane
invariant-loop-plane l = l.layer ≡ drawn (planes_before l.mask l.plane (in_block l.blocks.to)) (from_layer l.initial.layer l.transfer) l.initial.layer
