use Rattle.std.proofs.Common.{◌≡◌, ◌&&◌, nat_lt}
use Rattle.lw_draw.specs.Drawn.{drawn}
use Rattle.lw_draw.specs.Blocks.{in_block}
use Rattle.lw_draw.proofs.painting.paint_block.Given as goal

abbrev pub invariant-loop-plane : goal.invariant-loop-plane
invariant-loop-plane g l =
    let painter = g.P.Painter in
    l.layer ≡ drawn (λ p i j. nat_lt p l.plane && (painter.planes l.painter p && in_block l.block i j)) (painter.bit l.painter) l.initial.layer
