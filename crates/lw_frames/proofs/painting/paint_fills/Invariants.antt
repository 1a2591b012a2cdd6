use Rattle.std.proofs.Common.{◌≡◌, take, pos}
use Rattle.lw_region.specs.Bands.{covers}
use Rattle.lw_frames.specs.Framing.{overlaid}
use Rattle.lw_frames.proofs.painting.paint_fills.Given as goal

abbrev pub invariant-loop-rect : goal.invariant-loop-rect
invariant-loop-rect l = l.layer ≡ overlaid (λ x y. covers (take l.rect-index l.fills) (pos x) (pos y)) l.pen l.fn.layer
