use Rattle.std.proofs.Common.{◌≡◌, take}
use Rattle.lw_draw.specs.Drawn.{drawn}
use Rattle.lw_hook_fill.specs.Filling.{tile_bit, in_rectangles}
use Rattle.lw_hook_fill.proofs.rectangles.paint_rects.Given as goal

abbrev pub invariant-loop-rect : goal.invariant-loop-rect
invariant-loop-rect l = l.layer ≡ drawn (λ p i j. in_rectangles l.initial.layer (take l.rect-index l.rects) i j) (tile_bit l.tile) l.initial.layer
