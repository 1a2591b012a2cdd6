use Rattle.std.proofs.Common.{take}
use Rattle.lw_layer.specs.New.{AreBlankStrips}
use Rattle.lw_layer.proofs.new.blank_strips.Given as goal

abbrev pub invariant-loop-rect : goal.invariant-loop-rect
invariant-loop-rect l = AreBlankStrips l.depth (take l.rect-index l.rects) l.strips.items
