use Rattle.std.proofs.Common.{take}
use Rattle.lw_layer.specs.New.{AreBlank}
use Rattle.lw_layer.proofs.new.blank_buffers.Given as goal

abbrev pub invariant-loop-rect : goal.invariant-loop-rect
invariant-loop-rect l = AreBlank l.depth (take l.rect-index l.rects) l.buffers.items
