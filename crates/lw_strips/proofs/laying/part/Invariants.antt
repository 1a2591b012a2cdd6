use Rattle.std.proofs.Common.{◌≡◌, map, take}
use Rattle.lw_strips.specs.Laying.{part_of}
use Rattle.lw_strips.proofs.laying.part.Given as goal

abbrev pub invariant-loop-rect : goal.invariant-loop-rect
invariant-loop-rect l = l.parts.items ≡ map (part_of l.strip) (take l.rect-index l.rects)
