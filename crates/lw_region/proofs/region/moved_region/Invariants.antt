use Rattle.std.proofs.Common.{◌≡◌, take}
use Rattle.lw_region.specs.Regions.{moved_list}
use Rattle.lw_region.proofs.region.moved_region.Given as goal

abbrev pub invariant-loop-rect : goal.invariant-loop-rect
invariant-loop-rect l = l.made.items ≡ moved_list (take l.rect-index l.rects) l.dx l.dy
