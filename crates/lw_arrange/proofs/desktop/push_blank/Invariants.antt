use Rattle.std.proofs.Common.{◌≡◌, ◌++◌, None, map, take}
use Rattle.lw_strips.specs.Strips.{strip_of}
use Rattle.lw_arrange.proofs.desktop.push_blank.Given as goal

abbrev pub invariant-loop-rect : goal.invariant-loop-rect
invariant-loop-rect l = l.strips.items ≡ l.initial.strips.items ++ map (λ r. strip_of r l.sizes.depth None) (take l.rect-index l.rects)
