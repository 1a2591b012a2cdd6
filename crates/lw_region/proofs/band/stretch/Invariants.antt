use Rattle.std.proofs.Common.{◌≡◌, ◌++◌, map, take, drop}
use Rattle.lw_region.specs.Rows.{down_to}
use Rattle.lw_region.proofs.band.stretch.Given as goal

abbrev pub invariant-loop-rect : goal.invariant-loop-rect
invariant-loop-rect l = l.rects ≡ map (λ r. down_to r l.bottom) (take l.rect-index l.initial.rects) ++ drop l.rect-index l.initial.rects
