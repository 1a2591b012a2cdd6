use Rattle.std.proofs.Common.{◌≡◌, ◌++◌, take}
use Rattle.std.specs.List.{flat_map}
use Rattle.lw_calls.specs.Written.{spaced_bounds}
use Rattle.lw_report.proofs.rects.push_each_rect.Given as goal

abbrev pub invariant-loop-rect : goal.invariant-loop-rect
invariant-loop-rect l = l.out.items ≡ l.initial.out.items ++ flat_map spaced_bounds (take l.rect-index l.rects)
