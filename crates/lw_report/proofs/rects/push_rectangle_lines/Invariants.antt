use Rattle.std.proofs.Common.{◌≡◌, ◌++◌, take}
use Rattle.std.specs.List.{flat_map}
use Rattle.lw_machine.specs.Report.{rectangle_line}
use Rattle.lw_report.proofs.rects.push_rectangle_lines.Given as goal

abbrev pub invariant-loop-rect : goal.invariant-loop-rect
invariant-loop-rect l = l.out.items ≡ l.initial.out.items ++ flat_map rectangle_line (take l.rect-index l.rects)
