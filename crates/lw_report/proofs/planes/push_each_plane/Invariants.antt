use Rattle.std.proofs.Common.{◌≡◌, ◌++◌}
use Rattle.std.specs.List.{flat_map, range_with_len}
use Rattle.lw_machine.specs.Report.{plane_lines}
use Rattle.lw_report.proofs.planes.push_each_plane.Given as goal

abbrev pub invariant-loop-plane : goal.invariant-loop-plane
invariant-loop-plane l = l.out.items ≡ l.initial.out.items ++ flat_map (plane_lines l.planes) (range_with_len 0 l.plane)
