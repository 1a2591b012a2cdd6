use Rattle.std.proofs.Common.{◌≡◌, ◌++◌}
use Rattle.std.specs.List.{flat_map, range_with_len}
use Rattle.lw_top.specs.Demo.{pen_line}
use Rattle.lw_top.proofs.demo.push_pens.Given as goal

abbrev pub invariant-loop-pen : goal.invariant-loop-pen
invariant-loop-pen l = l.out.items ≡ l.initial.out.items ++ flat_map (pen_line l.screen) (range_with_len 0 l.pen)
