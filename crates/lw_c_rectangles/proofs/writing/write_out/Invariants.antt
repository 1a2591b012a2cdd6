use Rattle.std.proofs.Common.{◌≡◌, ◌++◌, map, take, drop}
use Rattle.lw_c_rectangles.specs.Bounds.{bounds_of}
use Rattle.lw_c_rectangles.proofs.writing.write_out.Given as goal

abbrev pub invariant-loop-place : goal.invariant-loop-place
invariant-loop-place l = l.out ≡ map bounds_of (take l.place l.rects) ++ drop l.place l.initial.out
