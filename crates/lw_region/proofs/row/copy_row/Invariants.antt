use Rattle.std.proofs.Common.{◌≡◌, ◌+◌, ◌≤◌, ◌++◌, length, take}
use Rattle.std.specs.Prelude.{vec_len, vec_capacity}
use Rattle.lw_region.specs.Columns.{columns, run_rectangles}
use Rattle.lw_region.proofs.row.copy_row.Given as goal

abbrev pub invariant-loop-rect : goal.invariant-loop-rect
invariant-loop-rect l = record {
  items : l.out.items ≡ l.initial.out.items ++ run_rectangles l.top l.bottom (columns (take l.rect-index l.rects));
  room : vec_len l.out + length l.rects ≤ vec_capacity l.out + l.rect-index;
}
