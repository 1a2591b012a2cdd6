use Rattle.std.proofs.Common.{◌≡◌, ℕ, ◌*◌, ◌<◌, length, get_or}
use Rattle.lw_planes.specs.Bitmap.{row_at}
use Rattle.lw_c_desk.proofs.columns.write_row.Given as goal

abbrev pub invariant-loop-column : goal.invariant-loop-column
invariant-loop-column l = record {
  long : length l.row ≡ length l.initial.row;
  written : (x : ℕ) → x < 8 * l.column → x < length l.row → get_or l.row x 0 ≡ get_or (row_at l.planes l.y) x 0;
}
