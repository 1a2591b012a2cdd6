use Rattle.std.proofs.Common.{◌≡◌, ◌*◌, length}
use Rattle.lw_planes.specs.Bitmap.{row_bytes}
use Rattle.lw_ilbm.specs.Rows.{HaveRows}
use Rattle.lw_ilbm.proofs.body.planes_of.Given as goal

abbrev pub invariant-loop-row : goal.invariant-loop-row
invariant-loop-row l = record {
  long : length l.planes.items ≡ l.row * row_bytes l.header.width;
  rows : HaveRows l.header.height l.header.depth (row_bytes l.header.width) l.row l.bytes l.planes.items;
}
