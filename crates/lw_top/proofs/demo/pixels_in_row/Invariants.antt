use Rattle.std.proofs.Common.{◌≡◌, ◌==◌, ◌≤◌, take}
use Rattle.std.specs.List.{count_by}
use Rattle.lw_planes.specs.Bitmap.{row_at}
use Rattle.lw_planes.specs.Sizes.{IsPlanes}
use Rattle.lw_top.proofs.demo.pixels_in_row.Given as goal

abbrev pub invariant-loop-x : goal.invariant-loop-x
invariant-loop-x l = record {
  counted : l.count ≡ count_by (λ p. p == l.pen) (take l.x (row_at l.screen l.y));
  few : l.count ≤ l.x;
  planes : IsPlanes l.screen;
}
