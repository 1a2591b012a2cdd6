use Rattle.std.proofs.Common.{◌≡◌, ◌==◌, ◌≤◌, ◌*◌, take}
use Rattle.std.specs.List.{count_by, sum_by}
use Rattle.lw_planes.specs.Sizes.{IsPlanes}
use Rattle.lw_top.proofs.demo.pixels_with.Given as goal

abbrev pub invariant-loop-y : goal.invariant-loop-y
invariant-loop-y l = record {
  counted : l.count ≡ sum_by (λ row. count_by (λ p. p == l.pen) row) (take l.y l.screen.rows);
  few : l.count ≤ l.y * 2048;
  planes : IsPlanes l.screen;
}
