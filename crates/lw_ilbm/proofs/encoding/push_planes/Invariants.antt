use Rattle.std.proofs.Common.{◌≡◌, ◌++◌}
use Rattle.std.specs.List.{flat_map, range_with_len}
use Rattle.lw_planes.specs.Bitmap.{plane_row}
use Rattle.lw_ilbm.specs.Packing.{packed}
use Rattle.lw_ilbm.proofs.encoding.push_planes.Given as goal

abbrev pub invariant-loop-plane : goal.invariant-loop-plane
invariant-loop-plane l =
    l.out.items ≡ l.initial.out.items ++ flat_map (λ k. packed (plane_row l.planes k l.y)) (range_with_len 0 l.plane)
