use Rattle.std.proofs.Common.{◌≡◌}
use Rattle.std.specs.List.{flat_map, range_with_len}
use Rattle.lw_planes.specs.Bitmap.{plane_row}
use Rattle.lw_ilbm.specs.Packing.{packed}
use Rattle.lw_ilbm.proofs.encoding.packed_rows.Given as goal

abbrev pub invariant-loop-y : goal.invariant-loop-y
invariant-loop-y l =
    l.body.items ≡ flat_map (λ y. flat_map (λ k. packed (plane_row l.planes k y)) (range_with_len 0 l.planes.depth)) (range_with_len 0 l.y)
