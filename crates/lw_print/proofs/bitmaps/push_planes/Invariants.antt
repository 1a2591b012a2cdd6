use Rattle.std.proofs.Common.{◌≡◌, ◌++◌}
use Rattle.std.specs.List.{flat_map, range_with_len}
use Rattle.lw_planes.specs.Bitmap.{plane_row}
use Rattle.lw_calls.specs.Written.{line_of, hex_byte}
use Rattle.lw_print.proofs.bitmaps.push_planes.Given as goal

abbrev pub invariant-loop-plane : goal.invariant-loop-plane
invariant-loop-plane l =
    l.out.items ≡ l.initial.out.items ++ flat_map (λ k. flat_map (λ y. line_of (flat_map hex_byte (plane_row l.bitmap k y))) (range_with_len 0 l.bitmap.height)) (range_with_len 0 l.plane)
