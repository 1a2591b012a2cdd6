use Rattle.std.proofs.Common.{◌≡◌, ◌++◌}
use Rattle.std.specs.List.{flat_map, range_with_len}
use Rattle.lw_planes.specs.Bitmap.{plane_row}
use Rattle.lw_calls.specs.Written.{line_of, hex_byte}
use Rattle.lw_text_output.proofs.row.push_rows.Given as goal

abbrev pub invariant-loop-y : goal.invariant-loop-y
invariant-loop-y l =
    l.out.items ≡ l.initial.out.items ++ flat_map (λ y. line_of (flat_map hex_byte (plane_row l.planes l.plane y))) (range_with_len 0 l.y)
