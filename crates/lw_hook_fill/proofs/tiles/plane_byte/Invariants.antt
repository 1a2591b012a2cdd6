use Rattle.std.proofs.Common.{◌≡◌, ◌-◌}
use Rattle.std.specs.Int.{bit_at}
use Rattle.std.specs.List.{slice_index_or}
use Rattle.lw_planes.specs.Pen.{pen_of}
use Rattle.lw_hook_fill.proofs.tiles.plane_byte.Given as goal

abbrev pub invariant-loop-place : goal.invariant-loop-place
invariant-loop-place l = l.byte ≡ pen_of l.place (λ k. bit_at (slice_index_or l.pens (7 - k) 0) l.plane)
