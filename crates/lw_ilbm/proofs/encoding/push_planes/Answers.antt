use Rattle.std.proofs.Common.{ap}
use Rattle.lw_planes.specs.Bitmap.{plane_row}
use Rattle.lw_text_output.proofs.Padded.{padded_row}
use Rattle.lw_text_output.proofs.Pieces.{piece_written}
use Rattle.lw_ilbm.specs.Packing.{packed}
use Rattle.lw_ilbm.proofs.encoding.push_planes.Goals as goal

pub loop-plane-preserved : goal.loop-plane-preserved
loop-plane-preserved c =
    piece_written (λ k. packed (plane_row c.args.planes.now k c.args.y)) _ _ _ _ c.loop-plane.plane c.loop-plane.invariant
    c.in_ok-push_row.ensures
    (ap packed (padded_row c.args.planes.now c.loop-plane.plane c.args.y _ c.row.result.now c.width-width.ensures.value c.row.ensures.long c.row.ensures.bits))
