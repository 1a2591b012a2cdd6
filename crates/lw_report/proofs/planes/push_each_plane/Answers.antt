use Rattle.std.proofs.Common.{refl}
use Rattle.lw_machine.specs.Report.{plane_lines}
use Rattle.lw_text_output.proofs.Pieces.{piece_written}
use Rattle.lw_report.proofs.planes.push_each_plane.Goals as goal

pub loop-plane-preserved : goal.loop-plane-preserved
loop-plane-preserved c =
    piece_written (plane_lines c.args.planes.now) _ _ _ _ c.loop-plane.plane
    c.loop-plane.invariant c.in_ok-push_plane.ensures refl
