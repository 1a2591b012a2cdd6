use Rattle.std.proofs.Common.{refl}
use Rattle.lw_top.specs.Demo.{pen_line}
use Rattle.lw_text_output.proofs.Pieces.{piece_written}
use Rattle.lw_top.proofs.demo.push_pens.Goals as goal

pub loop-pen-preserved : goal.loop-pen-preserved
loop-pen-preserved c =
    piece_written (pen_line c.args.screen.now) _ _ _ _ c.loop-pen.pen
    c.loop-pen.invariant c.in_ok-push_pen.ensures refl
