use Rattle.lw_fills.proofs.OneDrawing.{fills_are}
use Rattle.lw_fills.proofs.laws.fills_are_one_drawing.Goals as goal

pub returns : goal.returns
returns c = fills_are
