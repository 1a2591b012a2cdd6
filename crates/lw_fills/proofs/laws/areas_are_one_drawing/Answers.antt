use Rattle.lw_fills.proofs.OneDrawing.{areas_are}
use Rattle.lw_fills.proofs.laws.areas_are_one_drawing.Goals as goal

pub returns : goal.returns
returns c = areas_are
