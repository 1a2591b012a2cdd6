use Rattle.lw_fills.proofs.LineFills.{area_lines_are}
use Rattle.lw_fills.proofs.laws.area_lines_are_one_drawing.Goals as goal

pub returns : goal.returns
returns c = area_lines_are
