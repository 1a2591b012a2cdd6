use Rattle.lw_display.proofs.Showable.{showable}
use Rattle.lw_display.proofs.laws.shows_are_showable.Goals as goal

pub returns : goal.returns
returns c = showable
