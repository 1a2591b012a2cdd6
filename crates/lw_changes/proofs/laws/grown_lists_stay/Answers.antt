use Rattle.lw_changes.proofs.Insides.{with_rect_stays}
use Rattle.lw_changes.proofs.laws.grown_lists_stay.Goals as goal

pub returns : goal.returns
returns c = with_rect_stays
