use Rattle.lw_changes.proofs.Hulls.{with_rect_covers}
use Rattle.lw_changes.proofs.laws.grown_lists_cover.Goals as goal

pub returns : goal.returns
returns c = with_rect_covers
