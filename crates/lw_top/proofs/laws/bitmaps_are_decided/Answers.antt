use Rattle.lw_top.proofs.BitmapOutcomes.{bitmaps_decided}
use Rattle.lw_top.proofs.laws.bitmaps_are_decided.Goals as goal

pub returns : goal.returns
returns c = bitmaps_decided
