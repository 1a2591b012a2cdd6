use Rattle.lw_reveal.proofs.GainedCounts.{counted_pixel}
use Rattle.lw_reveal.proofs.laws.counted_law.Goals as goal

pub returns : goal.returns
returns c = counted_pixel
