use Rattle.lw_bench_c.proofs.JoinedBoxes.{halves_joined}
use Rattle.lw_bench_c.proofs.regions.+region_of.Goals as goal

pub returns : goal.returns
returns t c = halves_joined _ _ _ _ _ _ c.split_at.ensures.by_index.0 c.in_ok-made.ensures c.in_ok-other.ensures c.in_ok-or_region.ensures.list
