use Rattle.lw_c_arrays.proofs.ArrayPixels.{halves_joined}
use Rattle.lw_c_arrays.proofs.lists.+region_of_all.Goals as goal

pub returns : goal.returns
returns t c = halves_joined _ _ _ _ _ _ c.split_at.ensures.by_index.0 c.in_ok-made.ensures c.in_ok-other.ensures c.in_ok-or_region.ensures.list
