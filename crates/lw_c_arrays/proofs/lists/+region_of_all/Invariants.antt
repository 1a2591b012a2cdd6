use Rattle.std.proofs.Common.{length}
use Rattle.lw_c_arrays.proofs.lists.+region_of_all.Given as goal

abbrev pub decreases-region_of_all : goal.decreases-region_of_all
decreases-region_of_all l = length l.list.now
