use Rattle.lw_bench_c.proofs.JoinedBoxes.{only_box}
use Rattle.lw_bench_c.proofs.regions.region_of_few.Goals as goal

pub returns-in_ok-or_rect-in-Some : goal.returns-in_ok-or_rect-in-Some
returns-in_ok-or_rect-in-Some c = only_box _ _ _ _ _ c.new-made.ensures c.in-Some.ensures.cases.0 c.requires c.in_ok-or_rect-in-Some.ensures.list
