use Rattle.lw_c_arrays.proofs.ArrayPixels.{only_rectangle}
use Rattle.lw_c_arrays.proofs.lists.region_of_few.Goals as goal

pub returns-in_ok-or_rect-in-Some : goal.returns-in_ok-or_rect-in-Some
returns-in_ok-or_rect-in-Some c = only_rectangle _ _ _ _ _ _ c.new-made.ensures c.in-Some.ensures.cases.0 c.requires.few c.rect_of.ensures c.in_ok-or_rect-in-Some.ensures.list
