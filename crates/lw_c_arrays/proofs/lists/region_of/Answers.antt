use Rattle.lw_c_arrays.specs.Lists.{rectangles_of}
use Rattle.lw_c_arrays.proofs.ArrayPixels.{told_by_pixels}
use Rattle.lw_c_arrays.proofs.lists.region_of.Goals as goal

pub returns : goal.returns
returns c = told_by_pixels c.in_ok-made.made (rectangles_of c.args.list.now) c.rects.ensures.canonical c.in_ok-made.ensures
