use Rattle.lw_gzz.proofs.InnerRectangle.{frame_leaves}
use Rattle.lw_gzz.proofs.laws.frame_leaves_inner_rectangle.Goals as goal

pub returns : goal.returns
returns c = frame_leaves
