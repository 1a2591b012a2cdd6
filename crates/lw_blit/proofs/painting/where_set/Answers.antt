use Rattle.lw_blit.proofs.PaintingLaws.{cut_values}
use Rattle.lw_blit.proofs.painting.where_set.Goals as goal

pub returns-clause-set : goal.returns-clause-set
returns-clause-set c old small = cut_values c.args.minterm 1 old small

pub returns-clause-clear : goal.returns-clause-clear
returns-clause-clear c old small = cut_values c.args.minterm 0 old small
