use Rattle.lw_blit.proofs.BitmapLaws.{free_values}
use Rattle.lw_blit.proofs.lacking.without_source.Goals as goal

pub returns : goal.returns
returns c b old one small = free_values c.args.minterm b old one small
