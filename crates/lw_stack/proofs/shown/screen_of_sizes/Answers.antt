use Rattle.lw_stack.proofs.DesktopLaws.{columns_most, rows_most}
use Rattle.lw_stack.proofs.shown.screen_of_sizes.Goals as goal

pub screen_of-requires-clause-right : goal.screen_of-requires-clause-right
screen_of-requires-clause-right c = columns_most c.args.sizes.now c.requires

pub screen_of-requires-clause-lower : goal.screen_of-requires-clause-lower
screen_of-requires-clause-lower c = rows_most c.args.sizes.now c.requires
