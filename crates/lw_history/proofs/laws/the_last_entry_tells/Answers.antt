use Rattle.lw_history.proofs.HistoryTold.{last_entry_tells}
use Rattle.lw_history.proofs.laws.the_last_entry_tells.Goals as goal

pub returns : goal.returns
returns c = last_entry_tells
