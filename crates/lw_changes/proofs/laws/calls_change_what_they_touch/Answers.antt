use Rattle.lw_changes.proofs.Calls.{changes_where_it_lies}
use Rattle.lw_changes.proofs.laws.calls_change_what_they_touch.Goals as goal

pub returns : goal.returns
returns c = changes_where_it_lies
