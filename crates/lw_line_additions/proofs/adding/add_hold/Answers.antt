use Rattle.std.proofs.Common.{refl}
use Rattle.lw_grammar.specs.Statements.{HoldLine}
use Rattle.lw_line_additions.proofs.Passing.{with_tasks}
use Rattle.lw_line_additions.proofs.adding.add_hold.Goals as goal

pub returns : goal.returns
returns c = λ s above k.
    let r = c.args.reader.now in
    with_tasks s r above HoldLine c.add_hold.new.self refl refl k (c.add_hold.ensures above k.tasks)
