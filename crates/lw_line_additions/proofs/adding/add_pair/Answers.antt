use Rattle.std.proofs.Common.{refl}
use Rattle.lw_grammar.specs.Statements.{PairMade}
use Rattle.lw_line_additions.proofs.Passing.{with_tasks, on_done}
use Rattle.lw_line_additions.proofs.adding.add_pair.Goals as goal

pub returns : goal.returns
returns c = λ s above k.
    let f = PairMade c.args.pair.now.outer.now c.args.pair.now.inner.now in
    on_done c.add_pair.result _ _ (with_tasks s c.args.reader.now above f c.add_pair.new.self refl refl k) (c.add_pair.ensures above k.tasks)
