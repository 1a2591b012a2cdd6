use Rattle.std.proofs.Common.{refl}
use Rattle.lw_grammar.specs.Statements.{UnlockLine}
use Rattle.lw_line_additions.proofs.Addable.{few_names, some_unlocked}
use Rattle.lw_line_additions.proofs.Passing.{with_tasks, on_done}
use Rattle.lw_line_additions.proofs.adding.add_unlock.Goals as goal

pub add_unlock-requires-clause-few : goal.add_unlock-requires-clause-few
add_unlock-requires-clause-few c = few_names c.args.reader.now (UnlockLine c.args.name.now) c.requires

pub add_unlock-requires-clause-some : goal.add_unlock-requires-clause-some
add_unlock-requires-clause-some c = some_unlocked c.args.reader.now c.args.name.now c.requires

pub returns : goal.returns
returns c = λ s above k.
    let f = UnlockLine c.args.name.now in
    let r = c.args.reader.now in
    on_done c.add_unlock.result _ _ (with_tasks s r above f c.add_unlock.new.self refl refl k) (c.add_unlock.ensures above k.tasks)
