use Rattle.std.proofs.Common.{refl}
use Rattle.lw_grammar.specs.Statements.{LockLine}
use Rattle.lw_line_additions.proofs.Addable.{few_names}
use Rattle.lw_line_additions.proofs.Passing.{with_tasks, on_done}
use Rattle.lw_line_additions.proofs.adding.add_lock.Goals as goal

pub add_lock-requires : goal.add_lock-requires
add_lock-requires c = record { few = few_names c.args.reader.now (LockLine c.args.name.now) c.requires }

pub returns : goal.returns
returns c = λ s above k.
    let f = LockLine c.args.name.now in
    let r = c.args.reader.now in
    on_done c.add_lock.result _ _ (with_tasks s r above f c.add_lock.new.self refl refl k) (c.add_lock.ensures above k.tasks)
