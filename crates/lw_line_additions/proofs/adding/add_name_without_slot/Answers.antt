use Rattle.std.proofs.Common.{refl}
use Rattle.lw_grammar.specs.Statements.{NameWithoutSlot}
use Rattle.lw_line_additions.proofs.Passing.{with_tasks, on_done}
use Rattle.lw_line_additions.proofs.adding.add_name_without_slot.Goals as goal

pub returns : goal.returns
returns c = λ s above k.
    let f = NameWithoutSlot c.args.name.now in
    on_done c.add_name_without_slot.result _ _ (with_tasks s c.args.reader.now above f c.add_name_without_slot.new.self refl refl k) (c.add_name_without_slot.ensures above k.tasks)
