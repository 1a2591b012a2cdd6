use Rattle.std.proofs.Common.{refl}
use Rattle.lw_grammar.specs.Statements.{ReleaseLine}
use Rattle.lw_line_additions.proofs.Addable.{some_released}
use Rattle.lw_line_additions.proofs.Passing.{with_tasks, on_done}
use Rattle.lw_line_additions.proofs.adding.add_release.Goals as goal

pub add_release-requires : goal.add_release-requires
add_release-requires c = record { some = some_released c.args.reader.now c.requires }

pub returns : goal.returns
returns c = λ s above k.
    let f = ReleaseLine in
    let r = c.args.reader.now in
    on_done c.add_release.result _ _ (with_tasks s r above f c.add_release.new.self refl refl k) (c.add_release.ensures above k.tasks)
