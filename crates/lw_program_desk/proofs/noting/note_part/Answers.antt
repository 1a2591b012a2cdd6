use Rattle.lw_program_desk.proofs.NotingLaws.{off_noted, part_noted, part_stays}
use Rattle.lw_program_desk.proofs.noting.note_part.Goals as goal

pub returns-in-Some-clause-noted : goal.returns-in-Some-clause-noted
returns-in-Some-clause-noted c =
    part_noted c.args.sizes.now c.args.bounds.now c.in-Some.part c.args.changes.now _ c.in-Some.ensures c.add.ensures

pub returns-in-Some-clause-on_screen : goal.returns-in-Some-clause-on_screen
returns-in-Some-clause-on_screen c =
    part_stays c.args.sizes.now c.args.bounds.now c.in-Some.part c.args.changes.now _ c.min_x.ensures.ordered c.in-Some.ensures
    c.add.ensures

pub returns-in_default-clause-noted : goal.returns-in_default-clause-noted
returns-in_default-clause-noted c = off_noted c.args.sizes.now c.args.bounds.now c.args.changes.now c.in_default.ensures

pub returns-in_default-clause-on_screen : goal.returns-in_default-clause-on_screen
returns-in_default-clause-on_screen c = λ all. all
