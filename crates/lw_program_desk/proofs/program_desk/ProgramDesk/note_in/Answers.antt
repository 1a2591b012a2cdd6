use Rattle.std.proofs.Common.{◌∙◌, ap, subst, List}
use Rattle.lw_region.specs.Rectangle.{Rectangle}
use Rattle.lw_changes.specs.Touched.{bounds_on}
use Rattle.lw_program_desk.specs.Noting.{AreNoted}
use Rattle.lw_program_desk.proofs.NotingLaws.{none_noted, noted_on, touched_noted, stays_on}
use Rattle.lw_program_desk.proofs.program_desk.ProgramDesk.note_in.Goals as goal

pub returns-in-Unpainted-clause-noted : goal.returns-in-Unpainted-clause-noted
returns-in-Unpainted-clause-noted c = λ d e stands was active.
    let z = c.args.self.now.sizes in
    touched_noted z d e c.args.call.now c.args.own.now c.bounds_of-is.result _ _ _ _ _ was
    (c.bounds_of-is.ensures e stands ∙ ap (bounds_on e) c.touched_slot.ensures) (c.in-Unpainted.ensures {u = tt})
    (noted_on _ z _ _ _ c.limited_sizes.ensures.value c.note_part.ensures.noted)
    (noted_on _ z _ _ _ c.limited_sizes-2.ensures.value c.note_part-2.ensures.noted)
    (none_noted z _)

pub returns-in-OfTheActive-clause-noted : goal.returns-in-OfTheActive-clause-noted
returns-in-OfTheActive-clause-noted c = λ d e stands was active.
    let z = c.args.self.now.sizes in
    touched_noted z d e c.args.call.now c.args.own.now c.bounds_of-is.result _ _ _ _ _ was
    (c.bounds_of-is.ensures e stands ∙ ap (bounds_on e) c.touched_slot.ensures) (c.in-OfTheActive.ensures {u = tt})
    (noted_on _ z _ _ _ c.limited_sizes.ensures.value c.note_part.ensures.noted)
    (noted_on _ z _ _ _ c.limited_sizes-2.ensures.value c.note_part-2.ensures.noted)
    (subst (λ (rects : List Rectangle). AreNoted z rects c.note_part-2.new.changes c.note_part-in-OfTheActive.new.changes) active
    (noted_on _ z _ _ _ c.limited_sizes-in-OfTheActive.ensures.value c.note_part-in-OfTheActive.ensures.noted))

pub returns-in-OfThoseMet-clause-noted : goal.returns-in-OfThoseMet-clause-noted
returns-in-OfThoseMet-clause-noted c = λ d e stands was active.
    let z = c.args.self.now.sizes in
    touched_noted z d e c.args.call.now c.args.own.now c.bounds_of-is.result _ _ _ _ _ was
    (c.bounds_of-is.ensures e stands ∙ ap (bounds_on e) c.touched_slot.ensures) (c.in-OfThoseMet.ensures {u = tt})
    (noted_on _ z _ _ _ c.limited_sizes.ensures.value c.note_part.ensures.noted)
    (noted_on _ z _ _ _ c.limited_sizes-2.ensures.value c.note_part-2.ensures.noted)
    (c.note_met.ensures.noted e stands)

pub returns-in-Unpainted-clause-on_screen : goal.returns-in-Unpainted-clause-on_screen
returns-in-Unpainted-clause-on_screen c =
    let z = c.args.self.now.sizes in
    let first = stays_on _ z _ _ c.limited_sizes.ensures.value c.note_part.ensures.on_screen in
    let second = stays_on _ z _ _ c.limited_sizes-2.ensures.value c.note_part-2.ensures.on_screen in
    λ all. second (first all)

pub returns-in-OfTheActive-clause-on_screen : goal.returns-in-OfTheActive-clause-on_screen
returns-in-OfTheActive-clause-on_screen c =
    let z = c.args.self.now.sizes in
    let first = stays_on _ z _ _ c.limited_sizes.ensures.value c.note_part.ensures.on_screen in
    let second = stays_on _ z _ _ c.limited_sizes-2.ensures.value c.note_part-2.ensures.on_screen in
    let third = stays_on _ z _ _ c.limited_sizes-in-OfTheActive.ensures.value c.note_part-in-OfTheActive.ensures.on_screen in
    λ all. third (second (first all))

pub returns-in-OfThoseMet-clause-on_screen : goal.returns-in-OfThoseMet-clause-on_screen
returns-in-OfThoseMet-clause-on_screen c =
    let z = c.args.self.now.sizes in
    let first = stays_on _ z _ _ c.limited_sizes.ensures.value c.note_part.ensures.on_screen in
    let second = stays_on _ z _ _ c.limited_sizes-2.ensures.value c.note_part-2.ensures.on_screen in
    λ all. c.note_met.ensures.on_screen (second (first all))
