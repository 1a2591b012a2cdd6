use Rattle.std.proofs.Common.{◌∙◌, List, sym, ap, subst}
use Rattle.lw_region.specs.Rectangle.{Rectangle}
use Rattle.lw_machine.specs.Step.{after}
use Rattle.lw_changes.specs.Touched.{bounds_on, touched}
use Rattle.lw_program_desk.specs.Noting.{AreNoted}
use Rattle.lw_program_desk.proofs.StepLaws.{step_with}
use Rattle.lw_program_desk.proofs.NotingLaws.{noted_on, rest_shown, refused_shows, none_of, untouched_shows}
use Rattle.lw_program_desk.proofs.program_desk.ProgramDesk.call.Goals as goal

pub returns-clause-step : goal.returns-clause-step
returns-clause-step c =
    step_with c.args.self.now c.step.new.self c.note.new.self c.args.call.now c.in_ok-reply.reply
    (c.in_ok-reply.ensures {u = tt}).step c.note.ensures.kept

pub returns-clause-noted : goal.returns-clause-noted
returns-clause-noted c = λ d stands.
    let made = c.in_ok-reply.ensures {u = tt} in
    let there = touched d c.args.call.now (after d 0 c.args.call.now) in
    let noted = c.note.ensures.noted d (after d 0 c.args.call.now) (made.step d stands).1
    (c.bounds_of-own.ensures d stands ∙ ap (bounds_on d) c.touched_slot-slot.ensures)
    (c.bounds_of-active.ensures d stands ∙ ap (bounds_on d) (c.active.ensures d stands)) in
    rest_shown c.args.self.now.sizes d c.args.call.now c.args.self.now.changes c.note.new.self.changes stands.stand.layers.desk.sound
    (subst (λ (old : List Rectangle). AreNoted c.args.self.now.sizes there old c.note.new.self.changes) made.changes
    (noted_on c.step.new.self.sizes c.args.self.now.sizes there c.step.new.self.changes c.note.new.self.changes made.sizes noted))

pub returns-then-is_none-clause-noted : goal.returns-then-is_none-clause-noted
returns-then-is_none-clause-noted c = λ d stands.
    let made = c.in_ok-reply.ensures {u = tt} in
    untouched_shows c.args.self.now.sizes d c.args.call.now c.args.self.now.changes c.step.new.self.changes
    (sym c.touched_slot-slot.ensures ∙ none_of c.touched_slot-slot.result c.is_none.result c.is_none.ensures c.if-is_none.true)
    made.changes

pub returns-then-is_refusal-clause-noted : goal.returns-then-is_refusal-clause-noted
returns-then-is_refusal-clause-noted c = λ d stands.
    let made = c.in_ok-reply.ensures {u = tt} in
    refused_shows c.args.self.now.sizes d c.args.call.now c.in_ok-reply.reply c.args.self.now.changes c.step.new.self.changes
    (made.step d stands).0 (sym c.is_refusal.ensures ∙ c.if-is_refusal.true) made.changes
