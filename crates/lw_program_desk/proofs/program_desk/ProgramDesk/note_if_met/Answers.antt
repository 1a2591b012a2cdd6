use Rattle.std.proofs.Common.{◌∙◌, ◌++◌, ◌&&◌, sym, ap}
use Rattle.std.proofs.lemmas.Bool.{and_right}
use Rattle.lw_machine.specs.Layer.{layer_is}
use Rattle.lw_changes.specs.Touched.{bounds_list, bounds_meet, may_repaint_frame}
use Rattle.lw_program_desk.proofs.NotingLaws.{left_noted}
use Rattle.lw_program_desk.proofs.program_desk.ProgramDesk.note_if_met.Goals as goal
use Rattle.lw_program_desk.proofs.program_desk.ProgramDesk.note_if_met.Goals.{else-may_repaint_frame-via-then-may_repaint_frame+else-either_meets}
use Rattle.lw_program_desk.proofs.program_desk.ProgramDesk.note_if_met.Goals.{else-may_repaint_frame-via-else-may_repaint_frame}

pub returns-else-may_repaint_frame-clause-noted : goal.returns-else-may_repaint_frame-clause-noted
returns-else-may_repaint_frame-clause-noted c = λ e stands.
    let places = bounds_list c.args.own.now ++ bounds_list c.args.is.now in
    left_noted c.args.self.now.sizes places e c.args.slot c.args.changes.now
    (elim c.else-may_repaint_frame.branch [
      | else-may_repaint_frame-via-then-may_repaint_frame+else-either_meets w ↦
          and_right (layer_is may_repaint_frame (e.slot c.args.slot)) _
          (ap (bounds_meet places) (sym (c.bounds-bounds.ensures e stands)) ∙ (sym w.either_meets.ensures ∙ w.if-either_meets.false))
      | else-may_repaint_frame-via-else-may_repaint_frame w ↦
          ap (λ b. b && bounds_meet places (e.bounds c.args.slot)) (sym (c.may_repaint_frame.ensures e stands) ∙ w.if-may_repaint_frame.false)
    ])
