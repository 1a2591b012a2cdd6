use Rattle.std.proofs.Common.{List, ◌∙◌, ap, subst}
use Rattle.lw_region.specs.Rectangle.{Rectangle}
use Rattle.lw_changes.specs.Touched.{touched}
use Rattle.lw_program_desk.specs.Views.{DeskView}
use Rattle.lw_program_desk.specs.Noting.{AreNoted}
use Rattle.lw_program_desk.proofs.StepLaws.{kept_with}
use Rattle.lw_program_desk.proofs.NotingLaws.{copy_stays}
use Rattle.lw_program_desk.proofs.program_desk.ProgramDesk.note.Goals as goal

pub invariant_of-self : goal.invariant_of-self
invariant_of-self c =
    let f = c.self.inside in
    let v : DeskView = record { sizes = f.sizes; assets = f.assets; held = f.held; changes = f.changes } in
    kept_with v c.note_in.new.changes
    (copy_stays v c.args.self.now c.copy-changes.result c.note_in.new.changes c.self.view_is c.copy-changes.ensures
    (record { inside = c.self.invariant.on_screen; ordered = c.self.invariant.ordered }) c.note_in.ensures.on_screen)
    c.self.invariant

pub returns-clause-noted : goal.returns-clause-noted
returns-clause-noted c = λ d e stands was active.
    subst (λ (old : List Rectangle). AreNoted c.args.self.now.sizes (touched d c.args.call.now e) old c.note_in.new.changes)
    (c.copy-changes.ensures ∙ ap (λ (v : DeskView). v.changes) c.self.view_is)
    (c.note_in.ensures.noted d e stands was active)
