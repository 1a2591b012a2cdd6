use Rattle.std.proofs.Common.{List, refl, sym, subst, arith}
use Rattle.lw_region.specs.Rectangle.{Rectangle}
use Rattle.lw_program_desk.specs.Views.{DeskView}
use Rattle.lw_program_desk.specs.Noting.{AreOnScreen}
use Rattle.lw_program_desk.proofs.StepLaws.{kept_with}
use Rattle.lw_program_desk.proofs.program_desk.ProgramDesk.forget_changes.Goals as goal

pub invariant_of-self : goal.invariant_of-self
invariant_of-self c =
    let f = c.self.inside in
    let v : DeskView = record { sizes = f.sizes; assets = f.assets; held = f.held; changes = f.changes } in
    kept_with v c.clear.new.self
    (subst (λ (list : List Rectangle). AreOnScreen f.sizes list) (sym c.clear.ensures)
    (record { inside = refl; ordered = λ i d low. absurd (omega arith) })) c.self.invariant
