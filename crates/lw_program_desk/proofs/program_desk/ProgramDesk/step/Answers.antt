use Rattle.std.proofs.Common.{◌≡◌, ◌∙◌, Some, sym, subst, OnErr}
use Rattle.lw_program_desk.specs.Views.{DeskView}
use Rattle.lw_program_desk.specs.Standing.{StandsStill}
use Rattle.lw_program_desk.proofs.StepLaws.{with_parts, kept_after, still_after}
use Rattle.lw_program_desk.proofs.program_desk.ProgramDesk.step.Goals as goal

pub invariant_of-self : goal.invariant_of-self
invariant_of-self c =
    let f = c.self.inside in
    let v : DeskView = record { sizes = f.sizes; assets = f.assets; held = f.held; changes = f.changes } in
    let held : f.held ≡ Some c.in-Some.held = sym c.take.ensures.value ∙ c.in-Some.is in
    kept_after v c.args.call.now c.in-Some.held c.make_call-held.result.held c.make_call-held.result.told held c.self.invariant
    c.make_call-held.ensures.step c.make_call-held.ensures.unchanged

pub returns-clause-unchanged : goal.returns-clause-unchanged
returns-clause-unchanged c =
    let f = c.self.inside in
    let v : DeskView = record { sizes = f.sizes; assets = f.assets; held = f.held; changes = f.changes } in
    let held : f.held ≡ Some c.in-Some.held = sym c.take.ensures.value ∙ c.in-Some.is in
    subst (λ (w : DeskView). OnErr c.make_call-held.result.told (StandsStill w (with_parts v c.make_call-held.result.held))) c.self.view_is
    (still_after v c.in-Some.held c.make_call-held.result.held c.make_call-held.result.told held c.make_call-held.ensures.unchanged)
