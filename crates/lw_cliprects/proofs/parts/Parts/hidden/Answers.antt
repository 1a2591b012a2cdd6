use Rattle.std.proofs.Common.{◌∙◌, subst}
use Rattle.lw_region.specs.Banded.{IsCanonical}
use Rattle.lw_cliprects.specs.Parts.{Division, AreDivided}
use Rattle.lw_cliprects.proofs.HiddenLaws.{divided}
use Rattle.lw_cliprects.proofs.parts.Parts.hidden.Goals as goal

pub returns-clause-divided : goal.returns-clause-divided
returns-clause-divided c =
    let P : Division → Type 0 = λ d. IsCanonical d.visible → AreDivided d.bounds d.visible c.rects.result.now in
    subst P c.self.view_is
    (divided c.self.inside.bounds c.self.inside.visible c.rects.result.now (c.rects.ensures.value ∙ c.self.invariant.0) c.self.invariant.1) c.visible.ensures.canonical
