use Rattle.std.proofs.Common.{◌∙◌, ap, sym, subst}
use Rattle.lw_region.specs.Rectangle.{Rectangle}
use Rattle.lw_planes.specs.Bitmap.{Bitmap}
use Rattle.lw_strips.specs.Strips.{IsSizeOf}
use Rattle.lw_strips.specs.Laying.{with_planes}
use Rattle.lw_strips.proofs.OverlapLaws.{solid_laid}
use Rattle.lw_strips.proofs.laying.lay_on.Goals as goal

pub lay_planes-requires-clause-source_size : goal.lay_planes-requires-clause-source_size
lay_planes-requires-clause-source_size c =
    let P : Rectangle → Type 0 = λ r. IsSizeOf r c.in-Some.source.now in
    let Q : Bitmap → Type 0 = λ b. IsSizeOf c.args.strip.now.rect b in
    subst P (sym c.rect.ensures.value) (subst Q (sym c.in-Some.ensures.value.1) c.rect.ensures.strip.size)

pub returns-in-Some : goal.returns-in-Some
returns-in-Some c =
    c.lay_planes.ensures
    ∙ (ap (λ (r : Rectangle). with_planes c.args.window.now r c.in-Some.source.now c.args.planes.now) c.rect.ensures.value
    ∙ solid_laid c.args.window.now c.args.strip.now c.args.planes.now c.in-Some.source.now c.in-Some.ensures.value.1)
