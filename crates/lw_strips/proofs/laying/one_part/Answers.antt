use Rattle.std.proofs.Common.{◌∙◌, ap, true}
use Rattle.lw_planes.specs.Bitmap.{Bitmap}
use Rattle.lw_strips.specs.Strips.{StripView}
use Rattle.lw_strips.specs.Laying.{composed}
use Rattle.lw_strips.proofs.LayingLaws.{part_sizes, composed_part}
use Rattle.lw_strips.proofs.laying.one_part.Goals as goal

pub compose-requires-clause-sizes : goal.compose-requires-clause-sizes
compose-requires-clause-sizes c =
    part_sizes c.args.strip.now c.args.rect.now c.depth-depth.result c.depth-depth.ensures.strip c.min_x.ensures.ordered c.requires c.depth-depth.ensures.value

pub returns : goal.returns
returns c =
    let made = c.in_ok-planes.ensures ∙ (ap (λ ss. composed c.args.rect.now c.depth-depth.result ss) c.from_ref.ensures.value
    ∙ composed_part c.args.strip.now c.args.rect.now c.depth-depth.result c.min_x.ensures.ordered c.requires c.depth-depth.ensures.value) in
    let as_part : Bitmap → StripView = λ b. record { rect = c.args.rect.now; planes = b; solid = true } in
    c.new.ensures ∙ ap as_part made
