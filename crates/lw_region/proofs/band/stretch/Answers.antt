use Rattle.std.proofs.Common.{◌∙◌, ap, set, arith, ◌<◌, get_or, length}
use Rattle.std.proofs.lemmas.List.{get_or_default}
use Rattle.std.proofs.lemmas.List.Edits.{map_over_more}
use Rattle.lw_region.specs.Rows.{down_to}
use Rattle.lw_region.proofs.band.stretch.Goals as goal

pub loop-rect-preserved : goal.loop-rect-preserved
loop-rect-preserved c =
    let ys = c.loop-rect.rects in
    let i = c.loop-rect.rect-index in
    let within : i < length ys = omega arith in
    ap (λ w. set ys i w) c.down_to.ensures
    ∙ map_over_more (λ r. down_to r _) c.args.rects.now ys i (get_or ys i c.rect-item.result)
    (omega arith) c.loop-rect.invariant (get_or_default ys i _ _ within)
