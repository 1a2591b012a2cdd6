use Rattle.std.proofs.Common.{ap, ◌∙◌}
use Rattle.lw_region.specs.Bands.{bands}
use Rattle.lw_region.specs.Pixels.{pixels_of}
use Rattle.lw_c_arrays.specs.Lists.{rectangles_of, set_of}
use Rattle.lw_c_arrays.specs.Combined.{combined}
use Rattle.lw_c_arrays.proofs.ArrayPixels.{same_set}
use Rattle.lw_c_arrays.proofs.lists.combined.Goals as goal

pub returns : goal.returns
returns c =
    let a = c.args.a.now in
    let b = c.args.b.now in
    let op = c.args.operation in
    c.in_ok-combine.ensures
    ∙ (ap (λ s. bands (combined op s (pixels_of c.in_ok-other.other))) (same_set c.in_ok-made.made (rectangles_of a) c.in_ok-made.ensures)
    ∙ ap (λ s. bands (combined op (set_of a) s)) (same_set c.in_ok-other.other (rectangles_of b) c.in_ok-other.ensures))
