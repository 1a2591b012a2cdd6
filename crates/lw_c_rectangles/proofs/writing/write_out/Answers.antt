use Rattle.std.proofs.Common.{ap, ◌∙◌}
use Rattle.lw_c_rectangles.specs.Bounds.{bounds_of}
use Rattle.lw_c_rectangles.proofs.Written.{one_more_written}
use Rattle.lw_c_rectangles.proofs.writing.write_out.Goals as goal

pub loop-place-preserved : goal.loop-place-preserved
loop-place-preserved c =
    one_more_written bounds_of c.args.rects.now c.args.out.now c.loop-place.out c.loop-place.place c.index-rects-place.result
    c.bounds_of.result c.bounds_of.result c.loop-place-test.true c.requires c.loop-place.invariant
    (c.bounds_of.ensures ∙ ap bounds_of c.index-rects-place.is)
