use Rattle.std.proofs.Common.{◌∙◌, sym}
use Rattle.lw_arrange.proofs.FrameLaws.{frame_read}
use Rattle.lw_arrange.proofs.gaining.gains_frame.Goals as goal

pub returns-in-Some : goal.returns-in-Some
returns-in-Some c =
    frame_read c.args.gained.now c.rects.result.now c.args.framed c.args.bounds.now c.in-Some.inner c.leaves.result c.if-not-framed.false
    c.rects.ensures.canonical c.rects.ensures.value (sym c.in-Some.is ∙ c.inner_rectangle.ensures) c.leaves.ensures
