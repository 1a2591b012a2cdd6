use Rattle.std.proofs.Common.{true, ◌∙◌, refl}
use Rattle.lw_machine.specs.Paint.{candidate_bit}
use Rattle.lw_layer.specs.View.{draws}
use Rattle.lw_layer.specs.Drafts.{raster_of}
use Rattle.lw_draw.specs.Drawn.{painted_bit}
use Rattle.lw_draw.proofs.BlockLaws.{block_lines}
use Rattle.lw_draw.proofs.WrittenLaws.{block_written, own_lines_changed}
use Rattle.lw_draw.proofs.filler.FillerPainter.paint_plane.Goals as goal

pub returns : goal.returns
returns c =
    let v = c.args.layer.now in
    let b = c.args.block in
    let k = c.args.plane in
    let raster = raster_of c.args.self.now.raster in
    block_written v (λ i j. draws v i j) k b.run.line b.rows b c.lines_mut-bytes.result.now c.paint_lines.new.bytes (painted_bit raster) c.lines_mut-bytes.ensures.planes.bitmap (c.paint_lines.auto.bytes ∙ c.lines_mut-bytes.ensures.long) c.requires.block (block_lines v (λ i j. draws v i j) b c.requires.block) c.lines_mut-bytes.ensures.bits
    (own_lines_changed v k c.step-step.result b c.lines_mut-bytes.result.now c.paint_lines.new.bytes (painted_bit raster) (λ _ _ bit. candidate_bit raster true k bit) c.step-step.ensures.value c.paint_lines.ensures (λ _ _ _ _ _. refl))
