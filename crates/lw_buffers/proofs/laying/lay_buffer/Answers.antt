use Rattle.std.proofs.Common.{◌∙◌, w64, arith}
use Rattle.std.proofs.lemmas.Int.{ints, to_z-of_z}
use Rattle.lw_buffers.proofs.LaidLaws.{buffer_laid}
use Rattle.lw_buffers.proofs.laying.lay_buffer.Goals as goal

pub returns : goal.returns
returns c =
    let r = c.args.rect.now in
    let left = to_z-of_z w64 c.args.left c.ranges.left in
    let top = to_z-of_z w64 c.args.top c.ranges.top in
    let near = c.requires.left in
    let near_top = c.requires.top in
    c.lay_bitmap.ensures ∙ buffer_laid r c.args.left c.args.top _ _ c.args.to.now c.args.buffer.now
    (omega (arith, ints, left, near.0, near.1, c.from.ensures, c.min_x.ensures.value))
    (omega (arith, ints, top, near_top.0, near_top.1, c.from-2.ensures, c.min_y.ensures.value))
    c.min_x.ensures.ordered c.requires.size
