use Rattle.std.proofs.Common.{◌∙◌, w32}
use Rattle.std.proofs.lemmas.Int.{to_z-of_z}
use Rattle.lw_planes.specs.Row.{row_bit}
use Rattle.lw_buffers.proofs.LookupLaws.{copied_bit}
use Rattle.lw_buffers.proofs.copying.copy_from.Goals as goal

pub returns-in-Some-clause-bits : goal.returns-in-Some-clause-bits
returns-in-Some-clause-bits c =
    let x = to_z-of_z w32 c.args.x c.ranges.x in
    let y = to_z-of_z w32 c.args.y c.ranges.y in
    let shared = rw (x, y) at c.in-Some.ensures in
    λ i l. c.combine.ensures.each i
    ∙ copied_bit c.args.rect.now c.args.buffer.now c.row-source.result.now (row_bit c.args.bits.now) c.args.plane i _ c.args.x c.args.y c.in-Some.part
    c.requires.size shared c.row-source.ensures.bits l
