use Rattle.std.proofs.Common.{◌*◌, ◌<◌, if◌then◌else◌, length, pos, ◌+ℤ◌, ap, ◌∙◌, arith, w32}
use Rattle.std.proofs.lemmas.Int.{to_z-of_z}
use Rattle.lw_region.specs.Bands.{covers}
use Rattle.lw_buffers.proofs.LookupLaws.{cleared_bit, over_zero}
use Rattle.lw_buffers.proofs.copying.copy_row.Goals as goal

pub returns-clause-bits : goal.returns-clause-bits
returns-clause-bits c =
    let x = to_z-of_z w32 c.args.x c.ranges.x in
    let y = to_z-of_z w32 c.args.y c.ranges.y in
    λ i l. let m : i < 8 * length c.fill.new.self = omega arith in
    let over = rw (x, y) at (c.copy_over.ensures.bits i m) in
    over ∙ over_zero c.args.rects.now c.args.buffers.now c.args.plane _ _ _ (cleared_bit c.fill.new.self _ i (c.fill.ensures.after (λ b e. e)))

pub returns-clause-kept : goal.returns-clause-kept
returns-clause-kept c =
    let x = to_z-of_z w32 c.args.x c.ranges.x in
    let y = to_z-of_z w32 c.args.y c.ranges.y in
    λ i l. let m : i < 8 * length c.fill.new.self = omega arith in
    let over = rw (x, y) at (c.copy_over.ensures.kept i m) in
    over ∙ ap (λ w. if covers c.args.rects.now (c.args.x +ℤ pos i) c.args.y then 1 else w) (cleared_bit c.fill-2.new.self _ i (c.fill-2.ensures.after (λ b e. e)))
