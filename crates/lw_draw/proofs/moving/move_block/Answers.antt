use Rattle.std.proofs.Common.{◌+◌, ◌-◌, ◌∙◌, ap, arith}
use Rattle.lw_draw.proofs.MoveLaws.{are_moved, block_moved}
use Rattle.lw_draw.proofs.moving.move_block.Goals as goal

pub overflow_add-upto : goal.overflow_add-upto
overflow_add-upto c =
    let moved = are_moved c.args.layer.now c.args.to c.args.source c.min-first.result (c.max.result + c.args.to.rows) c.requires.to c.requires.source c.requires.shape c.min-first.ensures (ap (λ n. n + c.args.to.rows) c.max.ensures) in
    omega (arith, moved.low, c.step-step.ensures.high)

pub lines_mut-bytes-requires-clause-lines : goal.lines_mut-bytes-requires-clause-lines
lines_mut-bytes-requires-clause-lines c = (are_moved c.args.layer.now c.args.to c.args.source c.min-first.result (c.max.result + c.args.to.rows) c.requires.to c.requires.source c.requires.shape c.min-first.ensures (ap (λ n. n + c.args.to.rows) c.max.ensures)).there

pub combine_rows_within-requires-clause-to_inside : goal.combine_rows_within-requires-clause-to_inside
combine_rows_within-requires-clause-to_inside c =
    let moved = are_moved c.args.layer.now c.args.to c.args.source c.min-first.result (c.max.result + c.args.to.rows) c.requires.to c.requires.source c.requires.shape c.min-first.ensures (ap (λ n. n + c.args.to.rows) c.max.ensures) in
    omega (arith, moved.fits, c.step-step.ensures.value)

pub combine_rows_within-requires-clause-source_inside : goal.combine_rows_within-requires-clause-source_inside
combine_rows_within-requires-clause-source_inside c =
    let moved = are_moved c.args.layer.now c.args.to c.args.source c.min-first.result (c.max.result + c.args.to.rows) c.requires.to c.requires.source c.requires.shape c.min-first.ensures (ap (λ n. n + c.args.to.rows) c.max.ensures) in
    omega (arith, moved.source_fits, c.step-step.ensures.value)

pub returns : goal.returns
returns c =
    let v = c.args.layer.now in
    let to = c.args.to in
    let from = c.args.source in
    let top = c.min-first.result in
    let upto = c.max.result + to.rows in
    let moved = are_moved v to from top upto c.requires.to c.requires.source c.requires.shape c.min-first.ensures (ap (λ n. n + to.rows) c.max.ensures) in
    block_moved v c.args.plane c.args.minterm top (upto - top) c.step-step.result (to.run.line - top) (from.run.line - top) to from c.lines_mut-bytes.result.now c.combine_rows_within.new.bytes c.lines_mut-bytes.ensures.planes.bitmap c.step-step.ensures.value (c.combine_rows_within.auto.bytes ∙ c.lines_mut-bytes.ensures.long) moved.there c.lines_mut-bytes.ensures.bits c.requires.to c.requires.source c.requires.shape
    (omega (arith, c.min-first.ensures)) (omega (arith, c.min-first.ensures, c.max.ensures)) (omega (arith, c.min-first.ensures)) (omega (arith, c.min-first.ensures, c.max.ensures)) c.combine_rows_within.ensures
