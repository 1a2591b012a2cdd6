use Rattle.std.proofs.Common.{◌+◌, arith}
use Rattle.std.proofs.lemmas.Bool.{and_left}
use Rattle.lw_kernels.specs.Kernel.{is_between}
use Rattle.lw_blit.specs.Blitting.{from_layer}
use Rattle.lw_blit.proofs.LoopLaws.{layer_gives_bits, no_rows, rows_below, part_as_before, not_before}
use Rattle.lw_blit.proofs.single_rows.rows_down.Goals as goal

pub loop-y-init : goal.loop-y-init
loop-y-init c = no_rows c.args.layer.now c.args.mask c.args.rows.from c.args.columns.from c.args.columns.end (from_layer c.args.layer.now c.args.transfer) c.depth.ensures.bits.bitmap

pub loop-y-preserved : goal.loop-y-preserved
loop-y-preserved c =
    let v = c.args.layer.now in
    let top = c.args.rows.from in
    let y = c.loop-y.y in
    let from = c.args.columns.from in
    let end = c.args.columns.end in
    let t = c.args.transfer in
    rows_below v c.loop-y.layer c.transfer_row.new.layer c.args.mask top y 1 from end (from_layer v t) (layer_gives_bits v t) (omega arith) c.loop-y.invariant
    (part_as_before v c.loop-y.layer c.transfer_row.new.layer c.args.mask top y from end y (y + 1) from end t
    (λ i j z k at column row. and_left (is_between top y k) (is_between from end z) (not_before t.dy top y j k c.requires.order at.upper row)) c.loop-y.invariant c.transfer_row.ensures)
