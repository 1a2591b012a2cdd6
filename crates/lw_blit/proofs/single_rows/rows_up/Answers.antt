use Rattle.std.proofs.Common.{◌≡◌, ℕ, ◌+◌, ◌-◌, ◌∙◌, ap, arith}
use Rattle.std.proofs.lemmas.Bool.{and_left}
use Rattle.lw_kernels.specs.Kernel.{is_between}
use Rattle.lw_draw.specs.Drawn.{drawn}
use Rattle.lw_blit.specs.Blitting.{from_layer, masked}
use Rattle.lw_blit.proofs.LoopLaws.{layer_gives_bits, no_rows, rows_above, part_as_before, not_behind}
use Rattle.lw_blit.proofs.single_rows.rows_up.Goals as goal

pub loop-y-init : goal.loop-y-init
loop-y-init c = record {
  low = c.args.rows.ordered;
  painted = no_rows c.args.layer.now c.args.mask c.args.rows.end c.args.columns.from c.args.columns.end (from_layer c.args.layer.now c.args.transfer) c.depth.ensures.bits.bitmap;
}

pub loop-y-preserved : goal.loop-y-preserved
loop-y-preserved c =
    let v = c.args.layer.now in
    let bottom = c.args.rows.end in
    let next = c.loop-y.y in
    let y : ℕ = c.loop-y.y - 1 in
    let after : next ≡ y + 1 = omega arith in
    let from = c.args.columns.from in
    let end = c.args.columns.end in
    let t = c.args.transfer in
    record {
      low = omega arith;
      painted =
          rows_above v c.loop-y.layer c.transfer_row.new.layer c.args.mask y (y + 1) next bottom from end (from_layer v t) (layer_gives_bits v t) after (omega arith) (omega arith) c.loop-y.invariant.painted
          (part_as_before v c.loop-y.layer c.transfer_row.new.layer c.args.mask next bottom from end y (y + 1) from end t
          (λ i j z k at column row. and_left (is_between next bottom k) (is_between from end z) (not_behind t.dy next bottom j k c.requires.order (omega (arith, at.lower)) row)) c.loop-y.invariant.painted c.transfer_row.ensures);
    }

pub returns : goal.returns
returns c =
    let top : c.loop-y.y ≡ c.args.rows.from = omega arith in
    c.loop-y.invariant.painted ∙
    ap (λ k. drawn (masked c.args.mask c.args.layer.now k c.args.rows.end c.args.columns.from c.args.columns.end) (from_layer c.args.layer.now c.args.transfer) c.args.layer.now) top
