use Rattle.std.proofs.Common.{◌≡◌, ◌+◌, ◌∙◌, ap, arith}
use Rattle.std.proofs.lemmas.Bool.{and_left}
use Rattle.lw_kernels.specs.Kernel.{is_between}
use Rattle.lw_draw.specs.Drawn.{drawn}
use Rattle.lw_blit.specs.Blitting.{from_layer, masked}
use Rattle.lw_blit.proofs.LoopLaws.{layer_gives_bits, no_rows, rows_below, part_as_before, not_before}
use Rattle.lw_blit.proofs.bands.bands_down.Goals as goal

pub loop-y-init : goal.loop-y-init
loop-y-init c = record {
  first = omega arith;
  last = c.args.rows.ordered;
  painted = no_rows c.args.layer.now c.args.mask c.args.rows.from c.args.columns.from c.args.columns.end (from_layer c.args.layer.now c.args.transfer) c.depth.ensures.bits.bitmap;
}

pub loop-y-preserved : goal.loop-y-preserved
loop-y-preserved c =
    let v = c.args.layer.now in
    let w = c.loop-y.layer in
    let u = c.transfer_band.new.layer in
    let top = c.args.rows.from in
    let y = c.loop-y.y in
    let n = c.band_rows.result in
    let from = c.args.columns.from in
    let end = c.args.columns.end in
    let t = c.args.transfer in
    let done = c.loop-y.invariant in
    record {
      first = omega (arith, done.first);
      last = omega (arith, c.band_rows.ensures.most);
      painted =
          rows_below v w u c.args.mask top y n from end (from_layer v t) (layer_gives_bits v t) done.first done.painted
          (part_as_before v w u c.args.mask top y from end y (y + n) from end t
          (λ i j z k at column row. and_left (is_between top y k) (is_between from end z) (not_before t.dy top y j k c.requires.order at.upper row)) done.painted c.transfer_band.ensures);
    }

pub returns : goal.returns
returns c =
    let v = c.args.layer.now in
    let all : c.loop-y.y ≡ c.args.rows.end = let last = c.loop-y.invariant.last in omega (arith, last) in
    c.loop-y.invariant.painted ∙
    ap (λ k. drawn (masked c.args.mask v c.args.rows.from k c.args.columns.from c.args.columns.end) (from_layer v c.args.transfer) v) all
