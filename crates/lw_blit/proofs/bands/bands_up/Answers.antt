use Rattle.std.proofs.Common.{◌≡◌, ◌∙◌, refl, ap, arith}
use Rattle.std.proofs.lemmas.Bool.{and_left}
use Rattle.lw_kernels.specs.Kernel.{is_between}
use Rattle.lw_draw.specs.Drawn.{drawn}
use Rattle.lw_blit.specs.Blitting.{from_layer, masked}
use Rattle.lw_blit.proofs.LoopLaws.{layer_gives_bits, no_rows, rows_above, part_as_before, not_behind}
use Rattle.lw_blit.proofs.bands.bands_up.Goals as goal

pub loop-end-init : goal.loop-end-init
loop-end-init c = record {
  first = c.args.rows.ordered;
  last = omega arith;
  painted = no_rows c.args.layer.now c.args.mask c.args.rows.end c.args.columns.from c.args.columns.end (from_layer c.args.layer.now c.args.transfer) c.depth.ensures.bits.bitmap;
}

pub loop-end-preserved : goal.loop-end-preserved
loop-end-preserved c =
    let v = c.args.layer.now in
    let w = c.loop-end.layer in
    let u = c.transfer_band.new.layer in
    let bottom = c.args.rows.end in
    let next = c.loop-end.end in
    let y = c.last_band-y.result in
    let from = c.args.columns.from in
    let end = c.args.columns.end in
    let t = c.args.transfer in
    let done = c.loop-end.invariant in
    record {
      first = c.last_band-y.ensures.first;
      last = omega (arith, done.last, c.last_band-y.ensures.last);
      painted =
          rows_above v w u c.args.mask y next next bottom from end (from_layer v t) (layer_gives_bits v t) refl (omega (arith, c.last_band-y.ensures.last)) done.last done.painted
          (part_as_before v w u c.args.mask next bottom from end y next from end t
          (λ i j z k at column row. and_left (is_between next bottom k) (is_between from end z) (not_behind t.dy next bottom j k c.requires.order at.lower row)) done.painted c.transfer_band.ensures);
    }

pub returns : goal.returns
returns c =
    let v = c.args.layer.now in
    let all : c.loop-end.end ≡ c.args.rows.from = let first = c.loop-end.invariant.first in omega (arith, first) in
    c.loop-end.invariant.painted ∙
    ap (λ k. drawn (masked c.args.mask v k c.args.rows.end c.args.columns.from c.args.columns.end) (from_layer v c.args.transfer) v) all
