use Rattle.std.proofs.Common.{◌≡◌, ◌∙◌, ap, arith}
use Rattle.std.proofs.lemmas.Bool.{and_right}
use Rattle.lw_kernels.specs.Kernel.{is_between}
use Rattle.lw_draw.specs.Drawn.{drawn}
use Rattle.lw_blit.specs.Blitting.{from_layer, masked}
use Rattle.lw_blit.proofs.LoopLaws.{layer_gives_bits, no_columns, columns_left, part_as_before, not_behind}
use Rattle.lw_blit.proofs.bands.pieces_left.Goals as goal

pub loop-end-init : goal.loop-end-init
loop-end-init c = record {
  first = c.args.columns.ordered;
  last = omega arith;
  painted = no_columns c.args.layer.now c.args.mask c.args.rows.from c.args.rows.end c.args.columns.end c.args.columns.end (from_layer c.args.layer.now c.args.transfer) c.depth.ensures.bits.bitmap (omega arith);
}

pub loop-end-preserved : goal.loop-end-preserved
loop-end-preserved c =
    let v = c.args.layer.now in
    let w = c.loop-end.layer in
    let u = c.transfer_piece.new.layer in
    let top = c.args.rows.from in
    let bottom = c.args.rows.end in
    let end = c.args.columns.end in
    let next = c.loop-end.end in
    let x = c.last_piece-x.result in
    let t = c.args.transfer in
    let done = c.loop-end.invariant in
    record {
      first = c.last_piece-x.ensures.first;
      last = omega (arith, done.last, c.last_piece-x.ensures.last);
      painted =
          columns_left v w u c.args.mask top bottom x next end (from_layer v t) (layer_gives_bits v t) (omega (arith, c.last_piece-x.ensures.last)) done.last done.painted
          (part_as_before v w u c.args.mask top bottom next end top bottom x next t
          (λ i j z k at column row. and_right (is_between top bottom k) (is_between next end z) (not_behind t.dx next end i z c.requires.order at.last column)) done.painted c.transfer_piece.ensures);
    }

pub returns : goal.returns
returns c =
    let v = c.args.layer.now in
    let all : c.loop-end.end ≡ c.args.columns.from = let first = c.loop-end.invariant.first in omega (arith, first) in
    c.loop-end.invariant.painted ∙
    ap (λ k. drawn (masked c.args.mask v c.args.rows.from c.args.rows.end k c.args.columns.end) (from_layer v c.args.transfer) v) all
