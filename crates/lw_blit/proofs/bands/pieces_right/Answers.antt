use Rattle.std.proofs.Common.{◌≡◌, ◌+◌, ◌∙◌, ap, arith}
use Rattle.std.proofs.lemmas.Bool.{and_right}
use Rattle.lw_kernels.specs.Kernel.{is_between}
use Rattle.lw_draw.specs.Drawn.{drawn}
use Rattle.lw_blit.specs.Blitting.{from_layer, masked}
use Rattle.lw_blit.proofs.LoopLaws.{layer_gives_bits, no_columns, columns_right, part_as_before, not_before}
use Rattle.lw_blit.proofs.bands.pieces_right.Goals as goal

pub loop-x-init : goal.loop-x-init
loop-x-init c = record {
  first = omega arith;
  last = c.args.columns.ordered;
  painted = no_columns c.args.layer.now c.args.mask c.args.rows.from c.args.rows.end c.args.columns.from c.args.columns.from (from_layer c.args.layer.now c.args.transfer) c.depth.ensures.bits.bitmap (omega arith);
}

pub loop-x-preserved : goal.loop-x-preserved
loop-x-preserved c =
    let v = c.args.layer.now in
    let w = c.loop-x.layer in
    let u = c.transfer_piece.new.layer in
    let top = c.args.rows.from in
    let bottom = c.args.rows.end in
    let from = c.args.columns.from in
    let x = c.loop-x.x in
    let n = c.piece_columns.result in
    let t = c.args.transfer in
    let done = c.loop-x.invariant in
    record {
      first = omega (arith, done.first);
      last = omega (arith, c.piece_columns.ensures.most);
      painted =
          columns_right v w u c.args.mask top bottom from x (x + n) (from_layer v t) (layer_gives_bits v t) done.first (omega arith) done.painted
          (part_as_before v w u c.args.mask top bottom from x top bottom x (x + n) t
          (λ i j z k at column row. and_right (is_between top bottom k) (is_between from x z) (not_before t.dx from x i z c.requires.order at.first column)) done.painted c.transfer_piece.ensures);
    }

pub returns : goal.returns
returns c =
    let v = c.args.layer.now in
    let all : c.loop-x.x ≡ c.args.columns.end = let last = c.loop-x.invariant.last in omega (arith, last) in
    c.loop-x.invariant.painted ∙
    ap (λ k. drawn (masked c.args.mask v c.args.rows.from c.args.rows.end c.args.columns.from k) (from_layer v c.args.transfer) v) all
