use Rattle.std.proofs.Common.{ℕ, ◌+◌, ◌&&◌, Bool, pos, ◌≤ℤ◌, subst, arith}
use Rattle.std.proofs.lemmas.Int.{ints}
use Rattle.lw_kernels.specs.Kernel.{is_between}
use Rattle.lw_layer.specs.View.{LiveView, draws}
use Rattle.lw_layer.specs.Runs.{IsRun}
use Rattle.lw_draw.specs.Blocks.{in_block}
use Rattle.lw_draw.specs.Drawn.{in_rows}
use Rattle.lw_draw.specs.declared.blocks.Block.{Block}
use Rattle.lw_draw.proofs.BlockLaws.{drawable_block, band_stays, next_block, block_in_band, band_done}
use Rattle.lw_draw.proofs.PaintLaws.{layer_nowhere, layer_same, layer_more, first_stays, none_stays, no_column}
use Rattle.lw_draw.proofs.painting.paint_band.Goals as goal

-- what is painted of a band before a column
abbrev so_far : (ℕ → Bool) → LiveView → ℕ → ℕ → ℕ → ℕ → ℕ → ℕ → ℕ → Bool
so_far planes c y rows from x p i j = planes p && in_rows c y (y + rows) from x i j

pub loop-stretch-init : goal.loop-stretch-init
loop-stretch-init g c =
    let v = c.args.layer.now in
    let y = c.args.y in
    let rows = c.args.rows in
    let from = c.args.columns.from in
    let planes = g.P.Painter.planes c.args.painter.now in
    record {
      first = omega arith;
      last = c.args.columns.ordered;
      painted = layer_nowhere v (so_far planes v y rows from from) (g.P.Painter.bit c.args.painter.now) c.depth.ensures.bits.bitmap (λ p i j. no_column (planes p) (is_between y (y + rows) j) from i (draws v i j));
    }

pub paint_block-requires-clause-block : goal.paint_block-requires-clause-block
paint_block-requires-clause-block g c =
    let v = c.args.layer.now in
    let w = c.loop-stretch.layer in
    let y = c.args.y in
    let rows = c.args.rows in
    let s = c.in-Some.stretch in
    let on = so_far (g.P.Painter.planes c.args.painter.now) v y rows c.args.columns.from c.loop-stretch.x in
    let P : ℕ → Type 0 = λ j. IsRun w (λ i k. draws w i k) s.x j s.run in
    drawable_block w (record { x = s.x; y = y; rows = rows; run = s.run }) c.requires.some (subst P c.in-Some.ensures.row c.in-Some.ensures.run) (band_stays v w on (g.P.Painter.bit c.args.painter.now) y rows c.loop-stretch.invariant.painted c.requires.band)

pub paint_block-requires-clause-reached : goal.paint_block-requires-clause-reached
paint_block-requires-clause-reached g c i j on =
    let v = c.args.layer.now in
    let w = c.loop-stretch.layer in
    let x = c.loop-stretch.x in
    let s = c.in-Some.stretch in
    let done = c.loop-stretch.invariant in
    let next = first_stays v w (so_far (g.P.Painter.planes c.args.painter.now) v c.args.y c.args.rows c.args.columns.from x) (g.P.Painter.bit c.args.painter.now) x c.args.y c.args.columns.end s done.painted c.in-Some.ensures in
    c.requires.reached i j (block_in_band v c.args.y c.args.rows c.args.columns.from x c.args.columns.end s i j done.first c.requires.band next on)

pub loop-stretch-preserved : goal.loop-stretch-preserved
loop-stretch-preserved g c =
    let v = c.args.layer.now in
    let w = c.loop-stretch.layer in
    let y = c.args.y in
    let rows = c.args.rows in
    let from = c.args.columns.from in
    let end = c.args.columns.end in
    let x = c.loop-stretch.x in
    let s = c.in-Some.stretch in
    let planes = g.P.Painter.planes c.args.painter.now in
    let new = g.P.Painter.bit c.args.painter.now in
    let done = c.loop-stretch.invariant in
    let block : Block = record { x = s.x; y = y; rows = rows; run = s.run } in
    let next = first_stays v w (so_far planes v y rows from x) new x y end s done.painted c.in-Some.ensures in
    let reaches : pos x ≤ℤ pos s.x = next.column.reaches in
    record {
      first = omega (arith, ints, done.first);
      last = next.ends;
      painted =
          layer_more v w c.paint_block.new.layer (so_far planes v y rows from x) (λ p i j. planes p && in_block block i j) (so_far planes v y rows from (s.x + s.run.len)) new c.requires.bits
          (next_block v planes y rows from x end s done.first c.requires.band next) done.painted c.paint_block.ensures;
    }

pub returns : goal.returns
returns g c =
    let v = c.args.layer.now in
    let y = c.args.y in
    let rows = c.args.rows in
    let from = c.args.columns.from in
    let end = c.args.columns.end in
    let x = c.loop-stretch.x in
    let planes = g.P.Painter.planes c.args.painter.now in
    let new = g.P.Painter.bit c.args.painter.now in
    let done = c.loop-stretch.invariant in
    let on = so_far planes v y rows from x in
    layer_same v c.loop-stretch.layer on (so_far planes v y rows from end) new done.painted
    (λ p i j _. band_done v (planes p) y rows from x end i j done.first done.last c.requires.band (none_stays v c.loop-stretch.layer on new x y end done.painted c.in_default.ensures))
