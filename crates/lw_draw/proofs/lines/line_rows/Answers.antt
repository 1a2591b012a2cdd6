use Rattle.std.proofs.Common.{◌≡◌, ℕ, ◌+◌, ◌≤◌, ◌&&◌, Bool, pos, to_z, w32, ◌∙◌, ap, subst, arith}
use Rattle.std.proofs.lemmas.Int.{ints}
use Rattle.lw_planes.specs.Bitmap.{IsBitmap}
use Rattle.lw_kernels.specs.Kernel.{is_between}
use Rattle.lw_layer.specs.View.{LiveView, draws}
use Rattle.lw_layer.specs.Drafts.{raster_of}
use Rattle.lw_machine.specs.Layer.{Raster}
use Rattle.lw_machine.specs.Shapes.{is_on_line}
use Rattle.lw_draw.specs.Drawn.{in_mask, painted, painted_bit}
use Rattle.lw_draw.specs.LineSpans.{on_line_rows}
use Rattle.lw_draw.specs.Walks.{IsWalk}
use Rattle.lw_draw.specs.declared.row_spans.Line.{Line}
use Rattle.lw_draw.proofs.BlockLaws.{known_stays}
use Rattle.lw_draw.proofs.PaintLaws.{layer_nowhere, layer_same, layer_more, draws_stays, paints_bits, next_rows_of, no_row}
use Rattle.lw_draw.proofs.lines.line_rows.Goals as goal

-- what is painted of the line before a row
abbrev so_far : Raster → LiveView → Line → ℕ → ℕ → ℕ → ℕ → ℕ → Bool
so_far raster c line top y p i j = in_mask raster p && on_line_rows c line top y i j

-- the pixel is on the line
abbrev on_it : Line → ℕ → ℕ → Bool
on_it l i j = is_on_line l.x0 l.y0 l.x1 l.y1 (pos i) (pos j)

-- with no row nothing is drawn
none_drawn : (v : LiveView) (line : Line) (raster : Raster) (top : ℕ) → IsBitmap v.layer.bits → v ≡ painted raster (λ i j. on_line_rows v line top top i j) v
none_drawn v line raster top ok =
    layer_nowhere v (so_far raster v line top top) (painted_bit raster) ok
    (λ p i j. no_row (in_mask raster p) top j (on_it line i j && draws v i j))

pub returns-then-rows : goal.returns-then-rows
returns-then-rows c =
    let v = c.args.layer.now in
    let top = c.args.rows.from in
    none_drawn v c.args.line (raster_of c.args.raster) top c.width.ensures.bits.bitmap ∙
    ap (λ k. painted (raster_of c.args.raster) (λ i j. on_line_rows v c.args.line top k i j) v) c.if-rows.true

pub loop-y-init : goal.loop-y-init
loop-y-init c =
    let row : to_z w32 c.args.rows.from ≡ pos c.args.rows.from = omega (arith, ints) in
    record {
      drawn = none_drawn c.args.layer.now c.args.line (raster_of c.args.raster) c.args.rows.from c.width.ensures.bits.bitmap;
      walk = λ some. subst (λ z. IsWalk c.args.line z c.walk_at-walk.result) row c.walk_at-walk.ensures;
    }

pub line_row-requires-clause-known : goal.line_row-requires-clause-known
line_row-requires-clause-known c =
    known_stays c.args.layer.now c.loop-y.layer (so_far (raster_of c.args.raster) c.args.layer.now c.args.line c.args.rows.from c.loop-y.y) (painted_bit (raster_of c.args.raster)) c.args.rows c.span-columns.result c.whole_block-whole.result c.loop-y.invariant.drawn c.whole_block-whole.ensures

pub line_row-requires-clause-walk : goal.line_row-requires-clause-walk
line_row-requires-clause-walk c = c.loop-y.invariant.walk (omega arith)

pub next_row-walk-requires-clause-walk : goal.next_row-walk-requires-clause-walk
next_row-walk-requires-clause-walk c = c.loop-y.invariant.walk (omega arith)

pub loop-y-preserved : goal.loop-y-preserved
loop-y-preserved c =
    let v = c.args.layer.now in
    let w = c.loop-y.layer in
    let l = c.args.line in
    let top = c.args.rows.from in
    let y = c.loop-y.y in
    let raster = raster_of c.args.raster in
    let new = painted_bit raster in
    let low : top ≤ y = omega arith in
    let row : LiveView → ℕ → ℕ → ℕ → Bool = λ q p i j. in_mask raster p && on_line_rows q l y (y + 1) i j in
    record {
      drawn = layer_more v w c.line_row.new.layer (so_far raster v l top y) (row v) (so_far raster v l top (y + 1)) new (paints_bits raster) (next_rows_of v (in_mask raster) (λ i j. on_it l i j && draws v i j) top y 1 low) c.loop-y.invariant.drawn
          (layer_same w c.line_row.new.layer (row w) (row v) new c.line_row.ensures
          (λ p i j _. ap (λ t. in_mask raster p && (is_between y (y + 1) j && (on_it l i j && t))) (draws_stays v w (so_far raster v l top y) new i j c.loop-y.invariant.drawn)));
      walk = c.next_row-walk.ensures;
    }

pub returns : goal.returns
returns c =
    let bottom : c.loop-y.y ≡ c.args.rows.end = omega arith in
    c.loop-y.invariant.drawn ∙
    ap (λ k. painted (raster_of c.args.raster) (λ i j. on_line_rows c.args.layer.now c.args.line c.args.rows.from k i j) c.args.layer.now) bottom
