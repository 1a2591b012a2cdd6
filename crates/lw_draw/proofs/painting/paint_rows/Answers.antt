use Rattle.std.proofs.Common.{◌≡◌, ℕ, ◌+◌, ◌&&◌, Bool, ◌∙◌, sym, ap, subst, arith}
use Rattle.lw_kernels.specs.Kernel.{is_between}
use Rattle.lw_layer.specs.View.{LiveView, draws}
use Rattle.lw_draw.specs.Drawn.{drawn, in_rows}
use Rattle.lw_draw.proofs.PaintLaws.{layer_nowhere, layer_same, layer_more, draws_stays, height_stays, next_rows, no_row, cut_reached, cut_done}
use Rattle.lw_draw.proofs.painting.paint_rows.Goals as goal

-- what is painted of some rows before a row
abbrev so_far : (ℕ → Bool) → LiveView → ℕ → ℕ → ℕ → ℕ → ℕ → ℕ → ℕ → Bool
so_far planes c from end top y p i j = planes p && in_rows c top y from end i j

pub loop-y-init : goal.loop-y-init
loop-y-init g c =
    let v = c.args.layer.now in
    let top = c.before-rows.result.from in
    let from = c.before-columns.result.from in
    let end = c.before-columns.result.end in
    let planes = g.P.Painter.planes c.args.painter.now in
    record {
      first = omega arith;
      last = c.before-rows.result.ordered;
      painted = layer_nowhere v (so_far planes v from end top top) (g.P.Painter.bit c.args.painter.now) c.height.ensures.bits.bitmap (λ p i j. no_row (planes p) top j (is_between from end i && draws v i j));
    }

pub band_at-count-requires-clause-inside : goal.band_at-count-requires-clause-inside
band_at-count-requires-clause-inside g c =
    let same = height_stays c.args.layer.now c.loop-y.layer (so_far (g.P.Painter.planes c.args.painter.now) c.args.layer.now c.before-columns.result.from c.before-columns.result.end c.before-rows.result.from c.loop-y.y) (g.P.Painter.bit c.args.painter.now) c.loop-y.invariant.painted in
    omega (arith, same, c.height.ensures.value, c.before-rows.ensures.inside)

pub paint_band-requires-clause-reached : goal.paint_band-requires-clause-reached
paint_band-requires-clause-reached g c i j on =
    let v = c.args.layer.now in
    let w = c.loop-y.layer in
    let rows = c.before-rows.result in
    let columns = c.before-columns.result in
    let y = c.loop-y.y in
    let n = c.band_at-count.result in
    let done = c.loop-y.invariant in
    let still = draws_stays v w (so_far (g.P.Painter.planes c.args.painter.now) v columns.from columns.end rows.from y) (g.P.Painter.bit c.args.painter.now) i j done.painted in
    c.requires.reached i j
    (cut_reached v c.args.rows c.args.columns rows columns y n i j
    (record {
      bottom = omega (arith, c.before-rows.ensures.inside, c.height.ensures.value);
      right = omega (arith, c.before-columns.ensures.inside, c.width.ensures.value);
      down = λ k low. c.before-rows.ensures.has k (omega (arith, low, c.height.ensures.value));
      across = λ k low. c.before-columns.ensures.has k (omega (arith, low, c.width.ensures.value));
    })
    done.first (omega (arith, c.band_at-count.ensures.ends))
    (ap (λ t. is_between y (y + n) j && (is_between columns.from columns.end i && t)) (sym still) ∙ on))

pub loop-y-preserved : goal.loop-y-preserved
loop-y-preserved g c =
    let v = c.args.layer.now in
    let w = c.loop-y.layer in
    let top = c.before-rows.result.from in
    let from = c.before-columns.result.from in
    let end = c.before-columns.result.end in
    let y = c.loop-y.y in
    let n = c.band_at-count.result in
    let planes = g.P.Painter.planes c.args.painter.now in
    let new = g.P.Painter.bit c.args.painter.now in
    let done = c.loop-y.invariant in
    let row : LiveView → ℕ → ℕ → ℕ → Bool = λ q p i j. planes p && in_rows q y (y + n) from end i j in
    record {
      first = omega (arith, done.first);
      last = omega (arith, c.band_at-count.ensures.ends);
      painted =
          layer_more v w c.paint_band.new.layer (so_far planes v from end top y) (row v) (so_far planes v from end top (y + n)) new c.requires.bits (next_rows v planes top y n from end done.first) done.painted
          (layer_same w c.paint_band.new.layer (row w) (row v) new c.paint_band.ensures
          (λ p i j _. ap (λ t. planes p && (is_between y (y + n) j && (is_between from end i && t))) (draws_stays v w (so_far planes v from end top y) new i j done.painted)));
    }

pub returns : goal.returns
returns g c =
    let v = c.args.layer.now in
    let rows = c.before-rows.result in
    let columns = c.before-columns.result in
    let done = c.loop-y.invariant in
    let planes = g.P.Painter.planes c.args.painter.now in
    let new = g.P.Painter.bit c.args.painter.now in
    let all : c.loop-y.y ≡ rows.end = omega (arith, done.last) in
    let P : ℕ → Type 0 = λ k. c.loop-y.layer ≡ drawn (so_far planes v columns.from columns.end rows.from k) new v in
    cut_done v c.loop-y.layer planes new c.args.rows c.args.columns rows columns
    (record {
      bottom = omega (arith, c.before-rows.ensures.inside, c.height.ensures.value);
      right = omega (arith, c.before-columns.ensures.inside, c.width.ensures.value);
      down = λ k low. c.before-rows.ensures.has k (omega (arith, low, c.height.ensures.value));
      across = λ k low. c.before-columns.ensures.has k (omega (arith, low, c.width.ensures.value));
    })
    (subst P all done.painted)
