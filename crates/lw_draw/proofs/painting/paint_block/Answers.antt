use Rattle.std.proofs.Common.{ℕ, ◌+◌, ◌<◌, ◌==◌, ◌&&◌, Bool, nat_lt, ◌∙◌, sym, arith}
use Rattle.lw_planes.proofs.ChosenLaws.{no_plane, all_planes}
use Rattle.lw_draw.specs.Blocks.{in_block}
use Rattle.lw_draw.specs.declared.blocks.Block.{Block}
use Rattle.lw_draw.proofs.BlockLaws.{block_stays}
use Rattle.lw_draw.proofs.PaintLaws.{layer_nowhere, layer_same, layer_more, depth_stays, next_plane, left_plane}
use Rattle.lw_draw.proofs.painting.paint_block.Goals as goal
use Rattle.lw_draw.proofs.painting.paint_block.Goals.{then-has_plane, else-has_plane}

-- what is painted before a plane
abbrev so_far : (ℕ → Bool) → Block → ℕ → ℕ → ℕ → ℕ → Bool
so_far planes b k p i j = nat_lt p k && (planes p && in_block b i j)

pub loop-plane-init : goal.loop-plane-init
loop-plane-init g c =
    let planes = g.P.Painter.planes c.args.painter.now in
    layer_nowhere c.args.layer.now (so_far planes c.args.block 0) (g.P.Painter.bit c.args.painter.now) c.depth-plane-end.ensures.bits.bitmap (λ p i j. no_plane p (planes p && in_block c.args.block i j))

pub paint_plane-requires-clause-plane : goal.paint_plane-requires-clause-plane
paint_plane-requires-clause-plane g c =
    let same = depth_stays c.args.layer.now c.loop-plane.layer (so_far (g.P.Painter.planes c.args.painter.now) c.args.block c.loop-plane.plane) (g.P.Painter.bit c.args.painter.now) c.loop-plane.invariant in
    omega (arith, same, c.depth-plane-end.ensures.value)

pub paint_plane-requires-clause-block : goal.paint_plane-requires-clause-block
paint_plane-requires-clause-block g c =
    block_stays c.args.layer.now c.loop-plane.layer (so_far (g.P.Painter.planes c.args.painter.now) c.args.block c.loop-plane.plane) (g.P.Painter.bit c.args.painter.now) c.args.block c.loop-plane.invariant c.requires.block

pub loop-plane-preserved : goal.loop-plane-preserved
loop-plane-preserved g c =
    let v = c.args.layer.now in
    let k = c.loop-plane.plane in
    let b = c.args.block in
    let planes = g.P.Painter.planes c.args.painter.now in
    let new = g.P.Painter.bit c.args.painter.now in
    elim c.if-has_plane.branch [
      | then-has_plane w ↦ w.layer-is ∙ layer_more v c.loop-plane.layer w.paint_plane.new.layer (so_far planes b k) (λ p i j. p == k && in_block b i j) (so_far planes b (k + 1)) new c.requires.bits (next_plane v planes k (in_block b) (sym c.has_plane.ensures ∙ w.if-has_plane.true)) c.loop-plane.invariant w.paint_plane.ensures
      | else-has_plane w ↦ w.layer-is ∙ layer_same v c.loop-plane.layer (so_far planes b k) (so_far planes b (k + 1)) new c.loop-plane.invariant (λ p i j _. left_plane planes k (in_block b i j) p (sym c.has_plane.ensures ∙ w.if-has_plane.false))
    ]

pub returns : goal.returns
returns g c =
    let planes = g.P.Painter.planes c.args.painter.now in
    let b = c.args.block in
    layer_same c.args.layer.now c.loop-plane.layer (so_far planes b c.loop-plane.plane) (λ p i j. planes p && in_block b i j) (g.P.Painter.bit c.args.painter.now) c.loop-plane.invariant
    (λ p i j deep. let below : p < c.loop-plane.plane = omega (arith, deep, c.depth-plane-end.ensures.value) in all_planes p c.loop-plane.plane (planes p && in_block b i j) below)
