use Rattle.std.proofs.Common.{ℕ, ◌+◌, ◌<◌, ◌==◌, ◌&&◌, Bool, nat_lt, arith}
use Rattle.lw_planes.proofs.ChosenLaws.{no_plane, next_plane, all_planes}
use Rattle.lw_strips.specs.Blocks.{in_block, block_pen}
use Rattle.lw_strips.specs.declared.block.Block.{Block}
use Rattle.lw_strips.proofs.BlockLaws.{bits_nowhere, bits_more, bits_depth, block_stays, block_nowhere, block_whole}
use Rattle.lw_strips.proofs.block.copy_block.Goals as goal

-- what is copied before a plane
abbrev so_far : Block → ℕ → ℕ → ℕ → ℕ → Bool
so_far k plane p x y = nat_lt p plane && in_block k x y

pub returns-then-block-eq0 : goal.returns-then-block-eq0
returns-then-block-eq0 c = block_nowhere c.args.block (block_pen c.args.block c.args.source.now) c.args.to.now c.depth-depth.ensures.planes.bitmap c.if-block-eq0.true

pub loop-plane-init : goal.loop-plane-init
loop-plane-init c =
    bits_nowhere (so_far c.args.block 0) (block_pen c.args.block c.args.source.now) c.args.to.now c.depth-depth.ensures.planes.bitmap
    (λ p x y. no_plane p (in_block c.args.block x y))

pub copy_plane-requires-clause-block : goal.copy_plane-requires-clause-block
copy_plane-requires-clause-block c =
    block_stays (so_far c.args.block c.loop-plane.plane) (block_pen c.args.block c.args.source.now) c.args.block c.args.source.now c.args.to.now c.loop-plane.to c.loop-plane.invariant c.requires

pub copy_plane-requires-clause-plane : goal.copy_plane-requires-clause-plane
copy_plane-requires-clause-plane c =
    let same = bits_depth (so_far c.args.block c.loop-plane.plane) (block_pen c.args.block c.args.source.now) c.args.to.now c.loop-plane.to c.loop-plane.invariant in
    omega (arith, c.depth-depth.ensures.value, c.loop-plane-test.true)

pub loop-plane-preserved : goal.loop-plane-preserved
loop-plane-preserved c =
    let k = c.args.block in
    let plane = c.loop-plane.plane in
    bits_more (so_far k plane) (λ p x y. p == plane && in_block k x y) (so_far k (plane + 1))
    (block_pen k c.args.source.now) c.args.to.now c.loop-plane.to c.copy_plane.new.to c.loop-plane.invariant c.copy_plane.ensures
    (λ p x y deep. next_plane p plane (in_block k x y))

pub returns : goal.returns
returns c =
    let k = c.args.block in
    block_whole (so_far k c.loop-plane.plane) k c.args.source.now c.args.to.now c.loop-plane.to c.requires c.depth-depth.ensures.planes.bitmap c.depth.ensures.planes.bitmap c.loop-plane.invariant
    (λ p x y deep. let below : p < c.loop-plane.plane = omega (arith, deep, c.depth-depth.ensures.value, c.loop-plane-test.false) in all_planes p c.loop-plane.plane (in_block k x y) below)
