use Rattle.std.proofs.Common.{◌≡◌, ℕ, ◌+◌, ◌-◌, ◌==◌, ◌&&◌, min, Bool, nat_lt, ◌∙◌, refl, ap, subst, arith}
use Rattle.lw_planes.proofs.ChosenLaws.{no_plane, next_plane}
use Rattle.lw_strips.specs.Blocks.{in_block, block_pen}
use Rattle.lw_strips.specs.Bits.{with_bits}
use Rattle.lw_strips.specs.declared.block.Block.{Block}
use Rattle.lw_strips.proofs.BlockLaws.{bits_nowhere, bits_more, bits_depth}
use Rattle.lw_screens.proofs.Rows.{block_stays, rows_laid}
use Rattle.lw_screens.proofs.composing.lay_rows.Goals as goal

-- the block of rows, and what is copied of it before a plane
abbrev rows_block : ℕ → ℕ → ℕ → ℕ → Block
rows_block first source_first width rows = record { x = 0; y = first; source_x = 0; source_y = source_first; width = width; height = rows }

abbrev so_far : Block → ℕ → ℕ → ℕ → ℕ → Bool
so_far k plane p x y = nat_lt p plane && in_block k x y

pub loop-plane-init : goal.loop-plane-init
loop-plane-init c =
    let k = rows_block c.args.first c.args.source_first c.min.result c.args.rows in
    bits_nowhere (so_far k 0) (block_pen k c.args.source.now) c.args.to.now c.width.ensures.planes.bitmap (λ p x y. no_plane p (in_block k x y))

pub copy_plane-requires-clause-block : goal.copy_plane-requires-clause-block
copy_plane-requires-clause-block c =
    let k = rows_block c.args.first c.args.source_first c.min.result c.args.rows in
    let columns = c.min.ensures in
    let to = c.width.ensures.value in
    let source = c.width-2.ensures.value in
    block_stays (so_far k c.loop-plane.plane) (block_pen k c.args.source.now) k c.args.source.now c.args.to.now c.loop-plane.to c.loop-plane.invariant
    (record { right = omega arith; lower = c.requires.inside; source_right = omega arith; source_lower = c.requires.source_inside })

pub copy_plane-requires-clause-to_plane : goal.copy_plane-requires-clause-to_plane
copy_plane-requires-clause-to_plane c =
    let k = rows_block c.args.first c.args.source_first c.min.result c.args.rows in
    let same = bits_depth (so_far k c.loop-plane.plane) (block_pen k c.args.source.now) c.args.to.now c.loop-plane.to c.loop-plane.invariant in
    omega (arith, c.depth-plane-end.ensures.value, c.loop-plane-test.true)

pub loop-plane-preserved : goal.loop-plane-preserved
loop-plane-preserved c =
    let k = rows_block c.args.first c.args.source_first c.min.result c.args.rows in
    let plane = c.loop-plane.plane in
    bits_more (so_far k plane) (λ p x y. p == plane && in_block k x y) (so_far k (plane + 1))
    (block_pen k c.args.source.now) c.args.to.now c.loop-plane.to c.copy_plane.new.to c.loop-plane.invariant c.copy_plane.ensures
    (λ p x y deep. next_plane p plane (in_block k x y))

pub returns : goal.returns
returns c =
    let k = rows_block c.args.first c.args.source_first c.min.result c.args.rows in
    let source = c.args.source.now in
    let value = c.depth-plane-end.ensures.value in
    let columns = c.min.ensures ∙ (ap (λ n. min n c.width-2.result) c.width.ensures.value ∙ ap (λ n. min c.args.to.now.width n) c.width-2.ensures.value) in
    let all : c.loop-plane.plane ≡ source.depth = omega (arith, c.loop-plane.auto.plane-end, c.loop-plane-test.false) in
    rows_laid k (c.args.first + c.args.rows - 1) source c.args.to.now c.loop-plane.to c.width.ensures.planes.bitmap c.width-2.ensures.planes.bitmap c.requires.depth refl refl columns
    (omega arith) c.requires.source_inside c.requires.blank
    (subst (λ n. c.loop-plane.to ≡ with_bits (so_far k n) (block_pen k source) c.args.to.now) all c.loop-plane.invariant)
