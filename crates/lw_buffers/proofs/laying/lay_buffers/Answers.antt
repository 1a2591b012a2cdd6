use Rattle.std.proofs.Common.{ℕ, ◌-◌, drop, length, arith, w64}
use Rattle.std.proofs.lemmas.Int.{to_z-of_z}
use Rattle.lw_buffers.proofs.LookupLaws.{drop_next}
use Rattle.lw_buffers.proofs.LaidLaws.{laid_none, laid_more, laid_deep, sized_at}
use Rattle.lw_buffers.proofs.laying.lay_buffers.Goals as goal

pub loop-index-init : goal.loop-index-init
loop-index-init c = laid_none c.args.rects.now c.args.buffers.now (length c.args.rects.now) _ _ c.args.to.now c.depth.ensures.planes.bitmap (omega arith)

pub lay_buffer-requires-clause-size : goal.lay_buffer-requires-clause-size
lay_buffer-requires-clause-size c =
    let k : ℕ = c.loop-index.index - 1 in
    sized_at c.args.rects.now c.args.buffers.now k _ _ c.requires.buffers (omega arith) c.index-rects-index.is c.index-buffers-index.is

pub lay_buffer-requires-clause-planes : goal.lay_buffer-requires-clause-planes
lay_buffer-requires-clause-planes c =
    let k : ℕ = c.loop-index.index - 1 in
    laid_deep (drop c.loop-index.index c.args.rects.now) (drop c.loop-index.index c.args.buffers.now) c.args.buffers.now _ _ c.args.to.now c.loop-index.to _ k c.loop-index.invariant c.requires.planes
    (omega (arith, c.requires.buffers.as_many)) c.index-buffers-index.is

pub loop-index-preserved : goal.loop-index-preserved
loop-index-preserved c =
    let next = c.loop-index.index in
    let k : ℕ = c.loop-index.index - 1 in
    let rects = drop_next c.args.rects.now k next c.index-rects-index.result (omega arith) (omega arith) c.index-rects-index.is in
    let buffers = drop_next c.args.buffers.now k next c.index-buffers-index.result (omega (arith, c.requires.buffers.as_many)) (omega arith) c.index-buffers-index.is in
    let left = to_z-of_z w64 c.args.left c.ranges.left in
    let top = to_z-of_z w64 c.args.top c.ranges.top in
    rw (left, top)
    (laid_more c.args.rects.now c.args.buffers.now k next c.index-rects-index.result c.index-buffers-index.result c.args.left c.args.top c.args.to.now c.loop-index.to c.lay_buffer.new.to rects buffers
    (rw (left, top) at c.loop-index.invariant) (rw (left, top) at c.lay_buffer.ensures))
