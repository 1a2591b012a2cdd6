use Rattle.std.proofs.Common.{ℕ, ◌-◌, drop, length, arith, w64}
use Rattle.std.proofs.lemmas.Int.{to_z-of_z}
use Rattle.lw_strips.specs.Strips.{rects_of, planes_of}
use Rattle.lw_buffers.proofs.LookupLaws.{drop_next}
use Rattle.lw_buffers.proofs.StripsLaws.{strip_solid, strip_deep, strips_none, strips_more}
use Rattle.lw_buffers.proofs.laying.lay_strips.Goals as goal

pub loop-index-init : goal.loop-index-init
loop-index-init c = strips_none c.args.strips.now (length c.args.strips.now) _ _ c.args.to.now c.depth.ensures.planes.bitmap (omega arith)

pub lay_strip-requires-clause-solid : goal.lay_strip-requires-clause-solid
lay_strip-requires-clause-solid c =
    let k : ℕ = c.loop-index.index - 1 in
    strip_solid c.args.strips.now k _ c.requires.solid (omega arith) c.index-strips-index.is

pub lay_strip-requires-clause-planes : goal.lay_strip-requires-clause-planes
lay_strip-requires-clause-planes c =
    let k : ℕ = c.loop-index.index - 1 in
    let rest = drop c.loop-index.index c.args.strips.now in
    strip_deep c.args.strips.now (rects_of rest) (planes_of rest) _ _ c.args.to.now c.loop-index.to k _ c.loop-index.invariant c.requires.planes (omega arith) c.index-strips-index.is

pub loop-index-preserved : goal.loop-index-preserved
loop-index-preserved c =
    let next = c.loop-index.index in
    let k : ℕ = c.loop-index.index - 1 in
    let first = drop_next c.args.strips.now k next c.index-strips-index.result (omega arith) (omega arith) c.index-strips-index.is in
    let left = to_z-of_z w64 c.args.left c.ranges.left in
    let top = to_z-of_z w64 c.args.top c.ranges.top in
    rw (left, top)
    (strips_more c.args.strips.now k next c.index-strips-index.result c.args.left c.args.top c.args.to.now c.loop-index.to c.lay_strip.new.to first
    (rw (left, top) at c.loop-index.invariant) (rw (left, top) at c.lay_strip.ensures))
