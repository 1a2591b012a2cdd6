use Rattle.std.proofs.Common.{ℕ, ◌-◌, drop, length, arith}
use Rattle.lw_strips.proofs.LayingLaws.{strips_none, strips_more, size_stays, depth_stays}
use Rattle.lw_strips.proofs.laying.lay_all.Goals as goal

pub loop-index-init : goal.loop-index-init
loop-index-init c = strips_none c.args.window.now c.args.strips.now (length c.args.strips.now) c.args.planes.now c.depth.ensures.planes.bitmap (omega arith)

pub lay_on-requires-clause-size : goal.lay_on-requires-clause-size
lay_on-requires-clause-size c = size_stays c.args.window.now (drop c.loop-index.index c.args.strips.now) c.args.planes.now c.loop-index.planes c.loop-index.invariant c.requires.size

pub lay_on-requires-clause-planes : goal.lay_on-requires-clause-planes
lay_on-requires-clause-planes c =
    depth_stays c.args.window.now (drop c.loop-index.index c.args.strips.now) c.args.strips.now c.args.planes.now c.loop-index.planes c.index-strips-index.result (c.loop-index.index - 1)
    c.loop-index.invariant c.requires.planes (omega arith) c.index-strips-index.is

pub loop-index-preserved : goal.loop-index-preserved
loop-index-preserved c =
    let next = c.loop-index.index in
    let k : ℕ = c.loop-index.index - 1 in
    strips_more c.args.window.now c.args.strips.now k next c.index-strips-index.result c.args.planes.now c.loop-index.planes c.lay_on.new.planes (omega arith) (omega arith) c.index-strips-index.is
    c.loop-index.invariant c.lay_on.ensures
