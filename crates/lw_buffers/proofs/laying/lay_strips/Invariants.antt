use Rattle.std.proofs.Common.{◌≡◌, drop}
use Rattle.lw_strips.specs.Strips.{rects_of, planes_of}
use Rattle.lw_buffers.specs.Lookup.{with_buffers}
use Rattle.lw_buffers.proofs.laying.lay_strips.Given as goal

abbrev pub invariant-loop-index : goal.invariant-loop-index
invariant-loop-index l = l.to ≡ with_buffers (rects_of (drop l.index l.strips)) (planes_of (drop l.index l.strips)) l.left l.top l.initial.to
