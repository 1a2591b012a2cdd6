use Rattle.std.proofs.Common.{◌≡◌, drop}
use Rattle.lw_buffers.specs.Lookup.{with_buffers}
use Rattle.lw_buffers.proofs.laying.lay_buffers.Given as goal

abbrev pub invariant-loop-index : goal.invariant-loop-index
invariant-loop-index l = l.to ≡ with_buffers (drop l.index l.rects) (drop l.index l.buffers) l.left l.top l.initial.to
