use Rattle.std.proofs.Common.{length}
use Rattle.lw_reveal.proofs.HandingLaws.{AreLeft}
use Rattle.lw_reveal.proofs.handing.hand_buffers.Given as goal

abbrev pub invariant-loop-planes : goal.invariant-loop-planes
invariant-loop-planes l = AreLeft l.handed l.former.items l.initial.former.items l.strips l.initial.strips l.covered l.initial.covered

abbrev pub decreases-loop-planes : goal.decreases-loop-planes
decreases-loop-planes l = length l.former.items
