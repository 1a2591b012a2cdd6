use Rattle.std.proofs.Common.{◌≡◌, length, true}
use Rattle.std.specs.List.{All}
use Rattle.lw_strips.specs.Strips.{StripView, planes_of}
use Rattle.lw_reveal.proofs.HandingLaws.{AreLeft}
use Rattle.lw_reveal.proofs.handing.hand_strips.Given as goal

abbrev pub invariant-loop-strip : goal.invariant-loop-strip
invariant-loop-strip l = record {
  solid : All (λ (s : StripView). s.solid ≡ true) l.former.items;
  left : AreLeft l.handed (planes_of l.former.items) (planes_of l.initial.former.items) l.strips l.initial.strips l.covered l.initial.covered;
}

abbrev pub decreases-loop-strip : goal.decreases-loop-strip
decreases-loop-strip l = length l.former.items
