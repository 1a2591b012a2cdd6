use Rattle.std.proofs.Common.{◌≤◌}
use Rattle.lw_reveal.specs.Pairing.{IsPairing, SameLists}
use Rattle.lw_reveal.proofs.pairing.Pairing.pair_parts.Given as goal

abbrev pub invariant-loop-number : goal.invariant-loop-number
invariant-loop-number l = record {
  sound : IsPairing l.self;
  lists : SameLists l.initial.self l.self;
  place : l.place ≤ l.end;
}
