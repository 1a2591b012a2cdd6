use Rattle.std.proofs.Common.{◌-◌, ◌≡◌, ◌≤◌, ◌++◌, length, drop}
use Rattle.lw_ilbm.specs.Packing.{unpacked}
use Rattle.lw_ilbm.proofs.packing.unpacked.Given as goal

abbrev pub invariant-loop-place : goal.invariant-loop-place
invariant-loop-place l = record {
  inside : l.place ≤ length l.codes;
  rest : l.out.items ++ unpacked (drop l.place l.codes) ≡ unpacked l.codes;
}

abbrev pub decreases-loop-place : goal.decreases-loop-place
decreases-loop-place l = length l.codes - l.place
