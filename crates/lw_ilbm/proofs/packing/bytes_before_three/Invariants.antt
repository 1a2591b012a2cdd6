use Rattle.std.proofs.Common.{◌-◌, ◌≡◌, ◌+◌, ◌≤◌, length, drop}
use Rattle.lw_ilbm.specs.Packing.{bytes_before_three, code_limit}
use Rattle.lw_ilbm.proofs.packing.bytes_before_three.Given as goal

abbrev pub invariant-loop-count : goal.invariant-loop-count
invariant-loop-count l = record {
  few : l.count ≤ code_limit;
  inside : l.count ≤ length l.bytes;
  sum : bytes_before_three l.bytes ≡ l.count + bytes_before_three (drop l.count l.bytes);
}

abbrev pub decreases-loop-count : goal.decreases-loop-count
decreases-loop-count l = 128 - l.count
