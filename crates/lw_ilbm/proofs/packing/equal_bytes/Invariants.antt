use Rattle.std.proofs.Common.{◌-◌, ◌≡◌, ◌+◌, ◌≤◌, slice_index, length, drop}
use Rattle.lw_ilbm.specs.Packing.{equal_bytes, code_limit}
use Rattle.lw_ilbm.proofs.packing.equal_bytes.Given as goal

abbrev pub invariant-loop-count : goal.invariant-loop-count
invariant-loop-count l = record {
  some : 1 ≤ l.count;
  few : l.count ≤ code_limit;
  inside : l.count ≤ length l.bytes;
  sum : equal_bytes (slice_index l.bytes 0) l.bytes ≡ l.count + equal_bytes (slice_index l.bytes 0) (drop l.count l.bytes);
}

abbrev pub decreases-loop-count : goal.decreases-loop-count
decreases-loop-count l = 128 - l.count
