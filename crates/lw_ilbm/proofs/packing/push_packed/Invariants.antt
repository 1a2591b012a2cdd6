use Rattle.std.proofs.Common.{◌-◌, ◌≡◌, ◌≤◌, ◌++◌, length, drop}
use Rattle.lw_ilbm.specs.Packing.{packed}
use Rattle.lw_ilbm.proofs.packing.push_packed.Given as goal

abbrev pub invariant-loop-place : goal.invariant-loop-place
invariant-loop-place l = record {
  inside : l.place ≤ length l.row;
  rest : l.out.items ++ packed (drop l.place l.row) ≡ l.initial.out.items ++ packed l.row;
}

abbrev pub decreases-loop-place : goal.decreases-loop-place
decreases-loop-place l = length l.row - l.place
