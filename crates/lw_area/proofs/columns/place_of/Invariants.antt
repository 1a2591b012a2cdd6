use Rattle.std.proofs.Common.{◌≡◌, ◌+◌, drop}
use Rattle.std.specs.Prelude.{int_lt}
use Rattle.std.specs.List.{prefix_len}
use Rattle.lw_area.proofs.columns.place_of.Given as goal

abbrev pub invariant-loop-i : goal.invariant-loop-i
invariant-loop-i l = prefix_len (λ c. int_lt c l.column) l.columns ≡ l.i + prefix_len (λ c. int_lt c l.column) (drop l.i l.columns)
