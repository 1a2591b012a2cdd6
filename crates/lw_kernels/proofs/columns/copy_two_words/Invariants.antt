use Rattle.std.proofs.Common.{◌+◌, ◌-◌, ◌≤◌, nat_lt}
use Rattle.lw_planes.specs.Row.{row_bit}
use Rattle.lw_kernels.specs.Kernel.{place_in}
use Rattle.lw_kernels.proofs.SpanLaws.{RowsDone}
use Rattle.lw_kernels.proofs.columns.copy_two_words.Given as goal

-- the bits before these are done in each row
abbrev pub invariant-loop-done : goal.invariant-loop-done
invariant-loop-done l = record {
  few : l.done ≤ l.count;
  columns : RowsDone l.to_step l.to_bit (l.to_bit + l.done) l.to (λ y. nat_lt y l.rows) (λ y x. row_bit l.source (place_in l.source_step y (l.source_bit + (x - l.to_bit)))) (λ p. row_bit l.initial.to p);
}

abbrev pub decreases-loop-done : goal.decreases-loop-done
decreases-loop-done l = l.count - l.done
