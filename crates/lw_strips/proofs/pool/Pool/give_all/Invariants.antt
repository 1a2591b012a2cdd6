use Rattle.std.proofs.Common.{◌≡◌, ◌+◌, ◌≤◌, ◌++◌, reverse, length}
use Rattle.lw_strips.proofs.pool.Pool.give_all.Given as goal

abbrev pub invariant-loop-strip : goal.invariant-loop-strip
invariant-loop-strip l = record {
  pool : l.self.strips ++ reverse l.strips.items ≡ l.initial.self.strips ++ reverse l.initial.strips.items;
  spare : l.self.spare + length l.initial.strips.items ≡ l.initial.self.spare + length l.strips.items;
  room : length l.strips.items ≤ l.self.spare;
}

abbrev pub decreases-loop-strip : goal.decreases-loop-strip
decreases-loop-strip l = length l.strips.items
