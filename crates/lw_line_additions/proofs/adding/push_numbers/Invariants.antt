use Rattle.std.proofs.Common.{◌≡◌, ◌++◌, map, take, unsigned_abs}
use Rattle.lw_line_additions.proofs.adding.push_numbers.Given as goal

-- the numbers so far stand after those that were there
abbrev pub invariant-loop-number : goal.invariant-loop-number
invariant-loop-number l = l.order.items ≡ l.initial.order.items ++ map unsigned_abs (take l.number-index l.numbers)
