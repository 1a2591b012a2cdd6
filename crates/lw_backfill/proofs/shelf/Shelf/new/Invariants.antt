use Rattle.std.proofs.Common.{◌≡◌, map, Some}
use Rattle.lw_backfill.proofs.shelf.Shelf.new.Given as goal

abbrev pub invariant-loop-hook : goal.invariant-loop-hook
invariant-loop-hook g l = l.held.items ≡ map (λ x. Some x) l.yielded
