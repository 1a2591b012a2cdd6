use Rattle.std.proofs.Common.{◌≡◌, [], map}
use Rattle.std.specs.List.{range_with_len}
use Rattle.lw_gen.proofs.plan.no_groups.Given as goal

abbrev pub invariant-loop : goal.invariant-loop
invariant-loop l = map (λ groups. groups.items) l.lists.items ≡ map (λ task. []) (range_with_len 0 l.counter)
