use Rattle.std.proofs.Common.{◌≡◌, ◌++◌, ◌-◌}
use Rattle.lw_gen.specs.Generator.{calls_from}
use Rattle.lw_gen.proofs.generator.push_calls.Given as goal

-- the calls so far and those that are left are all
abbrev pub invariant-loop : goal.invariant-loop
invariant-loop l =
    l.calls.items ++ calls_from (l.count - l.counter) l.first l.columns l.word
    ≡ l.fn.calls.items ++ calls_from l.count l.first l.columns l.fn.word
