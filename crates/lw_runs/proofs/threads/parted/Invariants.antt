use Rattle.std.proofs.Common.{◌≡◌, map}
use Rattle.std.specs.Prelude.{Ok}
use Rattle.lw_runs.proofs.threads.parted.Given as goal

abbrev pub invariant-loop-run : goal.invariant-loop-run
invariant-loop-run g l = (l.passes.items ≡ map (λ run. run.pass) l.yielded) × (map (λ told. Ok told) l.all.items ≡ map (λ run. run.told) l.yielded)
