use Rattle.std.proofs.Common.{map}
use Rattle.lw_machine.specs.Finals.{opening_desk}
use Rattle.lw_tasks.proofs.running.run_tasks.Given as goal

abbrev pub ghosts-run_on : goal.ghosts-run_on
ghosts-run_on g a = record { word = a.order.word; desk = opening_desk a.plan.now (map (λ b. g.B.Backfill.hook b) a.hooks.items) }
