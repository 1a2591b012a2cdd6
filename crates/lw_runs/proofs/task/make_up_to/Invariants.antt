use Rattle.std.proofs.Common.{◌≡◌, length}
use Rattle.lw_runs.specs.Made.{HasBegun}
use Rattle.lw_runs.proofs.task.make_up_to.Given as goal

abbrev pub invariant-loop-next : goal.invariant-loop-next
invariant-loop-next g l =
    (l.pass.task ≡ l.initial.pass.task)
    × (length l.answers.items ≡ l.next)
    × HasBegun g.N.Opening.desk l.plan l.initial.pass.task l.pass.history l.answers.items
