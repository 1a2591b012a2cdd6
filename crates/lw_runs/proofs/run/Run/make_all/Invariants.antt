use Rattle.std.proofs.Common.{List, [], drop}
use Rattle.lw_machine.specs.Hook.{Hook}
use Rattle.lw_runs.specs.Run.{HasRun}
use Rattle.lw_runs.specs.Standing.{StandForDesk}
use Rattle.lw_runs.proofs.Going.{IsGoing}
use Rattle.lw_runs.proofs.run.Run.make_all.Given as goal

abbrev pub invariant-loop-task : goal.invariant-loop-task
invariant-loop-task g l =
    let e = g.E.Engine in
    let old = l.initial.self.parts in
    let now = l.self.parts in
    (hooks : List Hook)
    → HasRun l.plan hooks [] (StandForDesk e.relations (e.sizes l.engine) (e.assets l.engine) old.info old.cells.items old.registers.items) l.initial.self.told.items
    → IsGoing l.plan hooks l.tasks (drop l.task-index l.tasks)
    (StandForDesk e.relations (e.sizes l.engine) (e.assets l.engine) now.info now.cells.items now.registers.items) l.self.told.items
