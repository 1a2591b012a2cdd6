use Rattle.std.proofs.Common.{◌≡◌}
use Rattle.lw_machine.specs.Desk.{Desk}
use Rattle.lw_runs.specs.Standing.{StandForDesk}
use Rattle.lw_desk_tests.proofs.tests_part.make_calls.Given as goal

abbrev pub invariant-loop-call : goal.invariant-loop-call
invariant-loop-call g l =
    (d : Desk)
    × StandForDesk g.E.Engine.relations (g.E.Engine.sizes l.engine) (g.E.Engine.assets l.engine) l.parts.info l.parts.cells.items l.parts.registers.items d
