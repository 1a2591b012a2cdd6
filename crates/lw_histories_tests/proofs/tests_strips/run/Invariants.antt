use Rattle.lw_machine.specs.Desk.{Desk}
use Rattle.lw_engine.specs.Layers.{layer_relations}
use Rattle.lw_runs.specs.Standing.{StandForDesk}
use Rattle.lw_histories_tests.proofs.tests_strips.run.Given as goal

abbrev pub invariant-loop-call : goal.invariant-loop-call
invariant-loop-call g l =
    (d : Desk) × StandForDesk layer_relations l.engine.sizes l.engine.assets.now l.parts.info l.parts.cells.items l.parts.registers.items d
