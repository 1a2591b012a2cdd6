use Rattle.lw_machine.specs.Desk.{Desk}
use Rattle.lw_runs.specs.Standing.{StandForDesk}
use Rattle.lw_bench_c.proofs.drawing.make_often.Given as goal

abbrev pub invariant-loop-turn : goal.invariant-loop-turn
invariant-loop-turn g l =
    let e = g.E.Engine in
    (d : Desk) × StandForDesk e.relations (e.sizes l.engine) (e.assets l.engine) l.parts.info l.parts.cells.items l.parts.registers.items d
