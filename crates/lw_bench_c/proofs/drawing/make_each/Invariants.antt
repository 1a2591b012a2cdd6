use Rattle.lw_machine.specs.Desk.{Desk}
use Rattle.lw_runs.specs.Standing.{StandForDesk}
use Rattle.lw_bench_c.proofs.drawing.make_each.Given as goal

abbrev pub invariant-loop-call : goal.invariant-loop-call
invariant-loop-call g l =
    let e = g.E.Engine in
    (d : Desk) × StandForDesk e.relations (e.sizes l.engine) (e.assets l.engine) l.parts.info l.parts.cells.items l.parts.registers.items d
