use Rattle.std.proofs.Common.{◌+◌, ◌≤◌, List, length, drop, slice_index_or, arith}
use Rattle.std.proofs.lemmas.List.{drop_all}
use Rattle.lw_machine.specs.Hook.{Hook}
use Rattle.lw_machine.specs.History.{machine}
use Rattle.lw_machine.specs.Finals.{opening_desk}
use Rattle.lw_runs.specs.Standing.{StandForDesk}
use Rattle.lw_runs.proofs.Going.{going_turn, going_task, going_left, going_next, going_end}
use Rattle.lw_runs.proofs.run.Run.make_all.Goals as goal

pub make_next-requires-clause-task : goal.make_next-requires-clause-task
make_next-requires-clause-task g c κs within =
    let plan = c.args.plan.now in
    let hooks : List Hook = c.requires.opened.0 in
    let order = c.args.tasks.now in
    let i = c.loop-task.task-index in
    let run = c.loop-task.self in
    let e = g.E.Engine in
    let engine = c.args.engine.now in
    let p = run.parts in
    let standing = StandForDesk e.relations (e.sizes engine) (e.assets engine) p.info p.cells.items p.registers.items in
    going_task plan hooks order (drop (i + 1) order) standing run.told.items (slice_index_or order i 0) c.requires.plan (going_turn plan hooks order i standing run.told.items c.loop-task-test.true (c.loop-task.invariant hooks c.requires.opened.1))

pub make_next-requires-clause-left : goal.make_next-requires-clause-left
make_next-requires-clause-left g c κs within =
    let plan = c.args.plan.now in
    let hooks : List Hook = c.requires.opened.0 in
    let order = c.args.tasks.now in
    let i = c.loop-task.task-index in
    let run = c.loop-task.self in
    let e = g.E.Engine in
    let engine = c.args.engine.now in
    let p = run.parts in
    let standing = StandForDesk e.relations (e.sizes engine) (e.assets engine) p.info p.cells.items p.registers.items in
    going_left plan hooks order (drop (i + 1) order) standing run.told.items (slice_index_or order i 0) c.requires.plan (going_turn plan hooks order i standing run.told.items c.loop-task-test.true (c.loop-task.invariant hooks c.requires.opened.1))

pub loop-task-preserved : goal.loop-task-preserved
loop-task-preserved g c =
    let plan = c.args.plan.now in
    let order = c.args.tasks.now in
    let i = c.loop-task.task-index in
    let run = c.loop-task.self in
    let e = g.E.Engine in
    let engine = c.args.engine.now in
    let p = run.parts in
    let standing = StandForDesk e.relations (e.sizes engine) (e.assets engine) p.info p.cells.items p.registers.items in
    let next = c.make_next.new.self in
    let q = next.parts in
    let after = StandForDesk e.relations (e.sizes engine) (e.assets engine) q.info q.cells.items q.registers.items in
    λ hooks opened. going_next plan hooks order (drop (i + 1) order) standing after run.told.items next.told.items (slice_index_or order i 0) (c.in_ok-make_next.ensures hooks) (going_turn plan hooks order i standing run.told.items c.loop-task-test.true (c.loop-task.invariant hooks opened))

pub make_next-requires-clause-desk : goal.make_next-requires-clause-desk
make_next-requires-clause-desk g c κs within =
    let hooks : List Hook = c.requires.opened.0 in
    let going = c.loop-task.invariant hooks c.requires.opened.1 in
    (machine (opening_desk c.args.plan.now hooks) going.past, going.run.stands)

pub make_next-requires-clause-lists : goal.make_next-requires-clause-lists
make_next-requires-clause-lists g c κs within = (c.loop-task.invariant c.requires.opened.0 c.requires.opened.1).run.lists

pub returns : goal.returns
returns g c =
    let order = c.args.tasks.now in
    let i = c.loop-task.task-index in
    let run = c.loop-task.self in
    let e = g.E.Engine in
    let engine = c.args.engine.now in
    let p = run.parts in
    let standing = StandForDesk e.relations (e.sizes engine) (e.assets engine) p.info p.cells.items p.registers.items in
    let done : length order ≤ i = omega (arith, c.loop-task-test.false) in
    λ hooks opened. going_end c.args.plan.now hooks order (drop i order) standing run.told.items (drop_all i order done) (c.loop-task.invariant hooks opened)
