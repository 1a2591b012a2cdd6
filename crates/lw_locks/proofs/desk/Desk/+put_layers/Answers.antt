-- Cells put behind locks, the last one taken first.
use Rattle.std.proofs.Common.{◌≡◌, ◌∙◌, length, vec_len}
use Rattle.lw_locks.proofs.Starting.{layer_at_start, cells_front, cell_last, slots_left, tasks_stay}
use Rattle.lw_locks.proofs.desk.Desk.+put_layers.Goals as goal

pub put_layers-requires-clause-roles : goal.put_layers-requires-clause-roles
put_layers-requires-clause-roles g t c κs within =
    slots_left c.len-slot.result (vec_len c.pop.new.self) (vec_len c.args.cells.now) c.args.seat.now.roles c.split-own.new.seat.roles c.len-slot.ensures c.in-Some.ensures.cases c.split-own.ensures.left c.requires.roles

pub put_layers-requires-clause-cells : goal.put_layers-requires-clause-cells
put_layers-requires-clause-cells g t c κs within =
    cells_front g.E.Engine.relations g.N.Opening.desk c.args.cells.now.items c.pop.new.self.items c.in-Some.cell c.in-Some.ensures.items c.requires.cells

pub invariant_of-layer : goal.invariant_of-layer
invariant_of-layer g t c =
    let place : c.len-slot.result ≡ length c.pop.new.self.items = c.len-slot.ensures ∙ c.pop.new.self.ok.0 in
    layer_at_start g.E.Engine.relations g.N.Opening.word g.N.Opening.desk c.len-slot.result c.split-own.result c.in-Some.cell
    (c.split-own.ensures.words.1 ∙ c.requires.seat_word) (c.split-own.ensures.histories.1 ∙ c.requires.history) c.split-own.ensures.given
    (cell_last g.E.Engine.relations g.N.Opening.desk c.args.cells.now.items c.pop.new.self.items c.in-Some.cell c.in-Some.ensures.items c.requires.cells c.len-slot.result place)

pub returns-clause-tasks : goal.returns-clause-tasks
returns-clause-tasks g t c =
    tasks_stay c.len-slot.result c.args.seat.now.roles c.split-own.new.seat.roles c.put_layers.new.seat.roles c.split-own.ensures.left c.in_ok-put_layers.ensures.tasks
