-- The seats of layers joined to one.
use Rattle.lw_locks.proofs.Seats.{longer_by, longer_on}
use Rattle.lw_locks.proofs.Closing.{taken_more, roles_more}
use Rattle.lw_locks.proofs.close.+join_layers.Goals as goal

pub returns-clause-longer : goal.returns-clause-longer
returns-clause-longer g t c =
    let desk = g.N.Opening.desk in
    let mid = c.join_layers.new.seat in
    longer_on c.args.seat.now mid c.join.new.seat c.join_layers.ensures.longer (longer_by desk mid c.layer.inside.seat c.join.new.seat c.join.ensures)

pub returns-clause-roles : goal.returns-clause-roles
returns-clause-roles g t c =
    let own = c.layer.inside in
    roles_more g.N.Opening.desk c.join_layers.new.seat own.seat c.join.new.seat c.args.seat.now.roles c.join_layers.new.taken.items c.push_reserved.new.self.items own.slot own.cell
    c.join.ensures c.join_layers.ensures.roles c.layer.invariant.roles c.push_reserved.ensures.items

pub returns-clause-taken : goal.returns-clause-taken
returns-clause-taken g t c =
    let e = g.E.Engine in
    let own = c.layer.inside in
    taken_more e.relations g.N.Opening.desk c.join_layers.new.seat own.seat c.join.new.seat c.join_layers.new.taken.items c.push_reserved.new.self.items own.slot own.cell
    c.join.ensures c.join_layers.ensures.taken c.layer.invariant.number c.layer.invariant.cell c.push_reserved.ensures.items
