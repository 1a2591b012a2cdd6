-- A desk before its first call, from the first seat and the values that stand for the parts of the empty desk.
use Rattle.std.proofs.Common.{◌∙◌, refl, subst, sym, arith, vec_len}
use Rattle.std.specs.Prelude.{Contains}
use Rattle.lw_calls.specs.declared.touch.Role.TheVariants.{Info}
use Rattle.lw_locks.proofs.Starting.{info_at_start, has_slots, has_tasks}
use Rattle.lw_locks.proofs.desk.Desk.start.Goals as goal

pub split-seat-requires-clause-role : goal.split-seat-requires-clause-role
split-seat-requires-clause-role g c = subst (λ rs. Contains rs Info) (sym c.requires.roles) (0, omega arith, refl)

pub put_layers-requires-clause-roles : goal.put_layers-requires-clause-roles
put_layers-requires-clause-roles g c κs within =
    let sizes = g.N.Opening.desk.sizes in
    has_slots sizes.slots sizes.tasks c.args.seat.roles c.requires.roles (vec_len c.args.cells) c.split-seat.new.seat.roles c.requires.slots c.split-seat.ensures.left

pub put_passes-requires-clause-roles : goal.put_passes-requires-clause-roles
put_passes-requires-clause-roles g c κs within =
    let sizes = g.N.Opening.desk.sizes in
    λ t below. c.in_ok-put_layers.ensures.tasks t
    (has_tasks sizes.slots sizes.tasks c.args.seat.roles c.requires.roles (vec_len c.args.regs) c.split-seat.new.seat.roles c.requires.tasks c.split-seat.ensures.left t below)

pub invariant_of-info : goal.invariant_of-info
invariant_of-info g c =
    let desk = g.N.Opening.desk in
    info_at_start g.E.Engine.relations g.N.Opening.word desk c.split-seat.result c.args.info
    (c.split-seat.ensures.words.1 ∙ c.requires.seat_word) (c.split-seat.ensures.histories.1 ∙ c.requires.history) c.split-seat.ensures.given c.requires.info
