-- A group for whose answers there was no room.
use Rattle.std.proofs.Common.{sym, subst}
use Rattle.lw_locks.specs.Called.{CalledEach}
use Rattle.lw_locks.proofs.Running.{called_none}
use Rattle.lw_locks.proofs.desk.Desk.under_hold.Goals as goal

pub returns-in_err-reserve : goal.returns-in_err-reserve
returns-in_err-reserve g c =
    let desk = g.N.Opening.desk in
    let pass = c.args.pass.now in
    let had = c.args.answers.now.items in
    let none = called_none desk c.args.hold pass c.args.calls.now had c.from_residual.result c.requires.may.some c.from_residual.ensures.0 in
    subst (λ has. CalledEach desk c.args.hold pass pass c.args.calls.now had has c.from_residual.result) (sym c.reserve.ensures.items) none
