use Rattle.std.proofs.Common.{◌≡◌, Option, Some, None, MatchOption, List, sym, ap, subst}
use Rattle.lw_calls.specs.declared.message.Message.{Message}
use Rattle.lw_program_desk.specs.Read.{port_in}
use Rattle.lw_program_desk.proofs.ReadLaws.{none_seen, messages_told}
use Rattle.lw_program_desk.proofs.program_desk.ProgramDesk.messages.Goals as goal

pub returns-in_default : goal.returns-in_default
returns-in_default c = λ d stands.
    let v = c.args.self.now in
    let p = c.held.result.now in
    let cells = c.cells.result.now in
    let are = c.held.ensures.stand d stands in
    ap port_in
    (none_seen v.sizes v.assets p d c.args.slot cells are c.requires c.cells.ensures c.in_default.ensures)

pub returns : goal.returns
returns c = λ d stands.
    let v = c.args.self.now in
    let p = c.held.result.now in
    let cells = c.cells.result.now in
    let are = c.held.ensures.stand d stands in
    let P : Option (List Message) → Type 0 = λ o. MatchOption c.messages_of.result (o ≡ None) (λ list. o ≡ Some list.now) in
    subst P
    (sym (messages_told v.sizes v.assets p d c.args.slot cells are c.requires c.cells.ensures c.in-Some.layer.now c.in-Some.ensures))
    c.messages_of.ensures
