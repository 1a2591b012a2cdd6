use Rattle.std.proofs.Common.{◌∙◌, ◌<◌, sym, ap, arith}
use Rattle.lw_calls.specs.declared.sizes.Sizes.{Sizes}
use Rattle.lw_program_desk.proofs.ReadLaws.{none_repainted, layer_repainted}
use Rattle.lw_program_desk.proofs.program_desk.ProgramDesk.may_repaint_frame.Goals as goal

pub returns-in-Some : goal.returns-in-Some
returns-in-Some c = λ d stands.
    let v = c.args.self.now in
    let same = ap (λ (z : Sizes). z.slots) c.limited_sizes.ensures.value in
    let low : c.args.slot < v.sizes.slots = omega (arith, same) in
    c.may_repaint_frame.ensures
    ∙ layer_repainted v.sizes v.assets c.held.result.now d c.args.slot c.cells.result.now (c.held.ensures.stand d stands) low
    c.cells.ensures c.in-Some.layer.now c.in-Some.ensures

pub returns-in-None : goal.returns-in-None
returns-in-None c = λ d stands.
    let v = c.args.self.now in
    let same = ap (λ (z : Sizes). z.slots) c.limited_sizes.ensures.value in
    let low : c.args.slot < v.sizes.slots = omega (arith, same) in
    sym (none_repainted v.sizes v.assets c.held.result.now d c.args.slot c.cells.result.now (c.held.ensures.stand d stands) low
    c.cells.ensures c.in-None.ensures)
