use Rattle.std.proofs.Common.{◌∙◌, Option, Some, option_map, List, sym, ap, subst}
use Rattle.lw_region.specs.Rectangle.{Rectangle}
use Rattle.lw_region.specs.Banded.{IsCanonical}
use Rattle.lw_calls.specs.declared.last.Seen.{Seen}
use Rattle.lw_program_desk.proofs.ReadLaws.{none_seen, visible_told}
use Rattle.lw_program_desk.proofs.program_desk.ProgramDesk.visible.Goals as goal

pub returns-in_default : goal.returns-in_default
returns-in_default c = λ d stands.
    let v = c.args.self.now in
    let p = c.held.result.now in
    let cells = c.cells.result.now in
    let are = c.held.ensures.stand d stands in
    ap (λ (o : Option Seen). option_map (λ (it : Seen). it.visible) o)
    (none_seen v.sizes v.assets p d c.args.slot cells are c.requires c.cells.ensures c.in_default.ensures)

pub returns : goal.returns
returns c = λ d stands.
    let v = c.args.self.now in
    let p = c.held.result.now in
    let cells = c.cells.result.now in
    let are = c.held.ensures.stand d stands in
    visible_told v.sizes v.assets p d c.args.slot cells are c.requires c.cells.ensures
    c.in-Some.layer.now c.in-Some.ensures (subst IsCanonical c.visible.ensures.value c.visible.ensures.canonical)
    ∙ ap (λ (rects : List Rectangle). Some rects) (sym c.visible.ensures.value)
