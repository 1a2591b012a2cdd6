use Rattle.std.proofs.Common.{◌≡◌, List, length, Some, ◌∙◌, sym, subst}
use Rattle.std.specs.List.{slice_get}
use Rattle.std.proofs.lemmas.List.{with_items_is}
use Rattle.lw_runs.specs.Standing.{IsStep, IsSetTo, IsTwoDone}
use Rattle.lw_runs.proofs.ListLaws.{has_entry}
use Rattle.lw_runs.proofs.PartsLaws.{two_step}
use Rattle.lw_runs.proofs.parts.Parts.on_layers.Goals as goal

pub returns : goal.returns
returns g c =
    λ task.
    let e = g.E.Engine in
    let a = c.args in
    let p = a.self.now in
    let sizes = e.sizes a.engine.now in
    let assets = e.assets a.engine.now in
    let cells = p.cells.items in
    let new = c.on_two.new.cells in
    let first = has_entry cells a.source c.requires.source in
    let second = has_entry cells a.slot c.requires.slot in
    let Lent : List g.row.E-Cell.Denot → Type 0 = λ q.
    (x y : g.row.E-Cell.Denot) → slice_get q a.source ≡ Some x → slice_get q a.slot ≡ Some y
    → IsSetTo (IsTwoDone e.relations sizes assets x y a.call.now c.on_two.result) a.slot q new
    in
    let done = subst Lent c.as_mut_slice.ensures.value c.on_two.ensures first.0 second.0 first.1 second.1 in
    let long : length new ≡ p.cells.len = c.on_two.auto.cells ∙ c.as_mut_slice.ensures.len in
    let Made : List g.row.E-Cell.Denot → Type 0 = λ q.
    IsStep e.relations sizes assets p.info cells p.registers.items task a.call.now c.on_two.result p.info q p.registers.items
    in
    subst Made (sym (with_items_is p.cells new long ∙ done.set))
    (two_step e.relations sizes assets c.on_two.result p.info cells p.registers.items task a.source a.slot a.call.now first.0 second.0 done.value
    c.requires.fits c.requires.class first.1 (c.requires.numbers a.source first.0 first.1) second.1 (c.requires.numbers a.slot second.0 second.1) done.holds.number done.holds.step)
