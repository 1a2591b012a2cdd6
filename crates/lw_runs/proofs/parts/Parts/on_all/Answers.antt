use Rattle.std.proofs.Common.{◌≡◌, List, length, IfOk, OnErr, ◌∙◌, sym, subst}
use Rattle.std.proofs.lemmas.List.{with_items_is}
use Rattle.lw_runs.specs.Standing.{IsStep, StandStill}
use Rattle.lw_runs.proofs.PartsLaws.{all_step, all_still}
use Rattle.lw_runs.proofs.parts.Parts.on_all.Goals as goal

pub returns-clause-step : goal.returns-clause-step
returns-clause-step g c =
    let e = g.E.Engine in
    let a = c.args in
    let p = a.self.now in
    let sizes = e.sizes a.engine.now in
    let assets = e.assets a.engine.now in
    let new = c.all.new.cells in
    let long : length new ≡ p.cells.len = c.all.auto.cells ∙ c.as_mut_slice.ensures.len in
    let Left : List g.row.E-Cell.Denot → Type 0 = λ q.
    IfOk c.all.result (λ r. IsStep e.relations sizes assets p.info q p.registers.items a.task a.call.now r c.all.new.info new p.registers.items)
    in
    let Made : List g.row.E-Cell.Denot → Type 0 = λ q.
    IfOk c.all.result (λ r. IsStep e.relations sizes assets p.info p.cells.items p.registers.items a.task a.call.now r c.all.new.info q p.registers.items)
    in
    subst Made (sym (with_items_is p.cells new long))
    (subst Left c.as_mut_slice.ensures.value
    (all_step e.relations sizes assets c.all.result p.info c.all.new.info c.as_mut_slice.result.now new p.registers.items a.task a.call.now c.requires.class c.all.ensures.step))

pub returns-clause-unchanged : goal.returns-clause-unchanged
returns-clause-unchanged g c =
    let e = g.E.Engine in
    let a = c.args in
    let p = a.self.now in
    let sizes = e.sizes a.engine.now in
    let assets = e.assets a.engine.now in
    let new = c.all.new.cells in
    let long : length new ≡ p.cells.len = c.all.auto.cells ∙ c.as_mut_slice.ensures.len in
    let Left : List g.row.E-Cell.Denot → Type 0 = λ q.
    OnErr c.all.result (StandStill e.relations sizes assets p.info q p.registers.items c.all.new.info new p.registers.items)
    in
    let Made : List g.row.E-Cell.Denot → Type 0 = λ q.
    OnErr c.all.result (StandStill e.relations sizes assets p.info p.cells.items p.registers.items c.all.new.info q p.registers.items)
    in
    subst Made (sym (with_items_is p.cells new long))
    (subst Left c.as_mut_slice.ensures.value
    (all_still e.relations sizes assets c.all.result p.info c.all.new.info c.as_mut_slice.result.now new p.registers.items c.all.ensures.unchanged))
