use Rattle.std.proofs.Common.{IfOk, OnErr, sym, subst}
use Rattle.lw_engine_trait.specs.Steps.{IsAllStep, AreStill}
use Rattle.lw_engine.specs.Layers.{InfoView, layer_relations, AreLayers}
use Rattle.lw_engine.proofs.LayerLaws.{numbered_cells, layers_of_desk, all_made, all_still}
use Rattle.lw_engine.proofs.layer_engine.LayerEngineEngine.all.Goals as goal

pub on_all-requires-clause-cells : goal.on_all-requires-clause-cells
on_all-requires-clause-cells g c =
    let a = c.args in
    let f = c.info.inside in
    let sizes = a.self.now.sizes in
    let assets = a.self.now.assets.now in
    let d = c.requires.desk.0 in
    let P : InfoView → Type 0 = λ i. AreLayers sizes assets i a.cells.now d in
    numbered_cells sizes assets (record { stack = f.info; shelf = f.shelf }) a.cells.now d (subst P (sym c.info.view_is) c.requires.desk.1)

pub on_all-requires-clause-desk : goal.on_all-requires-clause-desk
on_all-requires-clause-desk g c =
    let a = c.args in
    let f = c.info.inside in
    let sizes = a.self.now.sizes in
    let assets = a.self.now.assets.now in
    let d = c.requires.desk.0 in
    let P : InfoView → Type 0 = λ i. AreLayers sizes assets i a.cells.now d in
    (d, layers_of_desk sizes assets (record { stack = f.info; shelf = f.shelf }) a.cells.now d (subst P (sym c.info.view_is) c.requires.desk.1))

pub returns-clause-step : goal.returns-clause-step
returns-clause-step g c =
    let a = c.args in
    let f = c.info.inside in
    let sizes = a.self.now.sizes in
    let assets = a.self.now.assets.now in
    let old : InfoView = record { stack = f.info; shelf = f.shelf } in
    let all = c.on_all.ensures in
    let v = c.on_all.new.info in
    let shelf = c.on_all.new.shelf in
    let new = c.on_all.new.slots in
    let P : InfoView → Type 0 = λ i. AreLayers sizes assets i a.cells.now c.requires.desk.0 in
    let first = (subst P (sym c.info.view_is) c.requires.desk.1).info.sizes in
    let Step : InfoView → Type 0 = λ i.
    IfOk c.on_all.result (λ r. IsAllStep layer_relations sizes assets i a.cells.now a.task a.call.now r (record { stack = v; shelf = shelf }) new)
    in
    subst Step c.info.view_is
    (all_made c.on_all.result sizes assets old v shelf a.cells.now new a.task a.call.now first all.sizes all.cells all.step)

pub returns-clause-unchanged : goal.returns-clause-unchanged
returns-clause-unchanged g c =
    let a = c.args in
    let f = c.info.inside in
    let sizes = a.self.now.sizes in
    let assets = a.self.now.assets.now in
    let old : InfoView = record { stack = f.info; shelf = f.shelf } in
    let v = c.on_all.new.info in
    let shelf = c.on_all.new.shelf in
    let new = c.on_all.new.slots in
    let Still : InfoView → Type 0 = λ i.
    OnErr c.on_all.result (AreStill layer_relations sizes assets i a.cells.now (record { stack = v; shelf = shelf }) new)
    in
    subst Still c.info.view_is (all_still c.on_all.result sizes assets old v shelf a.cells.now new c.on_all.ensures.unchanged)
