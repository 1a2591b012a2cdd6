use Rattle.std.proofs.Common.{◌≡◌, ◌<◌, IfOk, ◌∙◌, sym, ap, subst, arith}
use Rattle.std.proofs.lemmas.Result.{IfOk-weaker}
use Rattle.lw_calls.specs.declared.sizes.Sizes.{Sizes}
use Rattle.lw_engine.specs.Layers.{InfoView, AreLayers}
use Rattle.lw_engine.specs.Owners.{IsAssembled}
use Rattle.lw_engine.proofs.LayerLaws.{numbered_cells, layers_of_desk}
use Rattle.lw_engine.proofs.layer_engine.LayerEngine.finish.Goals as goal

pub finish-requires-clause-cells : goal.finish-requires-clause-cells
finish-requires-clause-cells g c =
    let a = c.args in
    let f = c.info.inside in
    let sizes = a.self.now.sizes in
    let assets = a.self.now.assets.now in
    let d = c.requires.desk.0 in
    let P : InfoView → Type 0 = λ i. AreLayers sizes assets i a.slots.now d in
    numbered_cells sizes assets (record { stack = f.info; shelf = f.shelf }) a.slots.now d (subst P (sym c.info.view_is) c.requires.desk.1)

pub finish-requires-clause-tasks : goal.finish-requires-clause-tasks
finish-requires-clause-tasks g c =
    let a = c.args in
    let P : InfoView → Type 0 = λ i. AreLayers a.self.now.sizes a.self.now.assets.now i a.slots.now c.requires.desk.0 in
    c.requires.tasks ∙ ap (λ (s : Sizes). s.tasks) (sym (subst P (sym c.info.view_is) c.requires.desk.1).info.sizes)

pub finish-requires-clause-desk : goal.finish-requires-clause-desk
finish-requires-clause-desk g c =
    let a = c.args in
    let f = c.info.inside in
    let sizes = a.self.now.sizes in
    let assets = a.self.now.assets.now in
    let d = c.requires.desk.0 in
    let P : InfoView → Type 0 = λ i. AreLayers sizes assets i a.slots.now d in
    (d, layers_of_desk sizes assets (record { stack = f.info; shelf = f.shelf }) a.slots.now d (subst P (sym c.info.view_is) c.requires.desk.1))

pub returns-clause-final_state : goal.returns-clause-final_state
returns-clause-final_state g c =
    let a = c.args in
    let f = c.info.inside in
    let sizes = a.self.now.sizes in
    let assets = a.self.now.assets.now in
    let first : f.info.sizes.tasks ≡ sizes.tasks =
    (let P : InfoView → Type 0 = λ i. AreLayers sizes assets i a.slots.now c.requires.desk.0 in
    ap (λ (s : Sizes). s.tasks) (subst P (sym c.info.view_is) c.requires.desk.1).info.sizes)
    in
    IfOk-weaker c.finish.result _ _
    (λ last left d rs parts given.
    let P : InfoView → Type 0 = λ i. AreLayers sizes assets i a.slots.now d in
    left d rs (layers_of_desk sizes assets (record { stack = f.info; shelf = f.shelf }) a.slots.now d (subst P (sym c.info.view_is) parts))
    (λ t low. given t (let under : t < sizes.tasks = omega (arith, low, first) in under)))
    c.finish.ensures.final_state

pub returns-clause-assembled : goal.returns-clause-assembled
returns-clause-assembled g c =
    let f = c.info.inside in
    let P : InfoView → Type 0 = λ i. IfOk c.finish.result (λ last. IsAssembled i.stack c.args.slots.now last.planes) in
    subst P c.info.view_is c.finish.ensures.assembled
