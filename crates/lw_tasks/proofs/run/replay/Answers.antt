use Rattle.std.proofs.Common.{◌≡◌, ℕ, ◌<◌, List, [], map, length, ◌∙◌, sym, ap, subst, arith}
use Rattle.std.proofs.lemmas.Result.{IfOk-weaker}
use Rattle.lw_calls.specs.declared.sizes.Sizes.{Sizes}
use Rattle.lw_calls.specs.Entries.{entries}
use Rattle.lw_machine.specs.Hook.{Hook}
use Rattle.lw_machine.specs.History.{machine, replies_of}
use Rattle.lw_machine.specs.Finals.{opening_desk}
use Rattle.lw_layer.specs.View.{CellView}
use Rattle.lw_engine.specs.Layers.{AreLayers}
use Rattle.lw_runs.specs.Run.{HasRun}
use Rattle.lw_tasks.proofs.Opening.{Standing, plan_opened}
use Rattle.lw_tasks.proofs.run.replay.Goals as goal

pub finish-requires-clause-tasks : goal.finish-requires-clause-tasks
finish-requires-clause-tasks g c =
    let plan = c.args.plan.now in
    let hooks : List Hook = map (λ b. g.B.Backfill.hook b) c.args.hooks.items in
    let engine = c.new-engine.result in
    let o = c.in_ok-opened.opened in
    let first = c.in_ok-opened.ensures {u = tt} in
    let of_plan : engine.sizes ≡ plan.sizes = c.new-engine.ensures.sizes ∙ c.sizes.ensures.value in
    let many : length o.registers.items ≡ engine.sizes.tasks = sym o.registers.ok.0 ∙ first.tasks in
    let run =
    c.in_ok-parts.ensures {u = tt} hooks
    (plan_opened plan hooks engine.sizes engine.assets.now o.info o.slots.items o.registers.items of_plan (c.new-engine.ensures.assets ∙ c.assets.ensures) first.layers first.registers many)
    in
    c.in_ok-parts.field-0.told.ok.0 ∙ (run.lists ∙ ap (λ (s : Sizes). s.tasks) (sym of_plan))

pub finish-requires-clause-desk : goal.finish-requires-clause-desk
finish-requires-clause-desk g c =
    let plan = c.args.plan.now in
    let hooks : List Hook = map (λ b. g.B.Backfill.hook b) c.args.hooks.items in
    let engine = c.new-engine.result in
    let o = c.in_ok-opened.opened in
    let first = c.in_ok-opened.ensures {u = tt} in
    let of_plan : engine.sizes ≡ plan.sizes = c.new-engine.ensures.sizes ∙ c.sizes.ensures.value in
    let many : length o.registers.items ≡ engine.sizes.tasks = sym o.registers.ok.0 ∙ first.tasks in
    let run =
    c.in_ok-parts.ensures {u = tt} hooks
    (plan_opened plan hooks engine.sizes engine.assets.now o.info o.slots.items o.registers.items of_plan (c.new-engine.ensures.assets ∙ c.assets.ensures) first.layers first.registers many)
    in
    let d = machine (opening_desk plan hooks) (entries plan [] c.tasks.result.now) in
    let P : List CellView → Type 0 = λ q. AreLayers engine.sizes engine.assets.now c.in_ok-parts.field-0.parts.info q d in
    (d, subst P (sym c.as_slice.ensures.value) run.stands.layers)

pub returns : goal.returns
returns g c =
    let plan = c.args.plan.now in
    let hooks : List Hook = map (λ b. g.B.Backfill.hook b) c.args.hooks.items in
    let engine = c.new-engine.result in
    let o = c.in_ok-opened.opened in
    let first = c.in_ok-opened.ensures {u = tt} in
    let of_plan : engine.sizes ≡ plan.sizes = c.new-engine.ensures.sizes ∙ c.sizes.ensures.value in
    let many : length o.registers.items ≡ engine.sizes.tasks = sym o.registers.ok.0 ∙ first.tasks in
    let r = c.in_ok-parts.field-0 in
    let standing = Standing engine.sizes engine.assets.now r.parts.info r.parts.cells.items r.parts.registers.items in
    let P : List ℕ → Type 0 = λ order. HasRun plan hooks (entries plan [] order) standing r.told.items in
    let run : HasRun plan hooks (entries plan [] c.args.order.now) standing r.told.items =
    subst P c.tasks.ensures
    (c.in_ok-parts.ensures {u = tt} hooks
    (plan_opened plan hooks engine.sizes engine.assets.now o.info o.slots.items o.registers.items of_plan (c.new-engine.ensures.assets ∙ c.assets.ensures) first.layers first.registers many))
    in
    let start = opening_desk plan hooks in
    let es = entries plan [] c.args.order.now in
    let Q : List CellView → Type 0 = λ q. AreLayers engine.sizes engine.assets.now r.parts.info q (machine start es) in
    let tasks : engine.sizes.tasks ≡ plan.sizes.tasks = ap (λ (s : Sizes). s.tasks) of_plan in
    IfOk-weaker c.finish.result _ _
    (λ last left. left (machine start es) (λ t. replies_of start t es) (subst Q (sym c.as_slice.ensures.value) run.stands.layers)
    (λ t low. run.each t (let under : t < plan.sizes.tasks = omega (arith, low, tasks) in under)))
    c.finish.ensures.final_state
