use Rattle.std.proofs.Common.{◌≡◌, ℕ, ◌<◌, true, List, [], map, ap, sym, subst, ◌∙◌, arith}
use Rattle.lw_calls.specs.Assets.{Assets}
use Rattle.lw_calls.specs.declared.sizes.Sizes.{Sizes}
use Rattle.lw_calls.specs.Entries.{entries}
use Rattle.lw_calls.specs.Orders.{is_legal}
use Rattle.lw_machine.specs.Desk.{Desk}
use Rattle.lw_machine.specs.History.{machine, replies_of}
use Rattle.lw_machine.specs.Hook.{Hook}
use Rattle.lw_layer.specs.View.{CellView}
use Rattle.lw_engine.specs.Layers.{layer_relations, AreLayers}
use Rattle.lw_tasks.proofs.Started.{started, run_ordered, run_shown, run_order, run_said, run_last}
use Rattle.lw_tasks.proofs.running.run_on.Goals as goal

pub run_all-requires-clause-cells : goal.run_all-requires-clause-cells
run_all-requires-clause-cells g c κs within =
    let engine = c.new-engine.result in
    let o = c.in_ok-opened.opened in
    let first = c.in_ok-opened.ensures {u = tt} in
    (started g.N.Opening.desk c.args.plan.now (map (λ b. g.B.Backfill.hook b) c.args.hooks.items) engine.sizes engine.assets.now o.info o.slots.items o.registers.items c.requires.desk
    (c.new-engine.ensures.sizes ∙ c.sizes.ensures.value) (c.new-engine.ensures.assets ∙ c.assets.ensures) first.layers first.registers).layers.cells

pub run_all-requires-clause-regs : goal.run_all-requires-clause-regs
run_all-requires-clause-regs g c κs within =
    let engine = c.new-engine.result in
    let o = c.in_ok-opened.opened in
    let first = c.in_ok-opened.ensures {u = tt} in
    (started g.N.Opening.desk c.args.plan.now (map (λ b. g.B.Backfill.hook b) c.args.hooks.items) engine.sizes engine.assets.now o.info o.slots.items o.registers.items c.requires.desk
    (c.new-engine.ensures.sizes ∙ c.sizes.ensures.value) (c.new-engine.ensures.assets ∙ c.assets.ensures) first.layers first.registers).registers

pub order_by-requires-clause-tickets : goal.order_by-requires-clause-tickets
order_by-requires-clause-tickets g c =
    let d = g.N.Opening.desk in
    let closed = c.in_ok-closed.closed in
    let of_plan : d.sizes ≡ c.args.plan.now.sizes = ap (λ (x : Desk). x.sizes) c.requires.desk in
    run_shown layer_relations d c.args.plan.now closed.info closed.cells.items closed.seat.history c.in_ok-closed.all.items of_plan (c.in_ok-closed.ensures {u = tt}) c.as_slice.result.now c.as_slice.ensures.value

pub returns-clause-order : goal.returns-clause-order
returns-clause-order g c =
    let d = g.N.Opening.desk in
    let plan = c.args.plan.now in
    let closed = c.in_ok-closed.closed in
    let of_plan : d.sizes ≡ plan.sizes = ap (λ (x : Desk). x.sizes) c.requires.desk in
    let order = run_order layer_relations d plan closed.info closed.cells.items closed.seat.history c.in_ok-closed.all.items of_plan (c.in_ok-closed.ensures {u = tt}) c.as_slice.result.now c.in_ok-order.order.items c.as_slice.ensures.value (c.in_ok-order.ensures {u = tt}) in
    c.new.ensures ∙ order

pub returns-clause-history : goal.returns-clause-history
returns-clause-history g c =
    let d = g.N.Opening.desk in
    let plan = c.args.plan.now in
    let closed = c.in_ok-closed.closed in
    let of_plan : d.sizes ≡ plan.sizes = ap (λ (x : Desk). x.sizes) c.requires.desk in
    let ordered = run_ordered layer_relations d plan closed.info closed.cells.items closed.seat.history c.in_ok-closed.all.items of_plan (c.in_ok-closed.ensures {u = tt}) in
    let order = run_order layer_relations d plan closed.info closed.cells.items closed.seat.history c.in_ok-closed.all.items of_plan (c.in_ok-closed.ensures {u = tt}) c.as_slice.result.now c.in_ok-order.order.items c.as_slice.ensures.value (c.in_ok-order.ensures {u = tt}) in
    ap (entries plan []) (c.new.ensures ∙ order) ∙ ordered.stands

pub returns-clause-legal : goal.returns-clause-legal
returns-clause-legal g c =
    let d = g.N.Opening.desk in
    let plan = c.args.plan.now in
    let closed = c.in_ok-closed.closed in
    let of_plan : d.sizes ≡ plan.sizes = ap (λ (x : Desk). x.sizes) c.requires.desk in
    let ordered = run_ordered layer_relations d plan closed.info closed.cells.items closed.seat.history c.in_ok-closed.all.items of_plan (c.in_ok-closed.ensures {u = tt}) in
    let order = run_order layer_relations d plan closed.info closed.cells.items closed.seat.history c.in_ok-closed.all.items of_plan (c.in_ok-closed.ensures {u = tt}) c.as_slice.result.now c.in_ok-order.order.items c.as_slice.ensures.value (c.in_ok-order.ensures {u = tt}) in
    subst (λ (os : List ℕ). is_legal plan os ≡ true) (sym (c.new.ensures ∙ order)) ordered.legal

pub returns-clause-last : goal.returns-clause-last
returns-clause-last g c =
    let d = g.N.Opening.desk in
    let plan = c.args.plan.now in
    let closed = c.in_ok-closed.closed in
    let history = closed.seat.history in
    let all = c.in_ok-closed.all.items in
    let hooks : List Hook = map (λ b. g.B.Backfill.hook b) c.args.hooks.items in
    let ran = c.in_ok-closed.ensures {u = tt} in
    let of_plan : d.sizes ≡ plan.sizes = ap (λ (x : Desk). x.sizes) c.requires.desk in
    let handed : d.assets ≡ plan.assets = ap (λ (x : Desk). x.assets) c.requires.desk in
    let order = run_order layer_relations d plan closed.info closed.cells.items closed.seat.history c.in_ok-closed.all.items of_plan (c.in_ok-closed.ensures {u = tt}) c.as_slice.result.now c.in_ok-order.order.items c.as_slice.ensures.value (c.in_ok-order.ensures {u = tt}) in
    let engine = c.new-engine-2.result in
    let sizes : d.sizes ≡ engine.sizes = of_plan ∙ sym (c.new-engine-2.ensures.sizes ∙ c.sizes-2.ensures.value) in
    let assets : d.assets ≡ engine.assets.now = handed ∙ sym (c.new-engine-2.ensures.assets ∙ c.assets-2.ensures) in
    let S : Sizes → Type 0 = λ s. AreLayers s d.assets closed.info closed.cells.items (machine d history) in
    let A : Assets → Type 0 = λ a. AreLayers engine.sizes a closed.info closed.cells.items (machine d history) in
    let L : List CellView → Type 0 = λ q. AreLayers engine.sizes engine.assets.now closed.info q (machine d history) in
    let tasks : engine.sizes.tasks ≡ plan.sizes.tasks = ap (λ (s : Sizes). s.tasks) (c.new-engine-2.ensures.sizes ∙ c.sizes-2.ensures.value) in
    let said = run_said layer_relations d plan closed.info closed.cells.items history all of_plan ran c.in_ok-replies.replies.items (c.in_ok-replies.ensures {u = tt}) in
    let last = (c.in_ok-last.ensures {u = tt}).final_state (machine d history) (λ t. replies_of d t history) (subst L (sym c.as_slice-2.ensures.value) (subst A assets (subst S sizes ran.parts))) (λ t low. said t (let under : t < plan.sizes.tasks = omega (arith, low, tasks) in under)) in
    run_last layer_relations d plan closed.info closed.cells.items history all of_plan ran hooks c.new.result c.in_ok-last.last c.requires.desk (c.new.ensures ∙ order) last
