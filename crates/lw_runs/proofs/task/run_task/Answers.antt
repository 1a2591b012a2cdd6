-- All calls of a task.
use Rattle.std.proofs.Common.{length, slice_index_or, refl, ap, sym, subst, ◌∙◌, arith}
use Rattle.lw_calls.specs.declared.group.Group.{Group}
use Rattle.lw_calls.specs.declared.group.Hold.TheVariants.{Slot as OneSlot}
use Rattle.lw_calls.specs.Plan.{task_calls, task_groups}
use Rattle.lw_runs.specs.Made.{HasBegun, IsAhead}
use Rattle.lw_runs.proofs.Ahead.{ahead_first, turn_next, turn_after, next_there, group_place}
use Rattle.lw_runs.proofs.Begun.{begun_first}
use Rattle.lw_runs.proofs.task.run_task.Goals as goal

pub loop-group-init : goal.loop-group-init
loop-group-init g c =
    let plan = c.args.plan.now in
    let task = c.args.pass.now.task in
    let none = c.new-answers.ensures.items in
    let calls = task_calls plan task in
    let groups = task_groups plan task in
    (refl, subst (λ n. IsAhead calls groups groups n) (sym (ap length none)) (ahead_first calls groups (c.requires.plan.groups task)), begun_first g.N.Opening.desk plan task c.args.pass.now.history c.new-answers.result.items (c.requires.first, none))

pub make_up_to-requires-clause-ahead : goal.make_up_to-requires-clause-ahead
make_up_to-requires-clause-ahead g c κs within =
    let plan = c.args.plan.now in
    let now = c.loop-group in
    let items = c.groups-group-items.result.now in
    (turn_next plan c.args.pass.now.task items now.group-index _ (length now.answers.items) (c.groups-group-items.ensures ∙ ap (task_groups plan) c.task.ensures) c.loop-group-test.true now.invariant.1 now.pass.task now.invariant.0).ahead

pub make_up_to-requires-clause-left : goal.make_up_to-requires-clause-left
make_up_to-requires-clause-left g c κs within =
    let plan = c.args.plan.now in
    let now = c.loop-group in
    let items = c.groups-group-items.result.now in
    let none : Group = record { first = 0; last = 0; hold = OneSlot 0 } in
    let next = turn_next plan c.args.pass.now.task items now.group-index none (length now.answers.items) (c.groups-group-items.ensures ∙ ap (task_groups plan) c.task.ensures) c.loop-group-test.true now.invariant.1 now.pass.task now.invariant.0 in
    let place = group_place (task_calls plan now.pass.task) (slice_index_or items now.group-index none) next.fits in
    let low = place.0 in
    let high = place.1 in
    omega (arith, low, high)

pub make_up_to-requires-clause-free : goal.make_up_to-requires-clause-free
make_up_to-requires-clause-free g c κs within =
    let plan = c.args.plan.now in
    let now = c.loop-group in
    let items = c.groups-group-items.result.now in
    let none : Group = record { first = 0; last = 0; hold = OneSlot 0 } in
    let next = turn_next plan c.args.pass.now.task items now.group-index none (length now.answers.items) (c.groups-group-items.ensures ∙ ap (task_groups plan) c.task.ensures) c.loop-group-test.true now.invariant.1 now.pass.task now.invariant.0 in
    λ n low high. next.free n low (omega (arith, high))

pub make_group-requires-clause-next : goal.make_group-requires-clause-next
make_group-requires-clause-next g c κs within =
    let plan = c.args.plan.now in
    let now = c.loop-group in
    let items = c.groups-group-items.result.now in
    let ok = c.in_ok-make_up_to.ensures {u = tt} in
    let who = c.make_up_to.new.pass.task in
    let made = length now.answers.items in
    let next = turn_next plan c.args.pass.now.task items now.group-index _ made (c.groups-group-items.ensures ∙ ap (task_groups plan) c.task.ensures) c.loop-group-test.true now.invariant.1 who (ok.task ∙ now.invariant.0) in
    next_there (task_calls plan who) (task_groups plan who) made (length c.make_up_to.new.answers.items) _ next ok.many

pub loop-group-preserved : goal.loop-group-preserved
loop-group-preserved g c =
    let plan = c.args.plan.now in
    let task = c.args.pass.now.task in
    let now = c.loop-group in
    let items = c.groups-group-items.result.now in
    let ok = c.in_ok-make_group.ensures {u = tt} in
    let new = c.make_group.new.answers.items in
    let same = (c.in_ok-make_up_to.ensures {u = tt}).task ∙ now.invariant.0 in
    let begun : HasBegun g.N.Opening.desk plan task c.make_group.new.pass.history new = subst (λ t. HasBegun g.N.Opening.desk plan t c.make_group.new.pass.history new) same ok.begun in
    (ok.task ∙ same, turn_after plan task items now.group-index _ (length now.answers.items) (c.groups-group-items.ensures ∙ ap (task_groups plan) c.task.ensures) c.loop-group-test.true now.invariant.1 (length new) ok.many, begun)
