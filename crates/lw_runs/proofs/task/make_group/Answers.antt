use Rattle.std.proofs.Common.{◌≡◌, ◌+◌, ◌≤◌, List, length, refl, ap, sym, subst, ◌∙◌, arith}
use Rattle.std.specs.Prelude.{All}
use Rattle.lw_calls.specs.declared.call.Call.{Call}
use Rattle.lw_calls.specs.Entries.{count_of}
use Rattle.lw_calls.specs.Plan.{task_calls, group_calls}
use Rattle.lw_calls.specs.Touches.{class_of}
use Rattle.lw_locks.specs.Promised.{class_under}
use Rattle.lw_runs.proofs.Ahead.{few_calls, group_class, group_place, group_long}
use Rattle.lw_runs.proofs.Begun.{begun_many, group_begun}
use Rattle.lw_runs.proofs.task.make_group.Goals as goal

pub group-requires-clause-class : goal.group-requires-clause-class
group-requires-clause-class g c κs within =
    let plan = c.args.plan.now in
    let group = c.args.group.now in
    let task = c.args.pass.now.task in
    let are : c.calls-calls.result.now ≡ task_calls plan task = c.calls-calls.ensures ∙ ap (task_calls plan) c.task.ensures in
    subst (λ (cs : List Call). All (λ k. class_of k ≡ class_under group.hold) (group_calls cs group)) (sym are) (group_class (task_calls plan task) group c.requires.next.fits)

pub group-requires-clause-room : goal.group-requires-clause-room
group-requires-clause-room g c κs within =
    let plan = c.args.plan.now in
    let group = c.args.group.now in
    let task = c.args.pass.now.task in
    let calls = task_calls plan task in
    let had = c.args.answers.now.items in
    let past = c.args.pass.now.history in
    let are : c.calls-calls.result.now ≡ calls = c.calls-calls.ensures ∙ ap (task_calls plan) c.task.ensures in
    let place = group_place calls group c.requires.next.fits in
    let low = place.0 in
    let high = place.1 in
    let many = c.requires.here in
    let few = few_calls plan task c.requires.plan c.requires.task in
    let made : count_of task past ≡ length had = begun_many g.N.Opening.desk plan task past had (omega (arith, low, high, many)) c.requires.begun in
    let long = group_long calls group c.requires.next.fits in
    let all : count_of task past + length (group_calls calls group) ≤ 4294967295 = omega (arith, made, long, many, high, few) in
    subst (λ cs. count_of task past + length (group_calls cs group) ≤ 4294967295) (sym are) all

pub returns-clause-begun : goal.returns-clause-begun
returns-clause-begun g c =
    let plan = c.args.plan.now in
    let task = c.args.pass.now.task in
    let had = c.args.answers.now.items in
    let are : c.calls-calls.result.now ≡ task_calls plan task = c.calls-calls.ensures ∙ ap (task_calls plan) c.task.ensures in
    group_begun g.N.Opening.desk plan task c.group.result c.args.pass.now.history c.group.new.pass.history (length had) task c.calls-calls.result.now had c.group.new.answers.items c.args.group.now c.requires.next c.requires.here refl are c.requires.begun c.group.ensures.done c.group.ensures.all

pub slice_bounds-part-end : goal.slice_bounds-part-end
slice_bounds-part-end g c =
    let plan = c.args.plan.now in
    let task = c.args.pass.now.task in
    let are : c.calls-calls.result.now ≡ task_calls plan task = c.calls-calls.ensures ∙ ap (task_calls plan) c.task.ensures in
    let many : length c.calls-calls.result.now ≡ length (task_calls plan task) = ap length are in
    let high = (group_place (task_calls plan task) c.args.group.now c.requires.next.fits).1 in
    omega (arith, many, high)
