-- A task's next calls, none of which is in a group.
use Rattle.std.proofs.Common.{◌≡◌, ◌+◌, ◌<◌, ◌≤◌, length, Some, [], ◌∷◌, ◌++◌, ap, sym, subst, ◌∙◌, arith}
use Rattle.std.specs.List.{slice_get}
use Rattle.lw_calls.specs.declared.touch.Role.TheVariants.{Task}
use Rattle.lw_calls.specs.Entries.{count_of}
use Rattle.lw_calls.specs.Plan.{task_calls, task_groups}
use Rattle.lw_locks.specs.Promised.{Done}
use Rattle.lw_runs.specs.Made.{IsFree}
use Rattle.lw_runs.proofs.Begun.{one_more, begun_room, begun_more}
use Rattle.lw_runs.proofs.task.make_up_to.Goals as goal

pub make_one-requires-clause-room : goal.make_one-requires-clause-room
make_one-requires-clause-room g c κs within =
    let now = c.loop-next in
    let here = now.invariant.1 in
    let test = c.loop-next-test.true in
    let left = c.requires.left in
    let room = begun_room g.N.Opening.desk c.args.plan.now c.args.pass.now.task now.pass.history now.answers.items c.requires.plan c.requires.task (omega (arith, here, test, left)) now.invariant.2 in
    subst (λ t. count_of t now.pass.history < 4294967295) (sym now.invariant.0) (omega (arith, room))

pub loop-next-preserved : goal.loop-next-preserved
loop-next-preserved g c =
    let desk = g.N.Opening.desk in
    let plan = c.args.plan.now in
    let task = c.args.pass.now.task in
    let now = c.loop-next in
    let inv = now.invariant in
    let call = c.call_of-call.result.now in
    let answer = c.in_ok-answer.answer in
    let old = now.pass.history in
    let new = c.make_one.new.pass.history in
    let has = c.push_reserved.new.self.items in
    let pushed : has ≡ now.answers.items ++ answer ∷ [] = c.push_reserved.ensures.items ∙ ap (λ xs. xs ++ answer ∷ []) c.reserve.ensures.items in
    let at_next : slice_get (task_calls plan task) now.next ≡ Some call = subst (λ t. slice_get (task_calls plan t) now.next ≡ Some call) (c.task.ensures ∙ inv.0) c.call_of-call.ensures.call in
    let at_length : slice_get (task_calls plan task) (length now.answers.items) ≡ Some call = subst (λ n. slice_get (task_calls plan task) n ≡ Some call) (sym inv.1) at_next in
    let first = c.len-next.ensures ∙ c.args.answers.now.ok.0 in
    let from = now.auto.next in
    let low : length c.args.answers.now.items ≤ now.next = omega (arith, first, from) in
    let free : IsFree (task_groups plan task) (length now.answers.items) = subst (λ n. IsFree (task_groups plan task) n) (sym inv.1) (c.requires.free now.next low c.loop-next-test.true) in
    let done = subst (λ t. Done desk (Task t ∷ []) t old new call answer.reply answer.ticket) inv.0 (c.in_ok-answer.ensures {u = tt}).done in
    (c.make_one.ensures.task ∙ inv.0, one_more now.answers.items has answer pushed ∙ ap (λ n. n + 1) inv.1, begun_more desk plan task old new now.answers.items has call answer at_length free inv.2 done pushed)
