use Rattle.std.proofs.Common.{◌≡◌, length, replicate, Some, refl, ap, sym, ◌∙◌, arith}
use Rattle.std.specs.List.{slice_get}
use Rattle.std.proofs.lemmas.List.{with_items_is}
use Rattle.std.proofs.lemmas.Option.{slice_get_read}
use Rattle.lw_runs.specs.Whole.{order_below, put}
use Rattle.lw_runs.specs.declared.answers.TaskAnswers.{TaskAnswers}
use Rattle.lw_runs.proofs.Placing.{count_below_all, order_below_none, order_below_all, length_put, placed_more, tickets_within}
use Rattle.lw_runs.proofs.tickets.order_by.Goals as goal

pub loop-task-init : goal.loop-task-init
loop-task-init c = λ es are low. c.in_ok-order.ensures {u = tt} es are ∙ (ap (λ n. replicate n 0) (count_below_all (length c.args.all.now) es low) ∙ order_below_none es)

pub place-requires : goal.place-requires
place-requires c =
    let t = c.loop-task.task in
    let told = c.index-all-task.result in
    let got : slice_get c.args.all.now t ≡ Some told = slice_get_read c.args.all.now (length c.args.all.now) t told refl c.loop-task-test.true c.index-all-task.is in
    let ticks : c.as_slice.result.now ≡ told.tickets.items = c.as_slice.ensures.value ∙ ap (λ (x : TaskAnswers). x.tickets.items) (sym c.index-all-task.is) in
    let given = c.requires.tickets in
    tickets_within given.0 t c.as_mut_slice.result.now c.as_slice.result.now (c.as_mut_slice.ensures.value ∙ c.loop-task.invariant given.0 given.1 given.2) (ticks ∙ given.1 t told got)

pub loop-task-preserved : goal.loop-task-preserved
loop-task-preserved c =
    let t = c.loop-task.task in
    let told = c.index-all-task.result in
    let order = c.loop-task.order in
    let got : slice_get c.args.all.now t ≡ Some told = slice_get_read c.args.all.now (length c.args.all.now) t told refl c.loop-task-test.true c.index-all-task.is in
    let ticks : c.as_slice.result.now ≡ told.tickets.items = c.as_slice.ensures.value ∙ ap (λ (x : TaskAnswers). x.tickets.items) (sym c.index-all-task.is) in
    let made : c.place.new.order ≡ put t order.items c.as_slice.result.now = c.place.ensures ∙ ap (λ xs. put t xs c.as_slice.result.now) c.as_mut_slice.ensures.value in
    let long : length c.place.new.order ≡ order.len = ap length made ∙ (length_put t order.items c.as_slice.result.now ∙ sym order.ok.0) in
    λ es are low. with_items_is order c.place.new.order long ∙ placed_more es t order.items c.place.new.order c.as_slice.result.now (c.loop-task.invariant es are low) (ticks ∙ are t told got) made

pub returns : goal.returns
returns c =
    let end = c.loop-task.auto.task-end in
    let over = c.loop-task-test.false in
    let last : c.loop-task.task ≡ length c.args.all.now = omega (arith, end, over) in
    λ es are low. c.loop-task.invariant es are low ∙ (ap (λ n. order_below n es) last ∙ order_below_all (length c.args.all.now) es low)
