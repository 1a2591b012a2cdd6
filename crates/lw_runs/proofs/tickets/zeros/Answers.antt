use Rattle.std.proofs.Common.{rules, ◌≡◌, ◌++◌, [], length, replicate, Some, refl, ap, sym, ◌∙◌}
use Rattle.std.specs.List.{slice_get}
use Rattle.std.proofs.lemmas.Option.{slice_get_read}
use Rattle.lw_runs.proofs.Placing.{count_below_none, zeros_more}
use Rattle.lw_runs.proofs.tickets.zeros.Goals as goal

pub loop-told-init : goal.loop-told-init
loop-told-init c =
    let none : c.new-order.result.items ≡ [] = search rules in
    λ es are. none ∙ ap (λ n. replicate n 0) (sym (count_below_none es))

pub loop-told-preserved : goal.loop-told-preserved
loop-told-preserved c =
    let i = c.loop-told.told-index in
    let told = c.told-item.result in
    let ticks = told.tickets.items in
    let got : slice_get c.args.all.now i ≡ Some told = slice_get_read c.args.all.now (length c.args.all.now) i told refl c.loop-told-test.true c.told-item.is in
    let long : c.len.result ≡ length ticks = search rules in
    let grown : c.more.new.order.items ≡ c.loop-told.order.items ++ replicate (length ticks) 0 = c.in_ok-more.ensures {u = tt} ∙ ap (λ n. c.loop-told.order.items ++ replicate n 0) long in
    λ es are. zeros_more es i c.loop-told.order.items c.more.new.order.items ticks (c.loop-told.invariant es are) grown (are i told got)
