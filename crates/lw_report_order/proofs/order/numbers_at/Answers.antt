use Rattle.std.proofs.Common.{◌≡◌, [], ◌∙◌, ◌+◌, ◌-◌, ℕ, List, drop, sym, subst}
use Rattle.lw_report_order.specs.OrderReading.{numbers_read, onto}
use Rattle.lw_report_order.proofs.OrderLoop.{one_more, none_more}
use Rattle.lw_report_order.proofs.order.numbers_at.Goals as goal

pub returns-in-Err : goal.returns-in-Err
returns-in-Err c =
    sym c.loop-above.invariant.read
    ∙ none_more c.loop-above.above c.args.count c.loop-above.place c.byte_after.result c.loop-above.tasks.items c.args.bytes.now c.loop-above-test.true c.byte_after.ensures c.in-Err.begun c.in-Err.ensures

pub loop-above-preserved : goal.loop-above-preserved
loop-above-preserved c =
    let h = one_more c.loop-above.above c.args.count c.loop-above.place c.byte_after.result c.loop-above.tasks.items c.args.bytes.now c.loop-above-test.true c.byte_after.ensures c.in-Ok.task c.in-Ok.used c.loop-above.invariant.within c.in-Ok.ensures in
    let P : List ℕ → Type 0 = λ tasks. onto tasks (c.loop-above.place + c.in-Ok.used) (numbers_read (c.loop-above.above + 1) (c.args.count - (c.loop-above.above + 1)) (drop (c.loop-above.place + c.in-Ok.used) c.args.bytes.now)) ≡ onto [] c.args.first (numbers_read 0 c.args.count (drop c.args.first c.args.bytes.now)) in
    record { within = h.0; read = subst P (sym c.in_ok-push-in-Ok.ensures.items) (h.1 ∙ c.loop-above.invariant.read) }
