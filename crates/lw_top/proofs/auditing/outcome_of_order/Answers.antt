use Rattle.std.proofs.Common.{List, map, Ok, ap}
use Rattle.std.proofs.lemmas.Result.{IfOk-weaker}
use Rattle.lw_machine.specs.Hook.{Hook}
use Rattle.lw_top.proofs.AuditOutcomes.{bad_audited}
use Rattle.lw_top.proofs.auditing.outcome_of_order.Goals as goal

pub returns-in-Some : goal.returns-in-Some
returns-in-Some g c =
    let hooks : List Hook = map (λ b. g.B.Backfill.hook b) c.args.hooks.items in
    let bad = c.in_ok-place.ensures.bad c.in-Some.place (ap Ok c.in-Some.is) in
    IfOk-weaker c.bad_order.result _ _ (λ outcome h. bad_audited hooks c.args.plan.now c.args.report.now c.args.order.now c.in-Some.place outcome.status outcome.text.items c.requires.begins bad h.0 h.1) c.bad_order.ensures
