use Rattle.std.proofs.Common.{ap, Err, arith}
use Rattle.std.proofs.lemmas.Result.{IfOk-weaker}
use Rattle.lw_top.proofs.DisplayOutcomes.{text_shown, no_show}
use Rattle.lw_top.proofs.displays.display_outcome.Goals as goal

pub text_shown-requires : goal.text_shown-requires
text_shown-requires c = let short = c.requires in omega (arith, short)

pub returns-in-Ok : goal.returns-in-Ok
returns-in-Ok c =
    text_shown c.args.input.now _ _ _ c.requires c.in-Ok.ensures.shown (ap (λ o. o.status) c.done.ensures) (ap (λ o. o.text.items) c.done.ensures)

pub returns-in-Err-Refused : goal.returns-in-Err-Refused
returns-in-Err-Refused c =
    let line = c.in-Err-Refused.line in
    let reason = c.in-Err-Refused.reason in
    let bad = c.in-Err-Refused.ensures.refused line reason (ap Err c.in-Err-Refused.field-0-is) in
    IfOk-weaker c.refused.result _ _ (λ outcome h. no_show c.args.input.now line reason outcome.status outcome.text.items c.requires bad h.0 h.1) c.refused.ensures
