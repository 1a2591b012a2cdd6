use Rattle.std.proofs.Common.{◌≡◌, ℕ, List, length, map, Err, ap, subst, arith}
use Rattle.std.proofs.lemmas.Result.{IfOk-weaker}
use Rattle.std.proofs.lemmas.List.{length-map}
use Rattle.lw_machine.specs.Hook.{Hook}
use Rattle.lw_grammar.specs.declared.form.Form.TheVariants.{Ordered}
use Rattle.lw_grammar.specs.Lines.{lines}
use Rattle.lw_grammar.specs.Script.{SpellsInput, IsFirstBadIn, reading_with}
use Rattle.lw_grammar.proofs.OrderFew.{order_few}
use Rattle.lw_script.specs.Answers.{input_meaning}
use Rattle.lw_top.specs.declared.words.ScriptCommand.TheVariants.{Replay}
use Rattle.lw_top.specs.Commands.{reads_with}
use Rattle.lw_top.proofs.Outcomes.{outcome_of_script, refused_outcome}
use Rattle.lw_top.proofs.outcome.replay_outcome.Goals as goal

pub outcome_in_order-requires : goal.outcome_in_order-requires
outcome_in_order-requires g c =
    let few = order_few (reading_with c.len.result Ordered) c.args.input.now (input_meaning c.in-Ok.script) c.in-Ok.ensures.found in
    let short = c.requires.short in
    (c.type_bounds.send-B, omega (arith, few, short))

pub returns-in-Ok : goal.returns-in-Ok
returns-in-Ok g c =
    let hooks : List Hook = map (λ b. g.B.Backfill.hook b) c.args.hooks.items in
    let many : c.len.result ≡ length hooks = (let e = length-map c.args.hooks.items (λ b. g.B.Backfill.hook b) in let k = c.args.hooks.ok.0 in let n = c.len.ensures in omega (arith, e, k, n)) in
    let P : ℕ → Type 0 = λ n. SpellsInput (reads_with n (Replay c.args.output)) c.args.input.now (input_meaning c.in-Ok.script) in
    IfOk-weaker c.outcome_in_order.result _ _ (λ outcome h. outcome_of_script hooks (Replay c.args.output) c.args.input.now (input_meaning c.in-Ok.script) outcome.status outcome.text.items c.requires.short (subst P many c.in-Ok.ensures.found) h) (c.outcome_in_order.ensures c.args.input.now)

pub returns-in-Err-Refused : goal.returns-in-Err-Refused
returns-in-Err-Refused g c =
    let hooks : List Hook = map (λ b. g.B.Backfill.hook b) c.args.hooks.items in
    let many : c.len.result ≡ length hooks = (let e = length-map c.args.hooks.items (λ b. g.B.Backfill.hook b) in let k = c.args.hooks.ok.0 in let n = c.len.ensures in omega (arith, e, k, n)) in
    let P : ℕ → Type 0 = λ n. IsFirstBadIn (reads_with n (Replay c.args.output)) (lines c.args.input.now) c.in-Err-Refused.line c.in-Err-Refused.reason in
    let bad : P (length hooks) = subst P many (c.in-Err-Refused.ensures.refused c.in-Err-Refused.line c.in-Err-Refused.reason (ap Err c.in-Err-Refused.field-0-is)) in
    IfOk-weaker c.refusal.result _ _ (λ outcome h. refused_outcome hooks (Replay c.args.output) c.args.input.now c.in-Err-Refused.line _ c.in-Err-Refused.reason _ outcome.status outcome.text.items c.requires.short c.in-Err-Refused.line-is c.in-Err-Refused.reason-is bad h.0 h.1) c.refusal.ensures
