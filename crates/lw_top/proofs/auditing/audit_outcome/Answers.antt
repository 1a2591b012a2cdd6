use Rattle.std.proofs.Common.{◌≡◌, ℕ, List, length, map, subst, arith}
use Rattle.std.proofs.lemmas.List.{length-map, take_rest}
use Rattle.std.proofs.lemmas.Result.{IfOk-weaker}
use Rattle.lw_grammar.specs.Script.{SpellsInput}
use Rattle.lw_machine.specs.Hook.{Hook}
use Rattle.lw_script.specs.Answers.{input_meaning}
use Rattle.lw_top.specs.declared.words.ScriptCommand.TheVariants.{Audit}
use Rattle.lw_top.specs.AuditOutcome.{IsAudited}
use Rattle.lw_top.specs.Commands.{reads_with}
use Rattle.lw_top.proofs.AuditOutcomes.{audited_outcome}
use Rattle.lw_top.proofs.auditing.audit_outcome.Goals as goal

pub returns-in-Ok : goal.returns-in-Ok
returns-in-Ok g c =
    let hooks : List Hook = map (λ b. g.B.Backfill.hook b) c.args.hooks.items in
    let many : c.len.result ≡ length hooks = (let e = length-map c.args.hooks.items (λ b. g.B.Backfill.hook b) in let k = c.args.hooks.ok.0 in let n = c.len.ensures in omega (arith, e, k, n)) in
    let script = c.in-Ok.script in
    let input : List ℕ = c.args.input.now in
    let P : ℕ → Type 0 = λ n. SpellsInput (reads_with n Audit) input (input_meaning script) in
    IfOk-weaker c.outcome_of_report.result _ _ (λ outcome h.
    let Q : List ℕ → Type 0 = λ report. IsAudited hooks script.plan report outcome.status outcome.text.items in
    audited_outcome hooks input (input_meaning script) outcome.status outcome.text.items c.requires.short (subst P many c.in-Ok.ensures.found) (subst Q (take_rest input script.rest) h)) c.outcome_of_report.ensures
