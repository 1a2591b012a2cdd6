use Rattle.std.proofs.Common.{◌≡◌, ℕ, List, length, map, ap, subst, arith}
use Rattle.std.proofs.lemmas.List.{length-map}
use Rattle.lw_machine.specs.Hook.{Hook}
use Rattle.lw_grammar.specs.Script.{SpellsInput}
use Rattle.lw_script.specs.Answers.{input_meaning}
use Rattle.lw_top.specs.declared.words.ScriptCommand.TheVariants.{Run}
use Rattle.lw_top.specs.Commands.{reads_with}
use Rattle.lw_top.proofs.Outcomes.{done_outcome}
use Rattle.lw_top.proofs.outcome.run_outcome.Goals as goal

pub returns-in-Ok : goal.returns-in-Ok
returns-in-Ok g c =
    let hooks : List Hook = map (λ b. g.B.Backfill.hook b) c.args.hooks.items in
    let many : c.len.result ≡ length hooks = (let e = length-map c.args.hooks.items (λ b. g.B.Backfill.hook b) in let k = c.args.hooks.ok.0 in let n = c.len.ensures in omega (arith, e, k, n)) in
    let P : ℕ → Type 0 = λ n. SpellsInput (reads_with n Run) c.args.input.now (input_meaning c.in-Ok.script) in
    done_outcome hooks Run c.args.input.now (input_meaning c.in-Ok.script) _ _ _ c.requires.short (subst P many c.in-Ok.ensures.found) c.in_ok-report_of_tasks-in-Ok.ensures (ap (λ o. o.status) c.done.ensures) (ap (λ o. o.text.items) c.done.ensures)
