use Rattle.std.proofs.Common.{◌≡◌, Ok, Err, ap, ◌∙◌, arith}
use Rattle.lw_grammar.specs.declared.form.Form.TheVariants.{Ordered}
use Rattle.lw_grammar.specs.Script.{reading_with}
use Rattle.lw_grammar.specs.Reading.{outcome_of}
use Rattle.lw_grammar.proofs.ScriptOutcome.{spells_outcome, outcome_refused}
use Rattle.lw_script.specs.declared.input.ScriptStop.TheVariants.{Refused}
use Rattle.lw_script.specs.Answers.{input_meaning}
use Rattle.lw_display.specs.ShowRule.{counted_from}
use Rattle.lw_display.proofs.FirstBad.{first_bad_within}
use Rattle.lw_display.proofs.scene.read_script.Goals as goal

pub overflow_add-result : goal.overflow_add-result
overflow_add-result c =
    let line = c.in-Err-Refused.line in
    let reason = c.in-Err-Refused.reason in
    let is : c.read.result ≡ Err (Refused line reason) = c.in-Err-Refused.is ∙ ap (λ e. Err e) c.in-Err-Refused.field-0-is in
    let few = first_bad_within (reading_with 0 Ordered) c.args.bytes.now line reason (c.read.ensures.refused line reason is) in
    let room = c.requires.lines in
    omega (arith, few, room)

pub returns-in-Ok : goal.returns-in-Ok
returns-in-Ok c =
    let input = input_meaning c.in-Ok.input in
    let read : outcome_of (reading_with 0 Ordered) c.args.bytes.now ≡ Ok input = spells_outcome (reading_with 0 Ordered) c.args.bytes.now input c.in-Ok.ensures.found in
    ap (counted_from c.args.above) read

pub returns-in-Err-Refused : goal.returns-in-Err-Refused
returns-in-Err-Refused c =
    let line = c.in-Err-Refused.line in
    let reason = c.in-Err-Refused.reason in
    let is : c.read.result ≡ Err (Refused line reason) = c.in-Err-Refused.is ∙ ap (λ e. Err e) c.in-Err-Refused.field-0-is in
    let told : outcome_of (reading_with 0 Ordered) c.args.bytes.now ≡ Err (line, reason) = outcome_refused (reading_with 0 Ordered) c.args.bytes.now line reason (c.read.ensures.refused line reason is) in
    ap (counted_from c.args.above) told
