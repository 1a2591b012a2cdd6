use Rattle.std.proofs.Common.{◌≡◌, ℕ, ◌+◌, Bool, true, false, ◌⊎◌, [], length, Result, Err, refl, sym, ap, subst, ◌∙◌, arith}
use Rattle.lw_grammar.specs.Told.{told}
use Rattle.lw_grammar.specs.Script.{is_nothing_due, ScriptInput, reading_with}
use Rattle.lw_grammar.specs.Reading.{at_the_top, with_line, lines_read, outcome_of}
use Rattle.std.proofs.lemmas.Result.{err_from_is_err_and}
use Rattle.lw_grammar.specs.declared.reason.Reason.{Reason}
use Rattle.lw_grammar.specs.Lines.{lines}
use Rattle.lw_grammar.proofs.ScriptOutcome.{line_step}
use Rattle.lw_script.specs.declared.input.Input.{Input}
use Rattle.lw_script.specs.declared.input.ScriptStop.{ScriptStop}
use Rattle.lw_script.specs.Answers.{Gives}
use Rattle.lw_script.proofs.Outcomes.{none_left, step_good, at_end, place_next, inputs_of, stopped, ended}
use Rattle.lw_script.proofs.script.read_lines.Goals as goal

pub loop-line-init : goal.loop-line-init
loop-line-init c =
    record {
      reached = at_the_top;
      stands = c.new-reader.ensures;
      good = tt;
      number = refl;
      left = refl;
      place = none_left (length c.args.bytes.now);
      short = omega arith;
      count = omega arith;
    }

pub take_line-requires : goal.take_line-requires
take_line-requires c =
    let i = c.loop-line.invariant in
    (reading_with c.args.hooks c.args.form, i.reached.statements, i.stands, i.good)

pub returns-in_err-take_line : goal.returns-in_err-take_line
returns-in_err-take_line c =
    let i = c.loop-line.invariant in
    let s = reading_with c.args.hooks c.args.form in
    let all = length c.args.bytes.now in
    let cut = c.in-Some.ensures in
    let due : is_nothing_due (told i.reached.statements).section ≡ false = ap is_nothing_due (sym i.stands.section) ∙ cut.0 in
    let e = err_from_is_err_and c.from_residual.result c.from_residual.ensures.1 in
    let stop = stopped s c.take_line.new.reader all c.loop-line.number i.reached c.in-Some.line.now (lines c.in-Some.behind.now) c.in_err-take_line.field-0.0 i.number due (c.in_err-take_line.ensures s i.reached.statements i.stands) in
    let G : Result Input ScriptStop → Type 0 = λ r. Gives r (outcome_of s c.args.bytes.now) in
    let H : Result ScriptInput (ℕ × Reason) → Type 0 = λ o. Gives (Err c.in_err-take_line.field-0.0) o in
    subst G (sym (e.1 ∙ ap (λ x. Err x) e.2)) (subst H (sym (ap (inputs_of s all) (i.left ∙ ap (lines_read s i.reached) cut.1.lines))) stop)

pub loop-line-preserved : goal.loop-line-preserved
loop-line-preserved c =
    let i = c.loop-line.invariant in
    let s = reading_with c.args.hooks c.args.form in
    let cut = c.in-Some.ensures in
    let line = c.in-Some.line.now in
    let behind = c.in-Some.behind.now in
    let due : is_nothing_due (told i.reached.statements).section ≡ false = ap is_nothing_due (sym i.stands.section) ∙ cut.0 in
    let t = c.in_ok-take_line.ensures s i.reached.statements i.stands in
    record {
      reached = with_line i.reached line t.0;
      stands = t.2;
      good = step_good s i.reached.statements line t.0 i.good t.1;
      number = ap (λ n. n + 1) i.number;
      left = i.left ∙ ap (lines_read s i.reached) cut.1.lines ∙ line_step s i.reached line (lines behind) t.0 due t.1;
      place = place_next (length c.args.bytes.now) i.reached.place c.loop-line.rest.now line behind cut.1 i.short i.place;
      short = omega (arith, i.short, cut.1.shorter);
      count = omega (arith, i.count, cut.1.shorter);
    }

pub finish-requires : goal.finish-requires
finish-requires c =
    let i = c.loop-line.invariant in
    (reading_with c.args.hooks c.args.form, i.reached.statements, i.stands, i.good)

pub returns : goal.returns
returns c =
    let i = c.loop-line.invariant in
    let s = reading_with c.args.hooks c.args.form in
    let bytes = c.args.bytes.now in
    let rest = c.loop-line.rest.now in
    let End : Bool → Type 0 = λ b. (b ≡ true) ⊎ (rest ≡ []) in
    let end : (is_nothing_due (told i.reached.statements).section ≡ true) ⊎ (rest ≡ []) = subst End (ap is_nothing_due i.stands.section) c.in_default.ensures in
    let all = ap (inputs_of s (length bytes)) (i.left ∙ at_end s i.reached rest end) ∙ ended s (length bytes) _ i.reached i.place in
    let G : Result ScriptInput (ℕ × Reason) → Type 0 = λ o. Gives c.finish.result o in
    subst G (sym all) (c.finish.ensures s i.reached i.number i.stands)
