use Rattle.std.proofs.Common.{◌≡◌, ◌++◌, ◌∷◌, ◌+◌, ◌<◌, List, length, get_or, drop, sym, ap, ◌∙◌}
use Rattle.std.proofs.lemmas.List.{at_drop_more}
use Rattle.lw_calls.specs.declared.call.Call.{Call}
use Rattle.lw_canonical.specs.Spelling.{written}
use Rattle.lw_canonical.specs.Canonical.{lines_from}
use Rattle.lw_calls.specs.Plan.{task_calls}
use Rattle.lw_print.specs.Grouping.{lines_around}
use Rattle.lw_print.proofs.Grouped.{lines_next, left_fit, left_reach, left_lines}
use Rattle.lw_print.proofs.ManyLines.{fewer_lines}
use Rattle.lw_print.proofs.tasks.push_calls.Goals as goal

pub loop-number-preserved : goal.loop-number-preserved
loop-number-preserved c =
    let plan = c.args.plan.now in
    let all : List Call = task_calls plan c.args.task in
    let left = c.loop-number.left.now in
    let number = c.loop-number.number in
    let call : Call = c.index-calls-number.result in
    let now : c.groups_behind-left.result.now ≡ _ = c.groups_behind-left.ensures in
    let inside : number < length all = rw c.calls-calls.ensures at c.loop-number-test.true in
    let here : call ≡ get_or all number call = c.index-calls-number.is ∙ ap (λ cs. get_or cs number call) c.calls-calls.ensures in
    let others : List Call = drop (number + 1) all in
    let split : lines_from plan all left number (drop number all) ≡ lines_around plan all left number call ++ lines_from plan all c.groups_behind-left.result.now (number + 1) others =
    at_drop_more (λ cs. lines_from plan all left number cs) all number call inside ∙
    (ap (λ d. lines_from plan all left number (d ∷ others)) (sym here) ∙
    (lines_next plan all left number call others c.loop-number.invariant.fit c.loop-number.invariant.reach ∙
    ap (λ fs. lines_around plan all left number call ++ fs)
    (left_lines plan all left number others c.loop-number.invariant.fit ∙ ap (λ gs. lines_from plan all gs (number + 1) others) (sym now)))) in
    record {
      fit = rw now (left_fit all left number c.loop-number.invariant.fit);
      reach = rw now (left_reach all left number c.loop-number.invariant.fit c.loop-number.invariant.reach);
      written = fewer_lines written _ (lines_around plan all left number call) _ _ _ _ c.loop-number.invariant.written (rw c.calls-calls.ensures at c.in_ok-push_grouped.ensures) split;
    }
