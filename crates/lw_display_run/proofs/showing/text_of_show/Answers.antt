use Rattle.std.proofs.Common.{map, sym, subst, ◌∙◌}
use Rattle.std.specs.List.{All}
use Rattle.std.proofs.lemmas.Result.{IfOk-weaker}
use Rattle.lw_display.specs.Shows.{ShowInput}
use Rattle.lw_display.specs.ShowAnswers.{scene_meaning, show_meaning}
use Rattle.lw_display_run.specs.Ran.{IsInOrder, HaveRun}
use Rattle.lw_display_run.proofs.Runs.{all_in_order}
use Rattle.lw_display_run.proofs.Fits.{acted, acts_fit, planes_fit, names_fit, rows_fit, text_is}
use Rattle.lw_display_run.proofs.showing.text_of_show.Goals as goal

pub run_all-requires : goal.run_all-requires
run_all-requires c =
    subst (All (λ s. IsInOrder (scene_meaning s))) (sym c.deref.ensures.value)
    (all_in_order c.args.show.now.height c.args.show.now.scenes.items c.requires.scenes)

pub opened-requires-clause-ran : goal.opened-requires-clause-ran
opened-requires-clause-ran c = subst (λ ss. HaveRun (map scene_meaning ss) c.in_ok-ran.ran) c.deref.ensures.value c.in_ok-ran.ensures

pub act_all-requires : goal.act_all-requires
act_all-requires c =
    acts_fit (show_meaning c.args.show.now) c.in_ok-screens.screens c.deref-2.result.now c.requires c.in_ok-screens.ensures c.deref-2.ensures.value

pub write-requires : goal.write-requires
write-requires c =
    let v : ShowInput = show_meaning c.args.show.now in
    let d = c.act_all.new.screens in
    let is = acted v c.in_ok-screens.screens d c.deref-2.result.now c.in_ok-act_all.ensures c.in_ok-screens.ensures c.deref-2.ensures.value in
    let ran : HaveRun v.scenes c.in_ok-ran.ran = subst (λ ss. HaveRun (map scene_meaning ss) c.in_ok-ran.ran) c.deref.ensures.value c.in_ok-ran.ensures in
    record {
      some = c.requires.wide.0;
      most = c.requires.wide.1;
      rows = rows_fit v d c.requires is;
      names = names_fit v d c.deref-3.result.now is (c.deref-3.ensures.value ∙ ran.names);
      planes = planes_fit v d c.deref-4.result.now is (c.deref-4.ensures.value ∙ ran.planes);
    }

pub returns : goal.returns
returns c =
    let v : ShowInput = show_meaning c.args.show.now in
    let d = c.act_all.new.screens in
    let is = acted v c.in_ok-screens.screens d c.deref-2.result.now c.in_ok-act_all.ensures c.in_ok-screens.ensures c.deref-2.ensures.value in
    let ran : HaveRun v.scenes c.in_ok-ran.ran = subst (λ ss. HaveRun (map scene_meaning ss) c.in_ok-ran.ran) c.deref.ensures.value c.in_ok-ran.ensures in
    IfOk-weaker c.write.result _ _
    (λ text said. text_is v d c.deref-3.result.now c.deref-4.result.now text.items is (c.deref-3.ensures.value ∙ ran.names) (c.deref-4.ensures.value ∙ ran.planes) said)
    c.write.ensures
