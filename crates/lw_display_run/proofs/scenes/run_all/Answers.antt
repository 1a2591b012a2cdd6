use Rattle.std.proofs.Common.{map, sym, subst, take, arith}
use Rattle.std.proofs.lemmas.List.{take_all}
use Rattle.std.proofs.lemmas.List.Elements.{All-get_or}
use Rattle.lw_display.specs.ShowAnswers.{scene_meaning}
use Rattle.lw_display_run.specs.Ran.{IsInOrder, HaveRun}
use Rattle.lw_display_run.proofs.Runs.{runs_next}
use Rattle.lw_display_run.proofs.scenes.run_all.Goals as goal

pub add-requires : goal.add-requires
add-requires c =
    subst (λ s. IsInOrder (scene_meaning s)) (sym c.scene-item.is)
    (All-get_or (λ s. IsInOrder (scene_meaning s)) c.args.scenes.now c.loop-scene.scene-index c.scene-item.result c.loop-scene-test.true c.requires)

pub loop-scene-preserved : goal.loop-scene-preserved
loop-scene-preserved c =
    let i = c.loop-scene.scene-index in
    runs_next c.args.scenes.now i c.scene-item.result c.add.new.self c.loop-scene-test.true c.scene-item.is
    (c.in_ok-add.ensures {u = tt} (map scene_meaning (take i c.args.scenes.now)) c.loop-scene.invariant)

pub returns : goal.returns
returns c =
    let i = c.loop-scene.scene-index in
    let all = c.args.scenes.now in
    subst (λ ss. HaveRun (map scene_meaning ss) c.loop-scene.ran) (take_all i all (omega (arith, c.loop-scene-test.false))) c.loop-scene.invariant
