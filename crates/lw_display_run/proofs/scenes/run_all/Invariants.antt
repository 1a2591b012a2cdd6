use Rattle.std.proofs.Common.{map, take}
use Rattle.lw_display.specs.ShowAnswers.{scene_meaning}
use Rattle.lw_display_run.specs.Ran.{HaveRun}
use Rattle.lw_display_run.proofs.scenes.run_all.Given as goal

abbrev pub invariant-loop-scene : goal.invariant-loop-scene
invariant-loop-scene l = HaveRun (map scene_meaning (take l.scene-index l.scenes)) l.ran
