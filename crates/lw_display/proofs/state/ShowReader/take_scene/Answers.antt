use Rattle.std.proofs.Common.{◌≡◌, [], unsigned_abs, subst, w64, ◌∙◌, ap, ◌+◌}
use Rattle.std.proofs.lemmas.Int.{to_z-of_z}
use Rattle.lw_display.specs.ShowLines.{SceneLine}
use Rattle.lw_display.specs.ShowMeaning.{begun, show_read, KeepsScene}
use Rattle.lw_display.proofs.SceneAdded.{passes_all, room_left}
use Rattle.lw_display.proofs.SceneSteps.{scene_stops, scene_kept}
use Rattle.lw_display.proofs.state.ShowReader.take_scene.Goals as goal

pub top_row-row-requires : goal.top_row-row-requires
top_row-row-requires c =
    rw (to_z-of_z w64 c.args.top c.ranges.top) ((passes_all (show_read c.args.self.now) (SceneLine c.args.name.now c.args.top) c.requires.passes).range)

pub keep_scene-requires-clause-room : goal.keep_scene-requires-clause-room
keep_scene-requires-clause-room c =
    room_left c.args.self.now c.args.name.now c.args.top c.requires.passes c.requires.named

pub returns-in-Err : goal.returns-in-Err
returns-in-Err c =
    let name = c.args.name.now in
    let top = unsigned_abs c.args.top in
    scene_stops (begun name top c.args.number []) (show_read c.args.self.now) (c.args.number + 1) c.args.behind.now c.args.self.now _ (c.in-Err.ensures name top)

pub returns-in-Ok : goal.returns-in-Ok
returns-in-Ok c =
    let name = c.args.name.now in
    let top = unsigned_abs c.args.top in
    let row : c.top_row-row.result ≡ top = c.top_row-row.ensures ∙ ap unsigned_abs (to_z-of_z w64 c.args.top c.ranges.top) in
    let keeps = subst (λ t. KeepsScene name t c.in-Ok.read c.args.self.now c.keep_scene.new.self c.keep_scene.result) row c.keep_scene.ensures in
    scene_kept name top c.args.number (c.args.number + 1) c.args.behind.now c.args.self.now c.keep_scene.new.self c.in-Ok.read c.keep_scene.result (c.in-Ok.ensures name top) keeps
