use Rattle.std.proofs.Common.{◌≡◌, [], ◌∷◌, ◌++◌, length, map, sym, ap, subst, ◌∙◌, arith, length-append}
use Rattle.lw_words.specs.Cuts.{targets}
use Rattle.lw_script.specs.Answers.{input_meaning}
use Rattle.lw_display.specs.Shows.{SceneInput, ShowInput}
use Rattle.lw_display.specs.ShowRule.{ScenesAreDue, told_with_scene}
use Rattle.lw_display.specs.ShowMeaning.{begun, in_scene, show_read}
use Rattle.lw_display.specs.ShowAnswers.{scene_meaning}
use Rattle.lw_display.proofs.NamesKept.{keys_added, name_added}
use Rattle.lw_display.proofs.SceneAdded.{scenes_push, names_push}
use Rattle.lw_display.proofs.state.ShowReader.add_scene.Goals as goal

pub returns : goal.returns
returns c =
    let old = c.args.self.now in
    let name = c.args.name.now in
    let added : SceneInput = record { name = name; top = c.args.top; script = input_meaning c.args.input } in
    let text = c.new.ensures ∙ c.in_ok-from_slice.ensures.items in
    let items = c.in_ok-push.ensures.items in
    let scenes : map scene_meaning c.push.new.self.items ≡ map scene_meaning old.scenes.items ++ added ∷ [] = ap (map scene_meaning) items ∙ scenes_push old.scenes.items _ ∙ ap (λ t. map scene_meaning old.scenes.items ++ record { name = t; top = c.args.top; script = input_meaning c.args.input } ∷ []) text in
    let keys = c.in_ok-insert.ensures.keys in
    let long = ap length (keys ∙ keys_added old.names.keys c.args.name c.requires.new) ∙ length-append old.names.keys (c.args.name ∷ []) in
    let room = c.requires.room in
    record {
      told = λ above script v e.
          let at : record { part = ScenesAreDue; show = record { width = old.width; height = old.height; scenes = map scene_meaning c.push.new.self.items; acts = old.acts.items } } ≡ told_with_scene (begun name c.args.top above script) (in_scene (begun name c.args.top above script) (show_read old)) (input_meaning c.args.input) = ap (λ xs. record { part = ScenesAreDue; show = record { width = old.width; height = old.height; scenes = xs; acts = old.acts.items } }) scenes in
          subst (λ (w : ShowInput). record { part = ScenesAreDue; show = record { width = old.width; height = old.height; scenes = map scene_meaning c.push.new.self.items; acts = old.acts.items } } ≡ told_with_scene (begun name c.args.top above script) (in_scene (begun name c.args.top above script) w) (input_meaning c.args.input)) (sym e) at;
      named = record {
        names = ap targets keys ∙ name_added old.names.keys c.args.name c.requires.new ∙ ap (λ ns. ns ++ name ∷ []) c.requires.named.names ∙ sym (ap (map (λ (s : SceneInput). s.name)) scenes ∙ names_push (map scene_meaning old.scenes.items) added);
        few = omega (arith, long, room);
      };
    }
