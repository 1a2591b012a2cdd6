-- A scene added to those that were read.
use Rattle.std.proofs.Common.{◌≡◌, ℕ, ◌<◌, Bool, true, false, not, List, [], ◌∷◌, ◌++◌, length, map, Ok, refl, sym, ap, ◌∙◌, arith, ℤ}
use Rattle.std.proofs.lemmas.Bool.{ltb-true}
use Rattle.std.proofs.lemmas.List.{length-map}
use Rattle.lw_grammar.specs.declared.reason.Reason.TheVariants.{Range, NoName, DoubleName, TooMany}
use Rattle.lw_grammar.specs.Demands.{◌>>=◌, demand}
use Rattle.lw_words.proofs.Targets.{length_targets}
use Rattle.lw_display.specs.declared.show.Scene.{Scene}
use Rattle.lw_display.specs.declared.state.ShowReader.{ShowReader}
use Rattle.lw_display.specs.Shows.{SceneInput, ShowInput}
use Rattle.lw_display.specs.ShowLines.{ShowLine, SceneLine, is_show_line_in_range, lacks_scene, names_again, has_room}
use Rattle.lw_display.specs.ShowMeaning.{show_read, IsNamed, Passes}
use Rattle.lw_display.specs.ShowAnswers.{scene_meaning}

-- a line that passes its tests passes each
pub record PassesAll (v : ShowInput) (line : ShowLine) : Type 0 where
  pub range : is_show_line_in_range v line ≡ true
  pub named : not (lacks_scene v line) ≡ true
  pub new : not (names_again v line) ≡ true
  pub room : has_room v line ≡ true

pub passes_all : (v : ShowInput) (line : ShowLine) → Passes v line → PassesAll v line
passes_all v line p =
    go (is_show_line_in_range v line) (not (lacks_scene v line)) (not (names_again v line)) (has_room v line) refl refl refl refl p
  where
    go : (a b c d : Bool) → is_show_line_in_range v line ≡ a → not (lacks_scene v line) ≡ b → not (names_again v line) ≡ c → has_room v line ≡ d → (demand a Range >>= (λ _. demand b NoName >>= (λ _. demand c DoubleName >>= (λ _. demand d TooMany)))) ≡ Ok tt → PassesAll v line
    go true true true true e f g h q = record { range = e; named = f; new = g; room = h }
    go true true true false e f g h q = absurd (cc)
    go true true false d e f g h q = absurd (cc)
    go true false c d e f g h q = absurd (cc)
    go false b c d e f g h q = absurd (cc)

-- how many names there are
pub names_long : (r : ShowReader) → IsNamed r → length r.names.keys ≡ length r.scenes.items
names_long r n =
    sym (length_targets r.names.keys) ∙ ap length n.names ∙ length-map (map scene_meaning r.scenes.items) (λ (s : SceneInput). s.name) ∙ length-map r.scenes.items scene_meaning

-- there is room for one more
pub room_left : (r : ShowReader) (name : List ℕ) (top : ℤ) → Passes (show_read r) (SceneLine name top) → IsNamed r → length r.names.keys < 8
room_left r name top p n =
    let room = ltb-true _ 8 (passes_all (show_read r) (SceneLine name top) p).room in
    let long = names_long r n in
    let same = length-map r.scenes.items scene_meaning in
    omega (arith, room, long, same)

-- scenes with one more
pub scenes_push : (xs : List Scene) (s : Scene) → map scene_meaning (xs ++ s ∷ []) ≡ map scene_meaning xs ++ scene_meaning s ∷ []
scenes_push [] s = refl
scenes_push (x ∷ xs) s = ap (λ ys. scene_meaning x ∷ ys) (scenes_push xs s)

pub names_push : (xs : List SceneInput) (s : SceneInput) → map (λ (t : SceneInput). t.name) (xs ++ s ∷ []) ≡ map (λ (t : SceneInput). t.name) xs ++ s.name ∷ []
names_push [] s = refl
names_push (x ∷ xs) s = ap (λ ys. x.name ∷ ys) (names_push xs s)
