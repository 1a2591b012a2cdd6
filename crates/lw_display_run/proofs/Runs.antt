-- What scenes leave, one after another.
use Rattle.std.proofs.Common.{◌≡◌, ℕ, ◌+◌, ◌<◌, List, [], ◌∷◌, ◌++◌, length, map, take, get_or, ap, sym, subst, ◌∙◌}
use Rattle.std.specs.List.{All}
use Rattle.std.proofs.lemmas.List.{map-append, take_more}
use Rattle.std.proofs.lemmas.List.Elements.{All-nil, All-cons, All-head, All-tail}
use Rattle.lw_display.specs.declared.show.Scene.{Scene}
use Rattle.lw_display.specs.ShowAnswers.{scene_meaning}
use Rattle.lw_display.specs.ShowLaws.{IsSceneOf}
use Rattle.lw_display.specs.Shows.{SceneInput}
use Rattle.lw_display.specs.ShowTexts.{screen_shown}
use Rattle.lw_display_run.specs.Ran.{IsInOrder, HaveRun}
use Rattle.lw_display_run.specs.declared.scenes.Ran.{Ran}

more : {A : Type 0} (f : SceneInput → A) (ss : List SceneInput) (s : SceneInput) (old new : List A) → old ≡ map f ss → new ≡ old ++ f s ∷ []
    → new ≡ map f (ss ++ s ∷ [])
more f ss s old new is push = push ∙ (ap (λ xs. xs ++ f s ∷ []) is ∙ sym (map-append f ss (s ∷ [])))

pub runs_more : (ss : List SceneInput) (s : SceneInput) (old new : Ran) → HaveRun ss old
    → new.names.items ≡ old.names.items ++ s.name ∷ [] → new.tops.items ≡ old.tops.items ++ s.top ∷ []
    → new.heights.items ≡ old.heights.items ++ s.script.plan.sizes.height ∷ [] → new.planes.items ≡ old.planes.items ++ screen_shown s ∷ []
    → HaveRun (ss ++ s ∷ []) new
runs_more ss s old new h names tops heights planes =
    record {
      names = more (λ (s : SceneInput). s.name) ss s old.names.items new.names.items h.names names;
      tops = more (λ (s : SceneInput). s.top) ss s old.tops.items new.tops.items h.tops tops;
      heights = more (λ (s : SceneInput). s.script.plan.sizes.height) ss s old.heights.items new.heights.items h.heights heights;
      planes = more screen_shown ss s old.planes.items new.planes.items h.planes planes;
    }

-- one scene more, of those that are there
pub runs_next : (all : List Scene) (i : ℕ) (scene : Scene) (ran : Ran) → i < length all → scene ≡ get_or all i scene
    → HaveRun (map scene_meaning (take i all) ++ scene_meaning scene ∷ []) ran → HaveRun (map scene_meaning (take (i + 1) all)) ran
runs_next all i scene ran there is h =
    let next : take (i + 1) all ≡ take i all ++ scene ∷ [] = take_more all i scene there ∙ ap (λ s. take i all ++ s ∷ []) (sym is) in
    subst (λ ss. HaveRun ss ran) (sym (ap (map scene_meaning) next ∙ map-append scene_meaning (take i all) (scene ∷ []))) h

-- each scene of a show may be run
pub all_in_order : (height : ℕ) (scenes : List Scene) → All (IsSceneOf height) (map scene_meaning scenes) → All (λ s. IsInOrder (scene_meaning s)) scenes
all_in_order height [] h = All-nil (λ s. IsInOrder (scene_meaning s))
all_in_order height (s ∷ ss) h =
    All-cons (λ s. IsInOrder (scene_meaning s)) s ss (All-head (IsSceneOf height) (scene_meaning s) (map scene_meaning ss) h).legal
    (all_in_order height ss (All-tail (IsSceneOf height) (scene_meaning s) (map scene_meaning ss) h))
