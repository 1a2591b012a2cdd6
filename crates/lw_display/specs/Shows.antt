-- What a show is: a display, the scenes whose screens open on it one after another, and what is then done to these screens.
use Rattle.std.specs.Prelude.{ℕ, List, [], map}
use Rattle.lw_grammar.specs.Script.{ScriptInput}
use Rattle.lw_screens.specs.declared.act.Act.{Act}

-- A scene: the name of its screen, the row of the display at which that opens, and what its script gives.
pub record SceneInput : Type 0 where
  pub name : List ℕ
  pub top : ℕ
  pub script : ScriptInput

-- A show: the columns and rows of the display, its scenes, and the acts on their screens.
pub record ShowInput : Type 0 where
  pub width : ℕ
  pub height : ℕ
  pub scenes : List SceneInput
  pub acts : List Act

-- a show of which nothing was said
abbrev pub nothing_shown : ShowInput
nothing_shown = record { width = 0; height = 0; scenes = []; acts = [] }

-- the names of the scenes
abbrev pub scene_names : ShowInput → List (List ℕ)
scene_names v = map (λ (s : SceneInput). s.name) v.scenes
