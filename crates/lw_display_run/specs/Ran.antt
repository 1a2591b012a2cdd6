-- For private contracts.
-- What scenes leave whose scripts were run.
use Rattle.std.specs.Prelude.{◌≡◌, true, List, map}
use Rattle.lw_calls.specs.Orders.{is_legal}
use Rattle.lw_display.specs.Shows.{SceneInput}
use Rattle.lw_display.specs.ShowTexts.{screen_shown}
use Rattle.lw_display_run.specs.declared.scenes.Ran.{Ran}

-- a scene whose script has a legal order
abbrev pub IsInOrder : SceneInput → Type 0
IsInOrder s = is_legal s.script.plan s.script.order ≡ true

-- of each scene there is its screen's name, where that opens, how many rows it has, and what its script leaves on it
pub record HaveRun (scenes : List SceneInput) (ran : Ran) : Type 0 where
  pub names : ran.names.items ≡ map (λ (s : SceneInput). s.name) scenes
  pub tops : ran.tops.items ≡ map (λ (s : SceneInput). s.top) scenes
  pub heights : ran.heights.items ≡ map (λ (s : SceneInput). s.script.plan.sizes.height) scenes
  pub planes : ran.planes.items ≡ map screen_shown scenes
