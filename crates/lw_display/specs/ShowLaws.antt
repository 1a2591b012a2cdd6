-- What the definitions of shows promise.
use Rattle.std.specs.Prelude.{◌≡◌, ℕ, ◌<◌, ◌≤◌, true, List, length}
use Rattle.std.specs.List.{All}
use Rattle.lw_calls.specs.Plan.{IsPlan}
use Rattle.lw_calls.specs.Orders.{is_legal}
use Rattle.lw_screens.specs.Display.{acted_on}
use Rattle.lw_display.specs.Shows.{SceneInput, ShowInput}
use Rattle.lw_display.specs.ShowRule.{IsShow}

-- A scene of a display of so many rows: its screen opens on one of them, and its script may be run in its order.
pub record IsSceneOf (height : ℕ) (s : SceneInput) : Type 0 where
  pub top : s.top < height
  pub plan : IsPlan s.script.plan
  pub legal : is_legal s.script.plan s.script.order ≡ true

-- the sizes of a display
abbrev pub IsSize : ℕ → Type 0
IsSize n = (1 ≤ n) × (n ≤ 2048)

-- A show that may be shown: its display has sizes, it has 1 to 8 scenes, and each act is on the screen of one of them.
pub record IsShowable (v : ShowInput) : Type 0 where
  pub wide : IsSize v.width
  pub high : IsSize v.height
  pub some : 1 ≤ length v.scenes
  pub few : length v.scenes ≤ 8
  pub scenes : All (IsSceneOf v.height) v.scenes
  pub acts : All (λ act. acted_on act < length v.scenes) v.acts

-- Every show that bytes are may be shown.
abbrev pub ShowsAreShowable : Type 0
ShowsAreShowable = (bytes : List ℕ) (v : ShowInput) → IsShow bytes v → IsShowable v
