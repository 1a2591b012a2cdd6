-- A program's desk as contracts see it.
use Rattle.std.specs.Prelude.{◌≡◌, ℕ, Bool, true, ◌&&◌, nat_le, List, All, Option, Some}
use Rattle.lw_region.specs.Rectangle.{Rectangle, IsOrdered}
use Rattle.lw_calls.specs.Assets.{Assets}
use Rattle.lw_calls.specs.declared.sizes.Sizes.{Sizes}
use Rattle.lw_calls.specs.Limits.{IsWithinLimits}
use Rattle.lw_machine.specs.Desk.{Desk}
use Rattle.lw_machine.specs.Screen.{screen_bounds}
use Rattle.lw_changes.specs.Changed.{has_all}
use Rattle.lw_layer.specs.View.{Live, LiveView, CellView, with_layer}
use Rattle.lw_engine.specs.Layers.{InfoView, layer_relations}
use Rattle.lw_runs.specs.Standing.{StandForDesk}

-- the parts of a desk: LayerInfo, the cells of all slots, and the registers of the one task
pub record PartsView : Type 0 where
  pub info : InfoView
  pub cells : List CellView
  pub registers : List (List (List Rectangle))

-- the desk: what it was opened with, its parts, which it always holds between calls, and where the screen may have changed since
-- the list was empty
pub record DeskView : Type 0 where
  pub sizes : Sizes
  pub assets : Assets
  pub held : Option PartsView
  pub changes : List Rectangle

-- the desk with another list of changes
abbrev pub with_changes : DeskView → List Rectangle → DeskView
with_changes v changes = record { sizes = v.sizes; assets = v.assets; held = v.held; changes = changes }

-- the parts stand for this desk of the machine
abbrev pub PartsAre : Sizes → Assets → PartsView → Desk → Type 0
PartsAre sizes assets p d = StandForDesk layer_relations sizes assets p.info p.cells p.registers d

-- it stands for this desk of the machine
pub record StandsFor (v : DeskView) (d : Desk) : Type 0 where
  pub parts : PartsView
  pub held : v.held ≡ Some parts
  pub stand : PartsAre v.sizes v.assets parts d

-- It stands for some desk, with sizes that a desk may have and one task, and its changes are ordered and lie on the screen.
pub record IsKept (v : DeskView) : Type 0 where
  pub desk : Desk
  pub stands : StandsFor v desk
  pub limits : IsWithinLimits v.sizes
  pub task : v.sizes.tasks ≡ 1
  pub on_screen : has_all (screen_bounds v.sizes) v.changes ≡ true
  pub ordered : All IsOrdered v.changes

-- For private contracts: the layer of a live cell, whose hook lies beside it.
pub record IsLayerIn (c : CellView) (l : LiveView) : Type 0 where
  pub live : c.state ≡ Live
  pub layer : c.live ≡ with_layer (λ k. record k { hook = c.live.layer.hook }) l

-- For private contracts: a number from 1 to `most`.
abbrev pub is_from_one : ℕ → ℕ → Bool
is_from_one n most = nat_le 1 n && nat_le n most
