-- Worked cases.
-- Damage by the history, beside the damage that the machine keeps.
use Rattle.std.specs.Prelude.{◌≡◌, ℕ, List, []}
use Rattle.lw_region.specs.Pixels.{Pixel}
use Rattle.lw_machine.specs.Hook.{Hook}
use Rattle.lw_machine.specs.Layer.{Slot, Unopened, Live, Closed}
use Rattle.lw_calls.specs.Plan.{Plan}
use Rattle.lw_calls.specs.Entries.{entries}
use Rattle.lw_machine.specs.History.{machine}
use Rattle.lw_machine.specs.Finals.{pixels_where, damage_set, opening_desk}
use Rattle.lw_machine.specs.Hurt.{is_hurt}

-- The pixels that are hurt in a slot by the history of a run, from nothing hurt on. They are looked for in a table as large
-- as the screen, which has each pixel that these layers have.
abbrev pub hurt_in : Plan → List Hook → List ℕ → ℕ → List Pixel
hurt_in plan hooks order slot =
    pixels_where plan.sizes.width plan.sizes.height (is_hurt (opening_desk plan hooks) (entries plan [] order) slot)

-- the damaged pixels of a slot's layer, and none of a slot without one
abbrev pub damage_of : Slot → List Pixel
damage_of Unopened = []
damage_of (Live l) = damage_set l
damage_of Closed = []

-- the damaged pixels of a slot's layer at the end of a run
abbrev pub damaged_in : Plan → List Hook → List ℕ → ℕ → List Pixel
damaged_in plan hooks order slot = damage_of ((machine (opening_desk plan hooks) (entries plan [] order)).slot slot)

-- The damage of a slot's layer at the end of a run is that by the history: both are these pixels.
pub record HasDamageByHistory (plan : Plan) (hooks : List Hook) (order : List ℕ) (slot : ℕ) (pixels : List Pixel) : Type 0 where
  pub hurt : hurt_in plan hooks order slot ≡ pixels
  pub kept : damaged_in plan hooks order slot ≡ pixels
