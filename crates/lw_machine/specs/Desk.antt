-- The desk: all that the machine remembers (the manual's Layers Library chapter: Layer_Info and its layers).
use Rattle.std.specs.Prelude.{ℕ, ◌==◌, Bool, false, if◌then◌else◌, List, [], ◌∷◌, Option, Some, None}
use Rattle.std.specs.List.{slice_get}
use Rattle.lw_region.specs.Rectangle.{Rectangle}
use Rattle.lw_region.specs.Pixels.{Pixel}
use Rattle.lw_calls.specs.declared.sizes.Sizes.{Sizes}
use Rattle.lw_calls.specs.Assets.{Assets}
use Rattle.lw_machine.specs.Hook.{Hook}
use Rattle.lw_machine.specs.Layer.{Slot, Unopened}

-- The sizes and what the script handed in; what LayerInfo keeps (the manual's Layer_Info; the active window and the shelf are
-- this project's own), which is the slots of the live layers from front to back, each one's bounds in screen coordinates, the
-- active window, and the shelf of hooks that no call took; the slots; and by task and register the sets of pixels of the region
-- registers.
pub record Desk : Type 0 where
  pub sizes : Sizes
  pub assets : Assets
  pub front_to_back : List ℕ
  pub bounds : ℕ → Option Rectangle
  pub active : Option ℕ
  pub shelf : ℕ → Option Hook
  pub slot : ℕ → Slot
  pub registers : ℕ → ℕ → List Pixel

-- the desk before the first call: nothing was created, and all registers are empty
abbrev pub empty_desk : Sizes → Assets → (ℕ → Option Hook) → Desk
empty_desk sizes assets shelf =
    record {
      sizes = sizes;
      assets = assets;
      front_to_back = [];
      bounds = λ _. None;
      active = None;
      shelf = shelf;
      slot = λ _. Unopened;
      registers = λ _ _. [];
    }

-- the shelf of these hooks, by their numbers
abbrev pub shelf_of : List Hook → ℕ → Option Hook
shelf_of hooks n = slice_get hooks n

-- f with the value v at n
abbrev pub with_value : {A : Type 0} → ℕ → A → (ℕ → A) → ℕ → A
with_value n v f k = if k == n then v else f k

-- f with the value at each of these numbers changed
abbrev pub change_each : {A : Type 0} → List ℕ → (ℕ → A → A) → (ℕ → A) → ℕ → A
change_each [] change f = f
change_each (n ∷ ns) change f = with_value n (change n (f n)) (change_each ns change f)

-- the number is the one that is told
abbrev pub is_the : Option ℕ → ℕ → Bool
is_the None n = false
is_the (Some m) n = m == n
