-- Regions by slot, of which few have pixels.
use Rattle.std.specs.Prelude.{◌≡◌, ℕ, ◌<◌, ◌≤◌, ◌==◌, false, if◌then◌else◌, List, [], ◌∷◌, length, take, map}
use Rattle.std.specs.List.{range_with_len, slice_index_or}
use Rattle.lw_region.specs.Rectangle.{Rectangle}
use Rattle.lw_stack.specs.declared.sets.SlotSet.{SlotSet}

-- A region for each slot.
pub record SetsView : Type 0 where
  pub items : List (List Rectangle)

-- the region of the slot, by the first of these that is its
abbrev pub set_of : List SlotSet → ℕ → List Rectangle
set_of [] s = []
set_of (p ∷ ps) s = if p.slot == s then p.set else set_of ps s

-- the regions of so many slots
abbrev pub sets_of : ℕ → List SlotSet → List (List Rectangle)
sets_of n ps = map (λ s. set_of ps s) (range_with_len 0 n)

-- none of these is the slot's
abbrev pub AreOfOthers : ℕ → List SlotSet → Type 0
AreOfOthers s [] = Unit {0}
AreOfOthers s (p ∷ ps) = ((p.slot == s) ≡ false) × AreOfOthers s ps

-- each of these is of another one of so many slots
abbrev pub AreOfSlots : ℕ → List SlotSet → Type 0
AreOfSlots n [] = Unit {0}
AreOfSlots n (p ∷ ps) = (p.slot < n) × AreOfOthers p.slot ps × AreOfSlots n ps

-- For private contracts.
-- The place of the slot's region in the list, or the list's length where it has none.
pub record IsPlaceOf (s : ℕ) (ps : List SlotSet) (i : ℕ) : Type 0 where
  pub within : i ≤ length ps
  pub others : AreOfOthers s (take i ps)
  pub own : (p : SlotSet) → i < length ps → (slice_index_or ps i p).slot ≡ s
