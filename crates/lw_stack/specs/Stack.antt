-- LayerInfo as contracts see it: its part of the desk (the manual's Layers Library chapter: the `Layer_Info` structure; the
-- active window is this project's own).
use Rattle.std.specs.Prelude.{◌≡◌, ℕ, ◌<◌, Bool, false, ◌&&◌, if◌then◌else◌, List, [], length, ℤ, Option, Some, None, IsTrue}
use Rattle.std.specs.List.{find, filter, slice_index_or}
use Rattle.lw_region.specs.Rectangle.{Rectangle, has_pixel, IsOrdered}
use Rattle.lw_region.specs.Pixels.{Pixel}
use Rattle.lw_region.specs.Bands.{bands, covers}
use Rattle.lw_region.specs.Regions.{rectangle_set}
use Rattle.lw_calls.specs.declared.sizes.Sizes.{Sizes}
use Rattle.lw_calls.specs.Limits.{IsWithinLimits}
use Rattle.lw_calls.specs.Orders.{occurrences}
use Rattle.lw_machine.specs.Desk.{is_the}
use Rattle.lw_machine.specs.Screen.{bounds_have, top_at}
use Rattle.lw_machine.specs.Arrangement.{may_lie_at}
use Rattle.lw_machine.specs.Reveal.{has_bounds}
use Rattle.lw_machine.specs.Parts.{InfoPart}
use Rattle.lw_stack.specs.declared.info.InfoDraft.{InfoDraft}

-- The sizes; the slots of the live layers from front to back; by slot the bounds, in places of the screen, off which they may lie
-- from version 2 on, or none where it isn't live; and the active window.
pub record Stack : Type 0 where
  pub sizes : Sizes
  pub front_to_back : List ℕ
  pub bounds : List (Option Rectangle)
  pub active : Option ℕ

-- the bounds of a slot
abbrev pub bounds_at : List (Option Rectangle) → ℕ → Option Rectangle
bounds_at bounds s = slice_index_or bounds s None

-- the slot of the first layer of the list whose bounds have the place
unfoldable pub first_at : List (Option Rectangle) → List ℕ → ℤ → ℤ → Option ℕ
first_at bounds slots x y = find (λ s. bounds_have (bounds_at bounds s) x y) slots

-- the layer in slot s is the first of the list whose bounds have the place
abbrev pub is_first_at : List (Option Rectangle) → List ℕ → ℕ → ℤ → ℤ → Bool
is_first_at bounds slots s x y = is_the (first_at bounds slots x y) s

-- the slot of the layer that is on top of a place; a place off the screen has no top
unfoldable pub top_in : Stack → ℤ → ℤ → Option ℕ
top_in v x y = top_at v.sizes (bounds_at v.bounds) v.front_to_back x y

-- the layer in slot s is on top of the place
abbrev pub is_top_in : Stack → ℕ → ℤ → ℤ → Bool
is_top_in v s x y = is_the (top_in v x y) s

-- the pixels of the bounds, if there are any
abbrev pub pixels_in : Option Rectangle → List Pixel
pixels_in None = []
pixels_in (Some r) = rectangle_set r

-- the canonical list of the places where the layer in slot s is on top, all of which are in its bounds
unfoldable pub shown_list : Stack → ℕ → List Rectangle
shown_list v s = bands (filter (λ p. is_top_in v s p.x p.y) (pixels_in (bounds_at v.bounds s)))

-- bounds, if there are any, have a pixel, and a layer may lie there
abbrev pub IsPlacedOn : Sizes → Option Rectangle → Type 0
IsPlacedOn sizes None = Unit {0}
IsPlacedOn sizes (Some r) = IsOrdered r × IsTrue (may_lie_at sizes r)

-- What holds of every list of layers: there are bounds or none for each slot, the list has each slot with bounds once and no
-- other, and a layer may lie at its bounds.
pub record IsStack (v : Stack) : Type 0 where
  pub limits : IsWithinLimits v.sizes
  pub many : length v.bounds ≡ v.sizes.slots
  pub listed : (s : ℕ) → occurrences s v.front_to_back ≡ (if has_bounds (bounds_at v.bounds s) then 1 else 0)
  pub placed : (s : ℕ) → IsPlacedOn v.sizes (bounds_at v.bounds s)

-- what a draft says, on a screen of these sizes
abbrev pub stack_of : Sizes → InfoDraft → Stack
stack_of sizes d = record { sizes = sizes; front_to_back = d.order.items; bounds = d.bounds.items; active = d.active }

-- It stands for LayerInfo's part of a desk, but for the shelf of hooks, which lies beside it.
pub record StandsForInfo (v : Stack) (p : InfoPart) : Type 0 where
  pub front_to_back : p.front_to_back ≡ v.front_to_back
  pub bounds : (s : ℕ) → p.bounds s ≡ bounds_at v.bounds s
  pub active : p.active ≡ v.active

-- The lists of rectangles have, by slot, the places of an area on which its layer is the first of the list.
pub record AreShownIn (area : List Rectangle) (bounds : List (Option Rectangle)) (slots : List ℕ)
    (sets : List (List Rectangle)) : Type 0 where
  pub many : length sets ≡ length bounds
  pub places : (s : ℕ) (x y : ℤ) → s < length bounds
      → covers (slice_index_or sets s []) x y ≡ (covers area x y && is_first_at bounds slots s x y)

-- none of the rectangles has a pixel of the one
abbrev pub LieApart : List Rectangle → Rectangle → Type 0
LieApart rects r = (x y : ℤ) → (covers rects x y && has_pixel r x y) ≡ false
