-- How many rectangles a layer has, by how many layers are in front of it in a list.
use Rattle.std.specs.Prelude.{◌≡◌, ℕ, ◌+◌, ◌*◌, ◌<◌, ◌≤◌, ◌==◌, Bool, true, false, if◌then◌else◌, List, [], ◌∷◌, length, ℤ}
use Rattle.std.specs.Prelude.{Option, Some}
use Rattle.lw_region.specs.Rectangle.{Rectangle}
use Rattle.lw_region.specs.Bands.{covers}
use Rattle.lw_region.specs.Banded.{IsCanonical}
use Rattle.lw_calls.specs.declared.sizes.Sizes.{Sizes}
use Rattle.lw_calls.specs.Orders.{occurrences}
use Rattle.lw_cliprects.specs.Parts.{one_bounds, one_visible}
use Rattle.lw_machine.specs.Desk.{is_the}
use Rattle.lw_machine.specs.Screen.{top_at}
use Rattle.lw_machine.specs.Arrangement.{is_on_screen}
use Rattle.lw_bounds.specs.Cuts.{rectangle_count}

-- the slots before this one in a list: those of the layers in front of its layer; and the whole list where it isn't in it
abbrev pub in_front_of : ℕ → List ℕ → List ℕ
in_front_of s [] = []
in_front_of s (t ∷ ts) = if t == s then [] else t ∷ in_front_of s ts

-- how many layers are in front of the layer in slot s, whether they meet it or not
abbrev pub front_count : ℕ → List ℕ → ℕ
front_count s slots = length (in_front_of s slots)

-- the layer in slot s is the top of the place, by a list and by bounds
abbrev pub is_on_top : Sizes → (ℕ → Option Rectangle) → List ℕ → ℕ → ℤ → ℤ → Bool
is_on_top sizes bounds slots s x y = is_the (top_at sizes bounds slots x y) s

-- how many rectangles a layer has at most with n layers in front of it, by whether it lies on the screen
abbrev pub rectangle_limit : Bool → ℕ → ℕ
rectangle_limit true n = (2 * n + 1) * (2 * n + 1)
rectangle_limit false n = (2 * n + 3) * (2 * n + 3)

-- A layer with n layers in front of it in a list has at most (2n + 3) (2n + 3) rectangles, visible and hidden together, where the
-- visible ones are the canonical list of the places on which it is on top; and at most (2n + 1) (2n + 1) where all of it lies on
-- the screen.
abbrev pub RectanglesInListsAreFew : Type 0
RectanglesInListsAreFew =
    (sizes : Sizes) (bounds : ℕ → Option Rectangle) (slots : List ℕ) (s : ℕ) (own : Rectangle) (visible : List Rectangle)
    → 0 < occurrences s slots → bounds s ≡ Some own → IsCanonical visible
    → ((x y : ℤ) → is_on_top sizes bounds slots s x y ≡ covers visible x y)
    → rectangle_count own visible ≤ rectangle_limit (is_on_screen sizes own) (front_count s slots)

-- Worked examples: no layer is in front of the first one of a list, and two are in front of the third; the bounds 0 0 7 3 under
-- one cover 3 1 4 2 have four visible rectangles and a hidden one.
pub record CountedExamples : Type 0 where
  pub first : front_count 5 (5 ∷ 2 ∷ 7 ∷ []) ≡ 0
  pub third : front_count 7 (5 ∷ 2 ∷ 7 ∷ []) ≡ 2
  pub one_cover : rectangle_count one_bounds one_visible ≡ 5
