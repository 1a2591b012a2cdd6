-- What the list tells about the desk that it stands for, what it shows of a layer, and where two lists show the same.
use Rattle.std.specs.Prelude.{◌≡◌, ℕ, ◌==◌, false, ◌&&◌, ◌||◌, ℤ}
use Rattle.lw_region.specs.Rectangle.{has_pixel}
use Rattle.lw_region.specs.Bands.{covers}
use Rattle.lw_region.specs.Banded.{IsCanonical}
use Rattle.lw_machine.specs.Desk.{Desk}
use Rattle.lw_machine.specs.Screen.{bounds_have, screen_bounds, top, is_shown}
use Rattle.lw_machine.specs.Arrangement.{without}
use Rattle.lw_machine.specs.Parts.{info_part}
use Rattle.lw_stack.specs.Stack.{Stack, bounds_at, top_in, is_top_in, shown_list, StandsForInfo}

-- at each place the desk's top layer is the list's, and each layer is shown exactly where it is on top by the list
pub record TellsWhatIsShown (v : Stack) (d : Desk) : Type 0 where
  pub top : (x y : ℤ) → top d x y ≡ top_in v x y
  pub shown : (s : ℕ) (x y : ℤ) → is_shown d s x y ≡ is_top_in v s x y

-- the list tells of each desk of its sizes for whose LayerInfo it stands what is on top and what is shown
abbrev pub ListLaw : Type 0
ListLaw = (v : Stack) (d : Desk) → d.sizes ≡ v.sizes → StandsForInfo v (info_part d) → TellsWhatIsShown v d

-- the list of what is shown of a layer has the places where it is on top, for any list and bounds, and is canonical
abbrev pub ShownListLaw : Type 0
ShownListLaw =
    (v : Stack) (s : ℕ) → ((x y : ℤ) → covers (shown_list v s) x y ≡ is_top_in v s x y) × IsCanonical (shown_list v s)

-- Two lists of the same sizes differ in one slot alone: all others are in the same order, and have the same bounds.
pub record DifferAt (s : ℕ) (v w : Stack) : Type 0 where
  pub sizes : v.sizes ≡ w.sizes
  pub order : without s v.front_to_back ≡ without s w.front_to_back
  pub others : (t : ℕ) → (t == s) ≡ false → bounds_at v.bounds t ≡ bounds_at w.bounds t

-- outside the places of the screen that the bounds of that slot have in the one or in the other, both have the same layer on top
abbrev pub ElsewhereLaw : Type 0
ElsewhereLaw =
    (s : ℕ) (v w : Stack) (x y : ℤ) → DifferAt s v w
    → (has_pixel (screen_bounds v.sizes) x y
    && (bounds_have (bounds_at v.bounds s) x y || bounds_have (bounds_at w.bounds s) x y)) ≡ false
    → top_in v x y ≡ top_in w x y
