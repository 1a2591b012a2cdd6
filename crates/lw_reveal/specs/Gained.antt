-- For private contracts.
-- The damage of a layer that gets other bounds or another visible region, pixel by pixel
-- in layer coordinates (the manual's Layers Library chapter: the damage list).
use Rattle.std.specs.Prelude.{◌≡◌, Bool, not, ◌&&◌, List, [], ℤ, Option}
use Rattle.lw_region.specs.Rectangle.{Rectangle, IsOrdered, width, height}
use Rattle.lw_region.specs.Bands.{covers}
use Rattle.lw_calls.specs.declared.make.Kind.TheVariants.{Smart}
use Rattle.lw_damage.specs.Damaged.{may_lie}
use Rattle.lw_layer.specs.View.{LiveView}
use Rattle.lw_layer.specs.Pieces.{damage_table}

-- what is left of a set once another one was taken out of it, of which some was spared
abbrev pub is_left : Bool → Bool → Bool → Bool
is_left here taken spared = here && not (taken && not spared)

-- these rectangles have the pixels that are left of the third ones, once the first ones were taken out without the second ones
abbrev pub AreLeft : List Rectangle → List Rectangle → List Rectangle → List Rectangle → Type 0
AreLeft taken spared from made = (x y : ℤ) → covers made x y ≡ is_left (covers from x y) (covers taken x y) (covers spared x y)

-- The layer is a smart one without damage, and these bounds, which are in order, have the size of its own.
pub record StaysUndamaged (c : LiveView) (bounds : Rectangle) : Type 0 where
  pub smart : c.layer.kind ≡ Smart
  pub wide : width bounds ≡ width c.bounds
  pub high : height bounds ≡ height c.bounds
  pub ordered : IsOrdered bounds
  pub undamaged : c.layer.damage ≡ damage_table c.layer.bits []

-- these rectangles have the pixels of the rectangle, if there is one
abbrev pub AreOf : Option Rectangle → List Rectangle → Type 0
AreOf place made = (x y : ℤ) → covers made x y ≡ may_lie place x y
