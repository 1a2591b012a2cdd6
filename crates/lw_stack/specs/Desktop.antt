-- The desktop: what of the screen no layer has, as strips without a pen (that it is kept as strips is this project's own).
use Rattle.std.specs.Prelude.{◌≡◌, Bool, not, ◌&&◌, List, ℤ}
use Rattle.std.specs.List.{All}
use Rattle.std.specs.Option.{is_some}
use Rattle.lw_region.specs.Rectangle.{has_pixel}
use Rattle.lw_region.specs.Bands.{covers}
use Rattle.lw_strips.specs.Strips.{StripView, blank_planes, rects_of}
use Rattle.lw_strips.specs.Laying.{screen, AreDisjoint}
use Rattle.lw_stack.specs.Stack.{Stack, first_at}

-- a place of the screen without a layer
abbrev pub is_bare : Stack → ℤ → ℤ → Bool
is_bare v x y = has_pixel (screen v.sizes.width v.sizes.height) x y && not (is_some (first_at v.bounds v.front_to_back x y))

-- The desktop's strips are disjoint, have the places of the screen without a layer, and pen 0 on each of the screen's planes.
pub record IsDesktop (v : Stack) (strips : List StripView) : Type 0 where
  pub disjoint : AreDisjoint strips
  pub places : (x y : ℤ) → covers (rects_of strips) x y ≡ is_bare v x y
  pub pens : All (λ s. s.planes ≡ blank_planes s.rect v.sizes.depth) strips
