-- For private contracts.
-- Which pixels are damaged after a scroll, in layer coordinates.
use Rattle.std.specs.Prelude.{◌≡◌, ℕ, ◌<◌, Bool, true, false, not, ◌&&◌, if◌then◌else◌, List, ℤ, ◌+ℤ◌, Option, Some, None}
use Rattle.lw_planes.specs.Grid.{grid, at}
use Rattle.lw_region.specs.Rectangle.{Rectangle, has_pixel, IsWord}
use Rattle.lw_region.specs.Pixels.{Pixel, contains_pixel}
use Rattle.lw_region.specs.Bands.{covers}
use Rattle.lw_damage.specs.Damaged.{Damaged, may_lie}
use Rattle.lw_machine.specs.Kept.{holds_at}
use Rattle.lw_layer.specs.View.{LiveView, keeps, draws, with_layer}
use Rattle.lw_layer.specs.Pieces.{inner_in, IsDamageOf}
use Rattle.lw_scroll.specs.Scrolled.{scrolled_damage}

-- the rectangles have the pixels that the layer keeps
abbrev pub AreKept : LiveView → List Rectangle → Type 0
AreKept c kept = (x y : ℤ) → covers kept x y ≡ holds_at (λ i j. keeps c i j) x y

-- The layer keeps each of its pixels, and none is damaged.
pub record IsWhole (c : LiveView) : Type 0 where
  pub kept : (x y : ℕ) → x < c.layer.bits.width → y < c.layer.bits.height → keeps c x y ≡ true
  pub sound : c.layer.damage ≡ grid c.layer.bits.width c.layer.bits.height (λ x y. false)

-- the clip region, if there is one, has the pixel at column x and row y
abbrev pub clip_has : Option (List Pixel) → ℤ → ℤ → Bool
clip_has None x y = true
clip_has (Some set) x y = contains_pixel set x y

-- they have the pixels of others that the clip region has
abbrev pub AreClipped : LiveView → List Rectangle → List Rectangle → Type 0
AreClipped c before made = (x y : ℤ) → covers made x y ≡ (covers before x y && clip_has c.layer.clip x y)

-- they have the drawable pixels of a rectangle
abbrev pub AreDrawable : LiveView → Rectangle → List Rectangle → Type 0
AreDrawable c target made = (x y : ℤ) → covers made x y ≡ (holds_at (λ i j. draws c i j) x y && has_pixel target x y)

-- a pixel is damaged or isn't kept
abbrev pub is_hurt : List Rectangle → List Rectangle → ℤ → ℤ → Bool
is_hurt kept former x y = not (covers kept x y && not (covers former x y))

-- they have the pixels that lead to a hurt one of the rectangle, dx columns to the right and dy rows down
abbrev pub LeadToHurt : List Rectangle → List Rectangle → Rectangle → ℤ → ℤ → List Rectangle → Type 0
LeadToHurt kept former source dx dy made =
    (x y : ℤ) → covers made x y ≡ (has_pixel source (x +ℤ dx) (y +ℤ dy) && is_hurt kept former (x +ℤ dx) (y +ℤ dy))

-- they have what is damaged of the pixels that something is brought to, and of the others what was
abbrev pub AreDue : List Rectangle → List Rectangle → List Rectangle → List Rectangle → Type 0
AreDue former reached hurt made =
    (x y : ℤ) → covers made x y ≡ (if covers reached x y then covers hurt x y else covers former x y)

-- the pixel is damaged
abbrev pub is_damaged : LiveView → ℤ → ℤ → Bool
is_damaged c x y = holds_at (λ i j. at false c.layer.damage i j) x y

-- The pixel is damaged after a scroll: a drawable one of the target where the one that it takes was damaged or isn't kept, and
-- each other one where it was damaged itself.
abbrev pub moved_mark : LiveView → Rectangle → ℤ → ℤ → ℤ → ℤ → Bool
moved_mark c target dx dy x y =
    if holds_at (λ i j. draws c i j) x y && has_pixel target x y
    then not (holds_at (λ i j. keeps c i j) (x +ℤ dx) (y +ℤ dy) && not (is_damaged c (x +ℤ dx) (y +ℤ dy)))
    else is_damaged c x y

-- the damage has these pixels, as far as damage may lie there
pub record IsMovedDamage (c : LiveView) (target : Rectangle) (dx dy : ℤ) (d : Damaged) : Type 0 where
  pub pixels : (x y : ℤ) → covers d.rects x y ≡ (moved_mark c target dx dy x y && may_lie d.inner x y)
  pub inner : d.inner ≡ inner_in c
  pub updating : d.updating ≡ c.layer.updating

-- the damage after a scroll, or none where it is as it was
abbrev pub IsDamageAfter : LiveView → Rectangle → ℤ → ℤ → Option Damaged → Type 0
IsDamageAfter c rect dx dy None = scrolled_damage c rect dx dy ≡ c.layer.damage
IsDamageAfter c rect dx dy (Some d) = IsDamageOf (with_layer (λ l. record l { damage = scrolled_damage c rect dx dy }) c) d

-- the target's pixels lead to those of the source, and have words for their places
pub record AreShifted (target source : Rectangle) (dx dy : ℤ) : Type 0 where
  pub pixels : (x y : ℤ) → has_pixel target x y ≡ has_pixel source (x +ℤ dx) (y +ℤ dy)
  pub words : (x y : ℤ) → has_pixel target x y ≡ true → IsWord x × IsWord y
