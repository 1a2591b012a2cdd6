-- Which pixels of a layer are visible, kept and drawable, and where damage may lie (the manual's Layers Library chapter;
-- which pixels each kind keeps is this project's own).
use Rattle.std.specs.Prelude.{ℕ, ◌+◌, Bool, true, false, not, ◌&&◌, ◌||◌, nat_lt, nat_le, if◌then◌else◌, ℤ, pos, negsuc, ◌+ℤ◌}
use Rattle.std.specs.Prelude.{◌-ℤ◌, List, Option, Some, None}
use Rattle.lw_region.specs.Rectangle.{Rectangle}
use Rattle.lw_region.specs.Pixels.{Pixel, contains_pixel}
use Rattle.lw_planes.specs.Grid.{at}
use Rattle.lw_calls.specs.declared.make.Kind.{Kind}
use Rattle.lw_calls.specs.declared.make.Kind.TheVariants.{Simple, Smart, SuperBitmap}
use Rattle.lw_machine.specs.Layer.{Layer, is_framed}
use Rattle.lw_calls.specs.Kinds.{is_super}
use Rattle.lw_machine.specs.Desk.{Desk}
use Rattle.lw_machine.specs.Screen.{is_shown}

-- the place on the screen of the layer pixel p, along one axis: the layer's edge shows the pixel at its scroll
abbrev pub screen_place : ℤ → ℕ → ℕ → ℤ
screen_place edge scroll p = (edge +ℤ pos p) -ℤ pos scroll

-- Pixel (x, y) of a layer with these bounds and this scroll lies on a place where the layer is shown.
abbrev pub visible_within : (ℤ → ℤ → Bool) → Option Rectangle → ℕ → ℕ → ℕ → ℕ → Bool
visible_within shown None scroll_x scroll_y x y = false
visible_within shown (Some r) scroll_x scroll_y x y = shown (screen_place r.min_x scroll_x x) (screen_place r.min_y scroll_y y)

-- the layer in slot s shows its pixel (x, y): the top of the place on which it lies is this layer
unfoldable pub is_visible : Desk → ℕ → Layer → ℕ → ℕ → Bool
is_visible d s l x y = visible_within (is_shown d s) (d.bounds s) l.scroll_x l.scroll_y x y

-- the layer's bits have a pixel (x, y)
abbrev pub in_bits : Layer → ℕ → ℕ → Bool
in_bits l x y = nat_lt x l.bits.width && nat_lt y l.bits.height

-- what each kind keeps of its bits: a simple layer what is visible, a smart and a super-bitmap layer all
abbrev pub kept_as : Kind → Bool → Bool
kept_as Simple visible = visible
kept_as Smart visible = true
kept_as SuperBitmap visible = true

-- The layer keeps its pixel (x, y), where it shows the pixels that visible says.
unfoldable pub is_kept : (ℕ → ℕ → Bool) → Layer → ℕ → ℕ → Bool
is_kept visible l x y = in_bits l x y && kept_as l.kind (visible x y)

-- the pixel is in the clip region, if there is one
abbrev pub in_clip : Option (List Pixel) → ℕ → ℕ → Bool
in_clip None x y = true
in_clip (Some set) x y = contains_pixel set (pos x) (pos y)

-- Pixel (x, y) is drawable: it is kept, it lies in the clip region if there is one, and it is damaged if the layer is
-- updating.
unfoldable pub is_drawable : (ℕ → ℕ → Bool) → Layer → ℕ → ℕ → Bool
is_drawable visible l x y = is_kept visible l x y && (in_clip l.clip x y && (not l.updating || at false l.damage x y))

-- A test on layer pixels, asked at signed coordinates: no layer has a pixel left of or above its pixel (0, 0).
abbrev pub holds_at : (ℕ → ℕ → Bool) → ℤ → ℤ → Bool
holds_at test (pos x) (pos y) = test x y
holds_at test (pos x) (negsuc y) = false
holds_at test (negsuc x) y = false

-- The inner rectangle of a layer that is w wide and h high, in layer coordinates: of a framed window what its frame
-- leaves, which is 4 columns wide on the left, 11 rows high at the top, 4 columns on the right and 2 rows at the bottom;
-- of any other layer all (Intuition Windows; the widths are this project's own).
unfoldable pub in_inner : Bool → ℕ → ℕ → ℕ → ℕ → Bool
in_inner framed w h x y =
    if framed
    then (nat_le 4 x && nat_lt (x + 4) w) && (nat_le 11 y && nat_lt (y + 2) h)
    else nat_lt x w && nat_lt y h

-- the pixel lies in the layer's inner rectangle, for a layer whose bits have the size of its bounds
abbrev pub is_inside : Layer → ℕ → ℕ → Bool
is_inside l x y = in_inner (is_framed l.window) l.bits.width l.bits.height x y

-- The pixel lies in the layer's inner rectangle, and the layer isn't a super-bitmap layer, which never has damage.
-- Damage lies on such pixels alone, and of them on kept ones.
abbrev pub may_be_damaged : Layer → ℕ → ℕ → Bool
may_be_damaged l x y = not (is_super l.kind) && is_inside l x y
