-- A change of a live layer that an arrangement has made ready: its new clip rectangles, which of them get a new buffer, and which
-- the buffer of a former one.
use Rattle.std.specs.Prelude.{◌≡◌, ℕ, ◌<◌, ◌⊎◌, List, ◌++◌, map, length, ℤ, pos, ◌+ℤ◌, ◌-ℤ◌, Option, Some, None}
use Rattle.std.specs.List.{slice_index_or}
use Rattle.lw_region.specs.Rectangle.{Rectangle, moved_by, width, height}
use Rattle.lw_planes.specs.Bitmap.{Bitmap, bitmap}
use Rattle.lw_strips.specs.Strips.{StripView, held_by, rects_of}
use Rattle.lw_calls.specs.declared.make.Kind.{Kind}
use Rattle.lw_cliprects.specs.Parts.{hidden_of}
use Rattle.lw_layer.specs.View.{LiveView, kept_pen}
use Rattle.lw_layer.specs.Pieces.{IsDamageOf}
use Rattle.lw_layer.specs.Copied.{pen_over}
use Rattle.lw_layer.specs.New.{kept_hidden}
use Rattle.lw_reveal.specs.declared.change.Change.{Change}
use Rattle.lw_reveal.specs.Changed.{carried_to, MayHave}

-- the rectangles with a buffer beside an own bitmap: the visible ones, and after them a smart layer's hidden ones
abbrev pub beside_own : Kind → Rectangle → List Rectangle → List Rectangle
beside_own kind bounds visible = visible ++ kept_hidden kind (hidden_of bounds visible)

-- the former and the new rectangle with this number
abbrev pub former_rectangle : LiveView → ℕ → Rectangle
former_rectangle c n = slice_index_or (beside_own c.layer.kind c.bounds c.visible) n c.bounds

abbrev pub new_rectangle : LiveView → Change → ℕ → Rectangle
new_rectangle c k i = slice_index_or (beside_own c.layer.kind k.bounds k.parts.visible) i k.bounds

-- the pen that was told, or 0
abbrev pub pen_or_zero : Option ℕ → ℕ
pen_or_zero pen = pen_over 0 pen

-- which column or row of a layer stands at distance i from a rectangle's edge, where the bounds' edge shows the one at the scroll
abbrev pub layer_place : ℤ → ℤ → ℕ → ℕ → ℤ
layer_place edge low scroll i = ((edge +ℤ pos i) -ℤ low) +ℤ pos scroll

-- The bitmap of a rectangle of the layer, once it has these bounds: at each pixel the pen that the layer keeps there now, and
-- pen 0 where it doesn't keep the pixel.
abbrev pub carried : LiveView → Rectangle → Rectangle → Bitmap
carried c bounds r =
    bitmap (width r) (height r) c.layer.bits.depth
    (λ i j. pen_or_zero (kept_pen c (layer_place r.min_x bounds.min_x c.layer.scroll_x i)
    (layer_place r.min_y bounds.min_y c.layer.scroll_y j)))

-- the bitmaps that strips have, where they are solid, and after them those of the buffers
abbrev pub held_in : List StripView → List Bitmap → List (Option Bitmap)
held_in strips covered = map (λ s. held_by s) strips ++ map (λ b. Some b) covered

-- the bitmap of the new rectangle i, the visible ones first, if it has one
abbrev pub new_held : Change → ℕ → Option Bitmap
new_held k i = slice_index_or (held_in k.strips.items k.covered.items) i None

-- some former buffer is handed over to this place
abbrev pub IsGiven : List (Option ℕ) → ℕ → Type 0
IsGiven handed i = (n : ℕ) × (n < length handed) × (slice_index_or handed n None ≡ Some i)

-- The former buffer n may be handed over to the new rectangle i: this is the former rectangle, moved as the bounds are.
pub record MayBeHanded (c : LiveView) (k : Change) (n i : ℕ) : Type 0 where
  pub former : n < length (beside_own c.layer.kind c.bounds c.visible)
  pub place : i < length (beside_own c.layer.kind k.bounds k.parts.visible)
  pub same : moved_by (former_rectangle c n) (k.bounds.min_x -ℤ c.bounds.min_x) (k.bounds.min_y -ℤ c.bounds.min_y)
      ≡ new_rectangle c k i

-- The change makes of the layer what the arrangement reveals: its bounds are cut, and it may have them; its damage is that of the
-- revealed layer; each new rectangle has a strip or a buffer with the pens that the layer keeps, or is handed a former bitmap,
-- whose rectangle stays.
pub record IsChange (c : LiveView) (k : Change) : Type 0 where
  pub cut : k.parts.bounds ≡ k.bounds
  pub size : MayHave c k.bounds k.parts.visible
  pub revealed : IsDamageOf (carried_to k.bounds k.parts.visible c) k.damage
  pub shown : rects_of k.strips.items ≡ k.parts.visible
  pub hidden : length k.covered.items ≡ length (kept_hidden c.layer.kind (hidden_of k.bounds k.parts.visible))
  pub former : length k.handed.items ≡ length (beside_own c.layer.kind c.bounds c.visible)
  pub pens : (i : ℕ) → i < length (beside_own c.layer.kind k.bounds k.parts.visible)
      → (new_held k i ≡ Some (carried c k.bounds (new_rectangle c k i))) ⊎ IsGiven k.handed.items i
  pub moved : (n i : ℕ) → n < length k.handed.items → slice_index_or k.handed.items n None ≡ Some i → MayBeHanded c k n i
