-- A cell as contracts see it: its slot's part of the desk.
use Rattle.std.specs.Prelude.{ℕ, Bool, List, ℤ, pos, negsuc, Option, Some, None, if◌then◌else◌}
use Rattle.lw_region.specs.Rectangle.{Rectangle}
use Rattle.lw_region.specs.Bands.{covers}
use Rattle.lw_planes.specs.Bitmap.{bitmap, pen_at}
use Rattle.lw_machine.specs.Hook.{Hook}
use Rattle.lw_machine.specs.Layer.{Layer}
use Rattle.lw_machine.specs.Kept.{visible_within, is_kept, is_drawable}

-- what a slot holds: no layer was created in it so far, its layer is live, or its last one was deleted
pub data State : Type 0 where
  Unopened : State
  Live : State
  Closed : State

-- A live layer with its bounds and its visible rectangles, in screen coordinates, whether it is the active window, and for how
-- many more messages its window's port has room, which is none of a layer that isn't a window. Off the pixels that it keeps the
-- layer's pens are 0.
pub record LiveView : Type 0 where
  pub bounds : Rectangle
  pub visible : List Rectangle
  pub active : Bool
  pub room : ℕ
  pub layer : Layer

-- A slot's number, what it holds, and its live layer. Where the slot isn't live that is one without any pixel in its bits.
pub record CellView : Type 0 where
  pub number : ℕ
  pub state : State
  pub live : LiveView

-- the layer shows its pixel (x, y)
abbrev pub shows : LiveView → ℕ → ℕ → Bool
shows c x y = visible_within (λ i j. covers c.visible i j) (Some c.bounds) c.layer.scroll_x c.layer.scroll_y x y

-- the layer keeps its pixel (x, y)
unfoldable pub keeps : LiveView → ℕ → ℕ → Bool
keeps c x y = is_kept (λ i j. shows c i j) c.layer x y

-- the layer's pixel (x, y) is drawable
unfoldable pub draws : LiveView → ℕ → ℕ → Bool
draws c x y = is_drawable (λ i j. shows c i j) c.layer x y

-- the pen of a pixel that is kept
abbrev pub kept_pen : LiveView → ℤ → ℤ → Option ℕ
kept_pen c (pos x) (pos y) = if keeps c x y then Some (pen_at c.layer.bits x y) else None
kept_pen c (pos x) (negsuc y) = None
kept_pen c (negsuc x) y = None

-- the live layer with its layer changed, and the same bounds and visible rectangles
abbrev pub with_layer : (Layer → Layer) → LiveView → LiveView
with_layer f c = record c { layer = f c.layer }

-- the cell with its live layer changed
abbrev pub with_live : (LiveView → LiveView) → CellView → CellView
with_live f c = record c { live = f c.live }

-- the cell with this hook on its layer; a cell has none itself, its hook lies beside it
abbrev pub hooked : Option Hook → CellView → CellView
hooked h c = with_live (λ k. with_layer (λ l. record l { hook = h }) k) c

-- the live layer with the pen f x y at each pixel (x, y) of its bits
abbrev pub repainted : (ℕ → ℕ → ℕ) → LiveView → LiveView
repainted f c = with_layer (λ l. record l { bits = bitmap l.bits.width l.bits.height l.bits.depth f }) c
