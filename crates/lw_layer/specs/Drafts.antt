-- Which slot a draft stands for, and what has to hold of a draft.
use Rattle.std.specs.Prelude.{◌≡◌, ℕ, ◌+◌, ◌<◌, ◌≤◌, Bool, true, false, List, [], ◌∷◌, ◌++◌, length, ℤ, pos, ◌≤ℤ◌, unsigned_abs}
use Rattle.std.specs.Prelude.{Option, Some, None}
use Rattle.std.specs.List.{All, slice_index_or}
use Rattle.lw_region.specs.Rectangle.{Rectangle, width, height}
use Rattle.lw_region.specs.Pixels.{Pixel, pixels_of}
use Rattle.lw_region.specs.Bands.{covers}
use Rattle.lw_planes.specs.Bitmap.{Bitmap, bitmap, pen_at}
use Rattle.lw_planes.specs.Sizes.{AreSizes, IsPlanes}
use Rattle.lw_strips.specs.Strips.{StripView, rects_of, planes_of}
use Rattle.lw_calls.specs.declared.make.Kind.{Kind}
use Rattle.lw_calls.specs.declared.make.Kind.TheVariants.{Simple, Smart, SuperBitmap}
use Rattle.lw_calls.specs.Kinds.{is_super}
use Rattle.lw_cliprects.specs.Parts.{hidden_of}
use Rattle.lw_damage.specs.Damaged.{Damaged}
use Rattle.lw_machine.specs.Layer.{Raster, Window, new_raster, is_framed}
use Rattle.lw_machine.specs.Kept.{holds_at}
use Rattle.lw_layer.specs.View.{State, LiveView, CellView, keeps}
use Rattle.lw_layer.specs.View as view
use Rattle.lw_layer.specs.Pieces.{Layout, inner_in, HasFrameRoom, damage_table, buffered, buffer_at, column_in, line_in}
use Rattle.lw_layer.specs.declared.raster.Raster.{Raster as RasterCode}
use Rattle.lw_layer.specs.declared.draft.Draft.{Draft}
use Rattle.lw_layer.specs.declared.draft.DraftState.{DraftState}
use Rattle.lw_layer.specs.declared.draft.DraftState.TheVariants.{Unopened, Closed, Live}
use Rattle.lw_layer.specs.declared.draft.LiveDraft.{LiveDraft}
use Rattle.lw_layer.specs.declared.windows.WindowDraft.{WindowDraft}
use Rattle.lw_ports.specs.Sets.{classes_of}

abbrev pub raster_of : RasterCode → Raster
raster_of r = record { pen_a = r.a; pen_b = r.b; mode = r.mode; mask = r.mask; cursor_x = r.x; cursor_y = r.y }

-- the set of pixels of a clip region, if there is one
abbrev pub clip_set : Option (List Rectangle) → Option (List Pixel)
clip_set None = None
clip_set (Some rects) = Some (pixels_of rects)

-- the size of the layer's bits: that of its own bitmap, if it has one, and else that of its bounds
abbrev pub width_of : Option Bitmap → Rectangle → ℕ
width_of None bounds = width bounds
width_of (Some own) bounds = own.width

abbrev pub height_of : Option Bitmap → Rectangle → ℕ
height_of None bounds = height bounds
height_of (Some own) bounds = own.height

-- where the pixels of the draft's layer lie
abbrev pub layout : LiveDraft → Layout
layout d = record {
  bounds = d.bounds;
  visible = d.parts.visible;
  kind = d.kind;
  scroll_x = unsigned_abs d.scroll_x;
  scroll_y = unsigned_abs d.scroll_y;
  width = width_of d.superbits d.bounds;
  height = height_of d.superbits d.bounds;
}

-- an own bitmap as a list
abbrev pub own_list : Option Bitmap → List Bitmap
own_list None = []
own_list (Some own) = own ∷ []

-- the bitmaps of the visible rectangles' strips
abbrev pub visible_planes : LiveDraft → List Bitmap
visible_planes d = planes_of d.strips.items

-- the buffers of all rectangles with one, in their order
abbrev pub buffers_of : LiveDraft → List Bitmap
buffers_of d = visible_planes d ++ (d.covered.items ++ own_list d.superbits)

-- no pixel
abbrev pub no_bitmap : Bitmap
no_bitmap = record { width = 0; height = 0; depth = 0; rows = [] }

-- and no strip
abbrev pub no_strip : StripView
no_strip = record {
  rect = record { min_x = pos 0; min_y = pos 0; max_x = pos 0; max_y = pos 0 };
  planes = no_bitmap;
  solid = false;
}

-- the pen of the pixel (x, y) in the buffer with a number, or 0 where no buffer has it
abbrev pub pen_from : List Bitmap → Layout → Option ℕ → ℕ → ℕ → ℕ
pen_from buffers l None x y = 0
pen_from buffers l (Some n) x y = pen_at (slice_index_or buffers n no_bitmap) (column_in l n x) (line_in l n y)

-- the pens of a layer that is so laid out, from its buffers
abbrev pub bits_of : Layout → ℕ → List Bitmap → Bitmap
bits_of l depth buffers = bitmap l.width l.height depth (λ x y. pen_from buffers l (buffer_at l x y) x y)

-- the window of a draft's layer, if it is one, and the room in its port
abbrev pub window_of : Option WindowDraft → Option Window
window_of None = None
window_of (Some w) = Some (record {
  owner = w.owner;
  framed = w.framed;
  title = w.title;
  nocare = w.nocare;
  classes = classes_of w.set;
  port = w.port.messages;
  asked = w.asked;
})

abbrev pub room_of : Option WindowDraft → ℕ
room_of None = 0
room_of (Some w) = w.port.spare

-- the live layer of a draft
abbrev pub live_view : LiveDraft → LiveView
live_view d =
    let l = layout d in
    record {
      bounds = l.bounds;
      visible = l.visible;
      active = d.active;
      room = room_of d.window;
      layer = record {
        kind = d.kind;
        backdrop = d.backdrop;
        scroll_x = l.scroll_x;
        scroll_y = l.scroll_y;
        bits = bits_of l d.depth (buffers_of d);
        damage = damage_table (bits_of l d.depth (buffers_of d)) d.damage.rects;
        clip = clip_set d.clip;
        raster = raster_of d.raster;
        updating = d.damage.updating;
        hook = None;
        window = window_of d.window;
      };
    }

-- a buffer of its rectangle's size, with the layer's planes
pub record IsBuffer (depth : ℕ) (r : Rectangle) (b : Bitmap) : Type 0 where
  pub sound : IsPlanes b
  pub width : b.width ≡ width r
  pub height : b.height ≡ height r
  pub planes : b.depth ≡ depth

-- each rectangle has its buffer
pub record AreBuffers (depth : ℕ) (rects : List Rectangle) (buffers : List Bitmap) (none : Rectangle) : Type 0 where
  pub each : (n : ℕ) → n < length rects → IsBuffer depth (slice_index_or rects n none) (slice_index_or buffers n no_bitmap)

-- what a layer of this kind has beside the buffers of its visible rectangles: a smart layer one for each hidden rectangle, and
-- a super-bitmap layer its own bitmap
abbrev pub IsRest : Kind → ℕ → ℕ → Option Bitmap → Type 0
IsRest Simple hidden covered own = (covered ≡ 0) × (own ≡ None)
IsRest Smart hidden covered own = (covered ≡ hidden) × (own ≡ None)
IsRest SuperBitmap hidden covered own = (covered ≡ 0) × (b : Bitmap) × (own ≡ Some b)

-- The portion that is shown lies in the layer's bits, and a layer without an own bitmap isn't scrolled.
pub record IsScrolled (l : Layout) : Type 0 where
  pub left : is_super l.kind ≡ false → l.scroll_x ≡ 0
  pub upper : is_super l.kind ≡ false → l.scroll_y ≡ 0
  pub right : l.scroll_x + width l.bounds ≤ l.width
  pub lower : l.scroll_y + height l.bounds ≤ l.height

-- Where a layer lies: in the bounds that were divided, by a scroll that isn't negative, and its bits have sizes for planes.
pub record IsLaidOut (l : Layout) (depth : ℕ) (divided : Rectangle) (x y : ℤ) : Type 0 where
  pub bounds : divided ≡ l.bounds
  pub scroll_x : pos 0 ≤ℤ x
  pub scroll_y : pos 0 ≤ℤ y
  pub sizes : AreSizes l.width l.height depth
  pub scrolled : IsScrolled l

-- Its buffers: solid strips for its visible rectangles, and the rest that its kind has, each of its rectangle's size.
pub record HasBuffers
    (l : Layout) (depth : ℕ) (strips : List StripView) (covered : List Bitmap) (own : Option Bitmap) : Type 0 where
  pub shown : rects_of strips ≡ l.visible
  pub solid : All (λ s. s.solid ≡ true) strips
  pub rest : IsRest l.kind (length (hidden_of l.bounds l.visible)) (length covered) own
  pub sized : AreBuffers depth (buffered l) (planes_of strips ++ (covered ++ own_list own)) l.bounds

-- Its damage: it has this inner rectangle, and is on pixels that are kept.
pub record IsDamageWithin (within : Option Rectangle) (keep : ℕ → ℕ → Bool) (damage : Damaged) : Type 0 where
  pub inner : damage.inner ≡ within
  pub kept : (x y : ℤ) → covers damage.rects x y ≡ true → holds_at keep x y ≡ true

-- Its frame, if it has one: it is no super-bitmap layer, and the frame has room in the bounds.
pub record FitsFrame (kind : Kind) (framed : Bool) (bounds : Rectangle) : Type 0 where
  pub frameless : is_super kind ≡ true → framed ≡ false
  pub room : framed ≡ true → HasFrameRoom bounds

-- What has to hold of the draft of a live layer.
pub record IsLiveDraft (d : LiveDraft) : Type 0 where
  pub place : IsLaidOut (layout d) d.depth d.parts.bounds d.scroll_x d.scroll_y
  pub mode : d.raster.mode < 8
  pub buffers : HasBuffers (layout d) d.depth d.strips.items d.covered.items d.superbits
  pub damage : IsDamageWithin (inner_in (live_view d)) (λ x y. keeps (live_view d) x y) d.damage
  pub frame : FitsFrame d.kind (is_framed (window_of d.window)) d.bounds

-- what has to hold of what a draft says of its slot
abbrev pub IsState : DraftState → Type 0
IsState Unopened = Unit {0}
IsState Closed = Unit {0}
IsState (Live d) = IsLiveDraft d

abbrev pub IsDraft : Draft → Type 0
IsDraft d = IsState d.state

-- a layer whose bits have no pixel
abbrev pub no_layer : LiveView
no_layer = record {
  bounds = record { min_x = pos 0; min_y = pos 0; max_x = pos 0; max_y = pos 0 };
  visible = [];
  active = false;
  room = 0;
  layer = record {
    kind = Simple;
    backdrop = false;
    scroll_x = 0;
    scroll_y = 0;
    bits = no_bitmap;
    damage = [];
    clip = None;
    raster = new_raster;
    updating = false;
    hook = None;
    window = None;
  };
}

abbrev pub state_of : DraftState → State
state_of Unopened = view.Unopened
state_of Closed = view.Closed
state_of (Live d) = view.Live

abbrev pub live_of : DraftState → LiveView
live_of Unopened = no_layer
live_of Closed = no_layer
live_of (Live d) = live_view d

-- the slot for which a draft stands
abbrev pub cell_view : Draft → CellView
cell_view d = record { number = d.slot; state = state_of d.state; live = live_of d.state }
