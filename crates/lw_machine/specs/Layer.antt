-- Layers and the slots that hold them (the manual's Layers Library, Graphics Primitives and Intuition Windows chapters).
use Rattle.std.specs.Prelude.{ℕ, ◌==◌, Bool, true, false, not, ℤ, pos, List, Option, Some, None}
use Rattle.std.specs.Int.{bit_at}
use Rattle.lw_region.specs.Pixels.{Pixel}
use Rattle.lw_planes.specs.Bitmap.{Bitmap}
use Rattle.lw_calls.specs.declared.make.Kind.{Kind}
use Rattle.lw_calls.specs.declared.message.Message.{Message}
use Rattle.lw_calls.specs.declared.message.Message.TheVariants.{Refresh, NewSize, Change, Active, Inactive}
use Rattle.lw_calls.specs.Limits.{may_reopen}
use Rattle.lw_machine.specs.Hook.{Hook}

-- How a layer paints: its pens A and B, its mode, its mask of planes, and its cursor (Graphics Primitives: RastPort).
pub record Raster : Type 0 where
  pub pen_a : ℕ
  pub pen_b : ℕ
  pub mode : ℕ
  pub mask : ℕ
  pub cursor_x : ℤ
  pub cursor_y : ℤ

-- A window (Intuition Windows; that it belongs to the task that opened it is this project's own): that task, whether it has a
-- frame, its title, whether it wants no refresh messages at all, its set of message classes, its port with the messages from the
-- oldest, and whether it was asked to refresh since its last full refresh.
pub record Window : Type 0 where
  pub owner : ℕ
  pub framed : Bool
  pub title : List ℕ
  pub nocare : Bool
  pub classes : ℕ
  pub port : List Message
  pub asked : Bool

-- A layer. Its bits are one whole bitmap in layer coordinates, whatever covers it. The scroll is the layer pixel in
-- its top left corner. Damage is told for each pixel of the bits. Its clip region, if one is installed, is a set of
-- pixels in layer coordinates. While it is updating, only damaged pixels are drawable.
pub record Layer : Type 0 where
  pub kind : Kind
  pub backdrop : Bool
  pub scroll_x : ℕ
  pub scroll_y : ℕ
  pub bits : Bitmap
  pub damage : List (List Bool)
  pub clip : Option (List Pixel)
  pub raster : Raster
  pub updating : Bool
  pub hook : Option Hook
  pub window : Option Window

-- A name's slot: its layer was not created so far, is live, or was deleted.
pub data Slot : Type 0 where
  Unopened : Slot
  Live : Layer → Slot
  Closed : Slot

-- How a new layer paints: with pen 1 on pen 0, in the mode JAM2, in all planes, from the corner.
abbrev pub new_raster : Raster
new_raster = record { pen_a = 1; pen_b = 0; mode = 1; mask = 255; cursor_x = pos 0; cursor_y = pos 0 }

-- A layer may be created in the slot: it has had none so far or, where the version opens slots again, its former one was deleted.
abbrev pub may_open : ℕ → Slot → Bool
may_open version Unopened = true
may_open version (Live l) = false
may_open version Closed = may_reopen version

abbrev pub is_live : Slot → Bool
is_live Unopened = false
is_live (Live l) = true
is_live Closed = false

-- the slot has a layer of which this holds
abbrev pub layer_is : (Layer → Bool) → Slot → Bool
layer_is test Unopened = false
layer_is test (Live l) = test l
layer_is test Closed = false

-- the slot with its layer changed, if it has one
abbrev pub change_layer : (Layer → Layer) → Slot → Slot
change_layer f Unopened = Unopened
change_layer f (Live l) = Live (f l)
change_layer f Closed = Closed

-- the layer is a window
abbrev pub is_window : Option Window → Bool
is_window None = false
is_window (Some w) = true

-- the layer is a window with a frame
abbrev pub is_framed : Option Window → Bool
is_framed None = false
is_framed (Some w) = w.framed

-- the layer is a window that another task opened
abbrev pub is_foreign : ℕ → Option Window → Bool
is_foreign task None = false
is_foreign task (Some w) = not (w.owner == task)

-- the window changed, if there is one
abbrev pub changed_window : (Window → Window) → Option Window → Option Window
changed_window f None = None
changed_window f (Some w) = Some (f w)

-- the layer with its window changed, if it is one
abbrev pub change_window : (Window → Window) → Layer → Layer
change_window f l = record l { window = changed_window f l.window }

-- the bit of a message's class in a set of classes
abbrev pub class_bit : Message → ℕ
class_bit Refresh = 0
class_bit NewSize = 1
class_bit Change = 2
class_bit Active = 3
class_bit Inactive = 4

-- the window wants messages of this class
abbrev pub wants : Window → Message → Bool
wants w m = bit_at w.classes (class_bit m) == 1
