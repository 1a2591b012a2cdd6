-- The limits of a plan's sizes, and which calls fit them.
use Rattle.std.specs.Prelude.{ℕ, ◌≤◌, ◌%◌, Bool, true, false, not, ◌&&◌, nat_lt, nat_le, ◌==◌, if◌then◌else◌, ℤ, pos, negsuc}
use Rattle.std.specs.Prelude.{int_le, Option, Some, None}
use Rattle.lw_region.specs.Rectangle.{Rectangle, within}
use Rattle.lw_calls.specs.declared.sizes.Sizes.{Sizes}
use Rattle.lw_calls.specs.declared.limits.Limits.{Limits}
use Rattle.lw_calls.specs.declared.make.Kind.{Kind}
use Rattle.lw_calls.specs.declared.make.Kind.TheVariants.{Simple, Smart, SuperBitmap}
use Rattle.lw_calls.specs.declared.make.Make.{Make}
use Rattle.lw_calls.specs.declared.call.Call.{Call}
use Rattle.lw_calls.specs.declared.call.Call.TheVariants.{RegRect, RegPair, RegClear, Create, OpenWindow, Close, ToFront, ToBack}
use Rattle.lw_calls.specs.declared.call.Call.TheVariants.{InFrontOf, MoveBy, SizeBy, SetBox, Activate, SetHook, Which, SetA, SetB}
use Rattle.lw_calls.specs.declared.call.Call.TheVariants.{SetMode, SetMask, At, WritePixel, ReadPixel, Fill, DrawTo, Letters}
use Rattle.lw_calls.specs.declared.call.Call.TheVariants.{SetRast, ScrollRaster, Put, Blit, Clip, Unclip, BeginRefresh}
use Rattle.lw_calls.specs.declared.call.Call.TheVariants.{EndRefresh, Scroll, SetTitle, TakeMessage}
use Rattle.lw_calls.specs.declared.area.Area.{Area}
use Rattle.lw_calls.specs.Kinds.{is_super}

-- The limits that go by the version: how many columns, and how many rows, a screen has at most, how many layer names a plan, and
-- how many calls a task.
abbrev pub limits_of : ℕ → Limits
limits_of version =
    if version == 1 then record { screen = 1024; names = 64; calls = 4096 }
    else (if version == 2 then record { screen = 2048; names = 128; calls = 16384 }
    else record { screen = 2048; names = 1024; calls = 16384 })

-- From version 2 on a layer's hook may be replaced, and a layer may lie off the screen.
abbrev pub may_replace_hooks : ℕ → Bool
may_replace_hooks version = nat_le 2 version

abbrev pub may_leave_screen : ℕ → Bool
may_leave_screen version = nat_le 2 version

-- In version 3 a slot whose layer was closed may be opened again.
abbrev pub may_reopen : ℕ → Bool
may_reopen version = nat_le 3 version

-- how many tasks and how many bitmaps a plan has at most
abbrev pub task_limit : ℕ
task_limit = 16

abbrev pub bitmap_limit : ℕ
bitmap_limit = 16

-- Sizes that a plan may have: its version is 1, 2 or 3; its screen has a column, a row and 1 to 8 planes, and no more columns,
-- rows and layer names than its version allows; it has 1 to 16 tasks and at most 16 bitmaps.
pub record IsWithinLimits (s : Sizes) : Type 0 where
  pub some_version : 1 ≤ s.version
  pub version : s.version ≤ 3
  pub some_columns : 1 ≤ s.width
  pub columns : s.width ≤ (limits_of s.version).screen
  pub some_rows : 1 ≤ s.height
  pub rows : s.height ≤ (limits_of s.version).screen
  pub some_planes : 1 ≤ s.depth
  pub planes : s.depth ≤ 8
  pub slots : s.slots ≤ (limits_of s.version).names
  pub some_task : 1 ≤ s.tasks
  pub tasks : s.tasks ≤ task_limit
  pub bitmaps : s.bitmaps ≤ bitmap_limit

-- a coordinate is a signed word of 16 bits
abbrev pub is_coordinate : ℤ → Bool
is_coordinate z = within (negsuc 32767) z (pos 32767)

-- the hook that is asked for is one of those handed in
abbrev pub hook_fits : ℕ → Option ℕ → Bool
hook_fits hooks None = true
hook_fits hooks (Some n) = nat_lt n hooks

-- A super-bitmap layer has a bitmap of 1 to 2048 by 1 to 2048 pixels, and no hook as it is created; no other layer has a bitmap
-- of its own.
abbrev pub kind_fits : Kind → Option ℕ → ℕ → ℕ → Bool
kind_fits SuperBitmap None w h = (nat_le 1 w && nat_le w 2048) && (nat_le 1 h && nat_le h 2048)
kind_fits SuperBitmap (Some n) w h = false
kind_fits Simple hook w h = (w == 0) && (h == 0)
kind_fits Smart hook w h = (w == 0) && (h == 0)

-- a layer that may be asked for
abbrev pub make_fits : Sizes → Make → Bool
make_fits s m =
    ((is_coordinate m.x && is_coordinate m.y) && (within (pos 1) m.w (pos 65536) && within (pos 1) m.h (pos 65536)))
    && (hook_fits s.hooks m.hook && kind_fits m.kind m.hook m.bits_w m.bits_h)

-- along one axis, a minimum and a maximum that is not below it, both of them coordinates
unfoldable pub axis_fits : ℤ → ℤ → Bool
axis_fits low high = (is_coordinate low && is_coordinate high) && int_le low high

-- a rectangle that a call may have
abbrev pub rect_fits : Rectangle → Bool
rect_fits r = axis_fits r.min_x r.max_x && axis_fits r.min_y r.max_y

-- the number of a register
abbrev pub register_fits : ℕ → Bool
register_fits n = nat_lt n 8

-- a pen, a mask or another byte
abbrev pub is_byte : ℕ → Bool
is_byte n = nat_le n 255

-- how far a box or a blit reaches along one axis
abbrev pub is_extent : ℤ → Bool
is_extent z = within (pos 1) z (pos 32767)

-- two coordinates, or two steps
abbrev pub coordinates_fit : ℤ → ℤ → Bool
coordinates_fit x y = is_coordinate x && is_coordinate y

-- a minterm is a byte whose lower four bits are 0
abbrev pub is_minterm : ℕ → Bool
is_minterm n = is_byte n && (n % 16 == 0)

-- a blit's places and sizes, and its minterm
abbrev pub area_fits : Area → Bool
area_fits a =
    ((coordinates_fit a.sx a.sy && coordinates_fit a.x a.y) && (is_extent a.w && is_extent a.h)) && is_minterm a.minterm

-- a window that may be asked for: no super-bitmap layer has a frame, and there are five classes of messages
abbrev pub window_fits : Make → Bool → ℕ → Bool
window_fits make framed classes = not (framed && is_super make.kind) && nat_lt classes 32

-- Every number of the call is in its range, and it names slots, bitmaps and hooks that there are.
abbrev pub call_fits : Sizes → Call → Bool
call_fits s (RegRect op register rect) = register_fits register && rect_fits rect
call_fits s (RegPair op source into) = register_fits source && register_fits into
call_fits s (RegClear register) = register_fits register
call_fits s (Create slot make) = nat_lt slot s.slots && make_fits s make
call_fits s (OpenWindow slot make framed nocare classes title) =
    nat_lt slot s.slots && (make_fits s make && window_fits make framed classes)
call_fits s (Close slot) = nat_lt slot s.slots
call_fits s (ToFront slot) = nat_lt slot s.slots
call_fits s (ToBack slot) = nat_lt slot s.slots
call_fits s (InFrontOf slot other) = nat_lt slot s.slots && nat_lt other s.slots
call_fits s (MoveBy slot dx dy) = nat_lt slot s.slots && coordinates_fit dx dy
call_fits s (SizeBy slot dw dh) = nat_lt slot s.slots && coordinates_fit dw dh
call_fits s (SetBox slot x y w h) = nat_lt slot s.slots && (coordinates_fit x y && (is_extent w && is_extent h))
call_fits s (Activate slot) = nat_lt slot s.slots
call_fits s (SetHook slot hook) = may_replace_hooks s.version && (nat_lt slot s.slots && nat_lt hook s.hooks)
call_fits s (Which x y) = coordinates_fit x y
call_fits s (SetA slot pen) = nat_lt slot s.slots && is_byte pen
call_fits s (SetB slot pen) = nat_lt slot s.slots && is_byte pen
call_fits s (SetMode slot mode) = nat_lt slot s.slots && nat_lt mode 8
call_fits s (SetMask slot mask) = nat_lt slot s.slots && is_byte mask
call_fits s (At slot x y) = nat_lt slot s.slots && coordinates_fit x y
call_fits s (WritePixel slot x y) = nat_lt slot s.slots && coordinates_fit x y
call_fits s (ReadPixel slot x y) = nat_lt slot s.slots && coordinates_fit x y
call_fits s (Fill slot rect) = nat_lt slot s.slots && rect_fits rect
call_fits s (DrawTo slot x y) = nat_lt slot s.slots && coordinates_fit x y
call_fits s (Letters slot text) = nat_lt slot s.slots
call_fits s (SetRast slot pen) = nat_lt slot s.slots && is_byte pen
call_fits s (ScrollRaster slot dx dy rect) = nat_lt slot s.slots && (coordinates_fit dx dy && rect_fits rect)
call_fits s (Put bitmap slot area) = nat_lt bitmap s.bitmaps && (nat_lt slot s.slots && area_fits area)
call_fits s (Blit source slot area) = nat_lt source s.slots && (nat_lt slot s.slots && area_fits area)
call_fits s (Clip slot register) = nat_lt slot s.slots && register_fits register
call_fits s (Unclip slot) = nat_lt slot s.slots
call_fits s (BeginRefresh slot) = nat_lt slot s.slots
call_fits s (EndRefresh slot full) = nat_lt slot s.slots
call_fits s (Scroll slot dx dy) = nat_lt slot s.slots && coordinates_fit dx dy
call_fits s (SetTitle slot title) = nat_lt slot s.slots
call_fits s (TakeMessage slot) = nat_lt slot s.slots
