-- Which call the numbers that C hands over mean.
use Rattle.std.specs.Prelude.{ℕ, ◌==◌, Bool, true, false, ◌&&◌, if◌then◌else◌, List, ℤ, Option, Some, None, nat_lt}
use Rattle.lw_region.specs.Rectangle.{Rectangle}
use Rattle.lw_calls.specs.Limits.{is_coordinate}
use Rattle.lw_calls.specs.declared.area.Area.{Area}
use Rattle.lw_calls.specs.declared.make.Kind.{Kind}
use Rattle.lw_calls.specs.declared.make.Kind.TheVariants.{Simple, Smart, SuperBitmap}
use Rattle.lw_calls.specs.declared.make.Place.{Place}
use Rattle.lw_calls.specs.declared.make.Place.TheVariants.{Front, Behind}
use Rattle.lw_calls.specs.declared.make.Make.{Make}
use Rattle.lw_calls.specs.declared.operation.RectOp.{RectOp}
use Rattle.lw_calls.specs.declared.operation.RectOp.TheVariants as Rects
use Rattle.lw_calls.specs.declared.operation.PairOp.{PairOp}
use Rattle.lw_calls.specs.declared.operation.PairOp.TheVariants as Pairs
use Rattle.lw_calls.specs.declared.call.Call.{Call}
use Rattle.lw_calls.specs.declared.call.Call.TheVariants.{RegRect, RegPair, RegClear, Create, OpenWindow, Close, ToFront, ToBack}
use Rattle.lw_calls.specs.declared.call.Call.TheVariants.{InFrontOf, MoveBy, SizeBy, SetBox, Activate, SetHook, Which, SetA, SetB}
use Rattle.lw_calls.specs.declared.call.Call.TheVariants.{SetMode, SetMask, At, WritePixel, ReadPixel, Fill, DrawTo, Letters}
use Rattle.lw_calls.specs.declared.call.Call.TheVariants.{SetRast, ScrollRaster, Put, Blit, Clip, Unclip, BeginRefresh}
use Rattle.lw_calls.specs.declared.call.Call.TheVariants.{EndRefresh, Scroll, SetTitle, TakeMessage}
use Rattle.lw_c_calls.specs.declared.words.CallWords.{CallWords}
use Rattle.lw_c_calls.specs.declared.words.MakeWords.{MakeWords}
use Rattle.lw_c_rectangles.specs.Bounds.{rectangle_of, is_ordered}

-- the numbers of operations and of kinds of layers
abbrev pub rect_operation : ℕ → Option RectOp
rect_operation n =
    if n == 0 then Some Rects.Or else (if n == 1 then Some Rects.And
    else (if n == 2 then Some Rects.Xor else (if n == 3 then Some Rects.Clear else None)))

abbrev pub pair_operation : ℕ → Option PairOp
pair_operation n =
    if n == 0 then Some Pairs.Or else (if n == 1 then Some Pairs.And else (if n == 2 then Some Pairs.Xor else None))

abbrev pub layer_kind : ℕ → Option Kind
layer_kind n =
    if n == 0 then Some Simple else (if n == 1 then Some Smart else (if n == 2 then Some SuperBitmap else None))

abbrev pub place_of : Bool → Place
place_of behind = if behind then Behind else Front

abbrev pub hook_of : MakeWords → Option ℕ
hook_of m = if m.has_hook then Some m.hook else None

-- the layer that is asked for, of this kind
abbrev pub make_of : MakeWords → Kind → Make
make_of m kind = record {
  kind = kind;
  place = place_of m.is_behind;
  x = m.x;
  y = m.y;
  w = m.w;
  h = m.h;
  backdrop = m.is_backdrop;
  hook = hook_of m;
  bits_w = m.bits_w;
  bits_h = m.bits_h;
}

-- a blit's places, size and minterm
abbrev pub area_of : CallWords → Area
area_of c =
    record { sx = c.source_x; sy = c.source_y; x = c.x; y = c.y; w = c.w; h = c.h; minterm = c.number }

-- the call of what is there
abbrev pub mapped : {X : Type 0} → Option X → (X → Call) → Option Call
mapped None call = None
mapped (Some x) call = Some (call x)

-- the call with the rectangle, where its bounds are in order
abbrev pub with_rect : CallWords → (Rectangle → Call) → Option Call
with_rect c call = if is_ordered c.rect then Some (call (rectangle_of c.rect)) else None

-- the call with the place, where that is one of 16 bits each
abbrev pub with_place : CallWords → (ℤ → ℤ → Call) → Option Call
with_place c call = if is_coordinate c.x && is_coordinate c.y then Some (call c.x c.y) else None

-- the calls on registers, from number 0 on
abbrev pub region_call : CallWords → Option Call
region_call c =
    if c.kind == 0 then (if is_ordered c.rect
    then mapped (rect_operation c.operation) (λ op. RegRect op c.slot (rectangle_of c.rect)) else None)
    else (if c.kind == 1 then mapped (pair_operation c.operation) (λ op. RegPair op c.other c.slot)
    else (if c.kind == 2 then Some (RegClear c.slot) else None))

-- the calls with a text, from number 3 on
abbrev pub text_call : CallWords → List ℕ → Option Call
text_call c text =
    if c.kind == 3 then mapped (layer_kind c.make.kind)
    (λ kind. OpenWindow c.slot (make_of c.make kind) c.flag c.is_nocare c.number text)
    else (if c.kind == 4 then Some (Letters c.slot text)
    else (if c.kind == 5 then Some (SetTitle c.slot text) else None))

-- the calls that arrange the layers, from number 6 on
abbrev pub arranging_call : CallWords → Option Call
arranging_call c =
    if c.kind == 6 then mapped (layer_kind c.make.kind) (λ kind. Create c.slot (make_of c.make kind))
    else (if c.kind == 7 then Some (Close c.slot)
    else (if c.kind == 8 then Some (ToFront c.slot)
    else (if c.kind == 9 then Some (ToBack c.slot)
    else (if c.kind == 10 then Some (InFrontOf c.slot c.other)
    else (if c.kind == 11 then Some (MoveBy c.slot c.x c.y)
    else (if c.kind == 12 then Some (SizeBy c.slot c.w c.h)
    else (if c.kind == 13 then Some (SetBox c.slot c.x c.y c.w c.h)
    else (if c.kind == 14 then Some (Activate c.slot)
    else (if c.kind == 15 then Some (SetHook c.slot c.other)
    else (if c.kind == 16 then Some (Which c.x c.y) else None))))))))))

-- the calls on a layer's raster port and on its state, from number 17 on
abbrev pub layer_call : CallWords → Option Call
layer_call c =
    if c.kind == 17 then Some (SetA c.slot c.number)
    else (if c.kind == 18 then Some (SetB c.slot c.number)
    else (if c.kind == 19 then Some (SetMode c.slot c.number)
    else (if c.kind == 20 then Some (SetMask c.slot c.number)
    else (if c.kind == 21 then Some (Clip c.slot c.other)
    else (if c.kind == 22 then Some (Unclip c.slot)
    else (if c.kind == 23 then Some (BeginRefresh c.slot)
    else (if c.kind == 24 then Some (EndRefresh c.slot c.flag)
    else (if c.kind == 25 then Some (Scroll c.slot c.x c.y)
    else (if c.kind == 26 then Some (TakeMessage c.slot) else None)))))))))

-- the calls that draw, from number 27 on
abbrev pub drawing_call : CallWords → Option Call
drawing_call c =
    if c.kind == 27 then with_place c (λ x y. At c.slot x y)
    else (if c.kind == 28 then with_place c (λ x y. DrawTo c.slot x y)
    else (if c.kind == 29 then Some (WritePixel c.slot c.x c.y)
    else (if c.kind == 30 then Some (ReadPixel c.slot c.x c.y)
    else (if c.kind == 31 then with_rect c (λ r. Fill c.slot r)
    else (if c.kind == 32 then Some (SetRast c.slot c.number)
    else (if c.kind == 33 then with_rect c (λ r. ScrollRaster c.slot c.x c.y r)
    else (if c.kind == 34 then Some (Put c.other c.slot (area_of c))
    else (if c.kind == 35 then Some (Blit c.other c.slot (area_of c)) else None))))))))

-- The call, if the numbers mean one: it is known, what it enumerates is one of those, a rectangle has ordered bounds, and a
-- cursor's place has 16 bits each way.
abbrev pub meant : CallWords → List ℕ → Option Call
meant c text =
    if nat_lt c.kind 3 then region_call c
    else (if nat_lt c.kind 6 then text_call c text
    else (if nat_lt c.kind 17 then arranging_call c
    else (if nat_lt c.kind 27 then layer_call c else drawing_call c)))

-- the call has a text, which is copied
abbrev pub has_text : Call → Bool
has_text (OpenWindow slot make framed nocare classes title) = true
has_text (Letters slot text) = true
has_text (SetTitle slot title) = true
has_text call = false

abbrev pub copies_text : Option Call → Bool
copies_text None = false
copies_text (Some call) = has_text call
