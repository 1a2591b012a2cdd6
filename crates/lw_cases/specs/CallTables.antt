-- Worked cases.
-- All calls in tables, each by one part of it: a slot, two coordinates, a size, a rectangle, a byte, and so on.
use Rattle.std.specs.Prelude.{ℕ, true, false, List, [], ◌∷◌, ℤ, pos, Some, codes}
use Rattle.lw_region.specs.Rectangle.{Rectangle}
use Rattle.lw_calls.specs.declared.operation.RectOp.TheVariants.{Or, And, Xor, Clear}
use Rattle.lw_calls.specs.declared.operation.PairOp.TheVariants.{Or as OrPair, And as AndPair, Xor as XorPair}
use Rattle.lw_calls.specs.declared.make.Kind.TheVariants.{Simple, Smart, SuperBitmap}
use Rattle.lw_calls.specs.declared.make.Make.{Make}
use Rattle.lw_calls.specs.declared.area.Area.{Area}
use Rattle.lw_calls.specs.declared.call.Call.{Call}
use Rattle.lw_calls.specs.declared.call.Call.TheVariants.{RegRect, RegPair, RegClear, Create, OpenWindow, Close, ToFront}
use Rattle.lw_calls.specs.declared.call.Call.TheVariants.{ToBack, InFrontOf, MoveBy, SizeBy, SetBox, Activate, Which, SetA}
use Rattle.lw_calls.specs.declared.call.Call.TheVariants.{SetB, SetMode, SetMask, At, WritePixel, ReadPixel, Fill, DrawTo}
use Rattle.lw_calls.specs.declared.call.Call.TheVariants.{Letters, SetRast, ScrollRaster, Put, Blit, Clip, Unclip, BeginRefresh}
use Rattle.lw_calls.specs.declared.call.Call.TheVariants.{EndRefresh, Scroll, SetTitle, TakeMessage}
use Rattle.lw_cases.specs.Plans.{rect, box}

-- a rectangle of one pixel, a blit of one pixel, and a layer of one pixel of a bitmap of its own, or without one
abbrev pub corner : Rectangle
corner = rect 0 0 0 0

abbrev pub one_pixel : Area
one_pixel = record { sx = pos 0; sy = pos 0; x = pos 0; y = pos 0; w = pos 1; h = pos 1; minterm = 192 }

abbrev pub own_pixel : Make
own_pixel = record (box SuperBitmap 0 0 1 1) { bits_w = 1; bits_h = 1 }

-- the layer, and a borderless window of it
abbrev pub layer_of : Make → Call
layer_of make = Create 0 make

abbrev pub window_of : Make → Call
window_of make = OpenWindow 0 make false false 0 []

-- the 21 calls on one layer by its slot, and the ten arrangements by the first slot that they name
abbrev pub on_one_layer : List (ℕ → Call)
on_one_layer =
    (λ s. SetA s 1) ∷ (λ s. SetB s 1) ∷ (λ s. SetMode s 1) ∷ (λ s. SetMask s 1) ∷ (λ s. At s (pos 1) (pos 1)) ∷
    (λ s. WritePixel s (pos 1) (pos 1)) ∷ (λ s. ReadPixel s (pos 1) (pos 1)) ∷ (λ s. Fill s corner) ∷
    (λ s. DrawTo s (pos 1) (pos 1)) ∷
    (λ s. Letters s (codes "A")) ∷ (λ s. SetRast s 1) ∷ (λ s. ScrollRaster s (pos 1) (pos 1) corner) ∷ (λ s. Put 0 s one_pixel) ∷
    (λ s. Blit s s one_pixel) ∷ (λ s. Clip s 0) ∷ (λ s. Unclip s) ∷ (λ s. BeginRefresh s) ∷ (λ s. EndRefresh s true) ∷
    (λ s. Scroll s (pos 1) (pos 1)) ∷ (λ s. SetTitle s (codes "A")) ∷ (λ s. TakeMessage s) ∷ []

abbrev pub arrangements : List (ℕ → Call)
arrangements =
    (λ s. Create s (box Smart 0 0 1 1)) ∷ (λ s. OpenWindow s (box Smart 0 0 1 1) false false 0 []) ∷ (λ s. Close s) ∷
    (λ s. ToFront s) ∷
    (λ s. ToBack s) ∷ (λ s. InFrontOf s 0) ∷ (λ s. MoveBy s (pos 1) (pos 1)) ∷ (λ s. SizeBy s (pos 1) (pos 1)) ∷
    (λ s. SetBox s (pos 0) (pos 0) (pos 1) (pos 1)) ∷ (λ s. Activate s) ∷ []

-- the slots that calls name second, or beside another one
abbrev pub beside_slot_0 : List (ℕ → Call)
beside_slot_0 = (λ s. InFrontOf 0 s) ∷ (λ s. Blit 0 s one_pixel) ∷ (λ s. Blit s 0 one_pixel) ∷ []

-- the calls with two coordinates or steps
abbrev pub at_a_pair : List (ℤ → ℤ → Call)
at_a_pair =
    (λ x y. layer_of (record (box Smart 0 0 1 1) { x = x; y = y })) ∷
    (λ x y. window_of (record (box Smart 0 0 1 1) { x = x; y = y })) ∷
    (λ x y. MoveBy 0 x y) ∷ (λ x y. SizeBy 0 x y) ∷ (λ x y. SetBox 0 x y (pos 1) (pos 1)) ∷ (λ x y. Which x y) ∷
    (λ x y. At 0 x y) ∷
    (λ x y. WritePixel 0 x y) ∷ (λ x y. ReadPixel 0 x y) ∷ (λ x y. DrawTo 0 x y) ∷ (λ x y. ScrollRaster 0 x y corner) ∷
    (λ x y. Put 0 0 (record one_pixel { sx = x; sy = y })) ∷ (λ x y. Put 0 0 (record one_pixel { x = x; y = y })) ∷
    (λ x y. Blit 0 0 (record one_pixel { sx = x; sy = y })) ∷ (λ x y. Blit 0 0 (record one_pixel { x = x; y = y })) ∷
    (λ x y. Scroll 0 x y) ∷ []

-- those with a width and a height, of a box or a blit, and of a new layer
abbrev pub of_a_size : List (ℤ → ℤ → Call)
of_a_size =
    (λ w h. SetBox 0 (pos 0) (pos 0) w h) ∷ (λ w h. Put 0 0 (record one_pixel { w = w; h = h })) ∷
    (λ w h. Blit 0 0 (record one_pixel { w = w; h = h })) ∷ []

abbrev pub made_of_a_size : List (ℤ → ℤ → Call)
made_of_a_size =
    (λ w h. layer_of (record (box Simple 0 0 1 1) { w = w; h = h })) ∷
    (λ w h. window_of (record (box Smart 0 0 1 1) { w = w; h = h })) ∷
    (λ w h. layer_of (record own_pixel { w = w; h = h })) ∷ []

-- those with a rectangle
abbrev pub in_a_rectangle : List (Rectangle → Call)
in_a_rectangle =
    (λ r. RegRect Or 0 r) ∷ (λ r. RegRect And 0 r) ∷ (λ r. RegRect Xor 0 r) ∷ (λ r. RegRect Clear 0 r) ∷ (λ r. Fill 0 r) ∷
    (λ r. ScrollRaster 0 (pos 0) (pos 0) r) ∷ []

-- those with a pen or a mask
abbrev pub with_a_byte : List (ℕ → Call)
with_a_byte = (λ p. SetA 0 p) ∷ (λ p. SetB 0 p) ∷ (λ p. SetMask 0 p) ∷ (λ p. SetRast 0 p) ∷ []

-- those with a register, of which pairs have two
abbrev pub with_a_register : List (ℕ → Call)
with_a_register =
    (λ r. RegRect Or r corner) ∷ (λ r. RegPair OrPair r 0) ∷ (λ r. RegPair AndPair 0 r) ∷ (λ r. RegPair XorPair r r) ∷
    (λ r. RegClear r) ∷
    (λ r. Clip 0 r) ∷ []

-- those with a minterm
abbrev pub with_a_minterm : List (ℕ → Call)
with_a_minterm = (λ m. Put 0 0 (record one_pixel { minterm = m })) ∷ (λ m. Blit 0 0 (record one_pixel { minterm = m })) ∷ []

-- those with a hook
abbrev pub with_a_hook : List (ℕ → Call)
with_a_hook =
    (λ n. layer_of (record (box Simple 0 0 1 1) { hook = Some n })) ∷
    (λ n. layer_of (record (box Smart 0 0 1 1) { hook = Some n })) ∷
    (λ n. window_of (record (box Simple 0 0 1 1) { hook = Some n })) ∷
    (λ n. window_of (record (box Smart 0 0 1 1) { hook = Some n })) ∷ []

-- those with a layer whose bitmap has this width and height: a super-bitmap layer, and a layer of another kind
abbrev pub with_own_bitmap : List (ℕ → ℕ → Call)
with_own_bitmap =
    (λ w h. layer_of (record own_pixel { bits_w = w; bits_h = h })) ∷
    (λ w h. window_of (record own_pixel { bits_w = w; bits_h = h })) ∷ []

abbrev pub with_a_bitmap_of_none : List (ℕ → ℕ → Call)
with_a_bitmap_of_none =
    (λ w h. layer_of (record (box Simple 0 0 1 1) { bits_w = w; bits_h = h })) ∷
    (λ w h. layer_of (record (box Smart 0 0 1 1) { bits_w = w; bits_h = h })) ∷
    (λ w h. window_of (record (box Simple 0 0 1 1) { bits_w = w; bits_h = h })) ∷
    (λ w h. window_of (record (box Smart 0 0 1 1) { bits_w = w; bits_h = h })) ∷ []
