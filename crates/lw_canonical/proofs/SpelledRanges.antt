-- Numbers in the ranges of a script's lines lie below the cap, so they are written as they were read.
use Rattle.std.proofs.Common.{◌≡◌, ℕ, ◌<◌, ◌≤◌, true, ◌&&◌, List, ◌∷◌, ℤ, pos, negsuc, unsigned_abs, Some, arith}
use Rattle.lw_region.specs.Rectangle.{within}
use Rattle.lw_calls.specs.Limits.{is_coordinate, axis_fits, rect_fits, coordinates_fit, is_extent}
use Rattle.lw_grammar.specs.Tokens.{cap}
use Rattle.lw_grammar.specs.declared.verb.NumberVerb.{NumberVerb}
use Rattle.lw_grammar.specs.declared.verb.NumberVerb.TheVariants.{Mode as ModeVerb, Clip as ClipVerb, Hook as HookVerb}
use Rattle.lw_grammar.specs.Statements.{greatest_hook, is_hook_number, greatest_number, are_sizes_in_range, box, rectangle, box_fits}
use Rattle.lw_canonical.proofs.SpelledNumbers.{small_in}
use Rattle.std.proofs.lemmas.Bool.{and_parts}

-- the number lies below the cap on its side of 0
abbrev pub IsSmall : ℤ → Type 0
IsSmall z = unsigned_abs z < cap

-- a coordinate, two of them, and a size
pub coordinate_small : (z : ℤ) → is_coordinate z ≡ true → IsSmall z
coordinate_small z h = small_in (negsuc 32767) z (pos 32767) h (omega arith) (omega arith)

pub places_small : (x y : ℤ) → coordinates_fit x y ≡ true → IsSmall x × IsSmall y
places_small x y h =
    let k = and_parts (is_coordinate x) (is_coordinate y) h in
    (coordinate_small x k.0, coordinate_small y k.1)

pub size_small : (z : ℤ) → is_extent z ≡ true → IsSmall z
size_small z h = small_in (pos 1) z (pos 32767) h (omega arith) (omega arith)

-- a register or a mode, a pen or a mask, and a task's number
pub register_small : (z : ℤ) → within (pos 0) z (pos 7) ≡ true → IsSmall z
register_small z h = small_in (pos 0) z (pos 7) h (omega arith) (omega arith)

-- a hook's number
pub hook_small : (z : ℤ) → is_hook_number (Some z) ≡ true → IsSmall z
hook_small z h = small_in (pos 0) z (pos greatest_hook) h (omega arith) (omega arith)

-- the number after a layer
pub after_layer_small : (verb : NumberVerb) (z : ℤ) → within (pos 0) z (pos (greatest_number verb)) ≡ true → IsSmall z
after_layer_small ModeVerb z h = register_small z h
after_layer_small ClipVerb z h = register_small z h
after_layer_small HookVerb z h = hook_small z h
after_layer_small verb z h = small_in (pos 0) z (pos 255) h (omega arith) (omega arith)

pub task_small : (z : ℤ) → within (pos 0) z (pos 15) ≡ true → IsSmall z
task_small z h = small_in (pos 0) z (pos 15) h (omega arith) (omega arith)

-- the size of a bitmap of a layer's own
pub own_small : (z : ℤ) → within (pos 1) z (pos 2048) ≡ true → IsSmall z
own_small z h = small_in (pos 1) z (pos 2048) h (omega arith) (omega arith)

-- the sizes of a screen or a bitmap
pub sizes_small : (limit : ℕ) (w h d : ℤ) → limit ≤ 2048 → are_sizes_in_range limit w h d ≡ true → IsSmall w × (IsSmall h × IsSmall d)
sizes_small limit w h d low r =
    let k = and_parts (within (pos 1) w (pos limit) && within (pos 1) h (pos limit)) _ r in
    let s = and_parts (within (pos 1) w (pos limit)) _ k.0 in
    let side : (z : ℤ) → within (pos 1) z (pos limit) ≡ true → IsSmall z = λ z e. small_in (pos 1) z (pos limit) e (omega arith) (omega (arith, low)) in
    (side w s.0, (side h s.1, small_in (pos 1) d (pos 8) k.1 (omega arith) (omega arith)))

-- each number of four
abbrev pub AreSmall : ℤ → ℤ → ℤ → ℤ → Type 0
AreSmall x y z w = IsSmall x × (IsSmall y × (IsSmall z × IsSmall w))

-- the bounds along one axis
axis_small : (low high : ℤ) → axis_fits low high ≡ true → IsSmall low × IsSmall high
unfolding axis_fits
axis_small low high h =
    let k = and_parts (is_coordinate low && is_coordinate high) _ h in
    places_small low high k.0

-- a rectangle, and a box
pub rect_small : (x0 y0 x1 y1 : ℤ) → rect_fits (rectangle x0 y0 x1 y1) ≡ true → AreSmall x0 y0 x1 y1
rect_small x0 y0 x1 y1 h =
    let k = and_parts (axis_fits x0 x1) (axis_fits y0 y1) h in
    let x = axis_small x0 x1 k.0 in
    let y = axis_small y0 y1 k.1 in
    (x.0, (y.0, (x.1, y.1)))

pub box_small : (x y w h : ℤ) → box_fits (box x y w h) ≡ true → AreSmall x y w h
box_small x y w h e =
    let k = and_parts (coordinates_fit x y) (is_extent w && is_extent h) e in
    let place = places_small x y k.0 in
    let size = and_parts (is_extent w) (is_extent h) k.1 in
    (place.0, (place.1, (size_small w size.0, size_small h size.1)))

-- a list with an equal head and an equal tail is equal
pub also : {A : Type 0} {x y : A} {xs ys : List A} → x ≡ y → xs ≡ ys → x ∷ xs ≡ y ∷ ys
also e f = λ i. e i ∷ f i
