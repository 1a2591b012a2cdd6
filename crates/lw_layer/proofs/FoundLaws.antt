-- Which buffer has a pixel.
use Rattle.std.proofs.Common.{◌≡◌, ℕ, ◌+◌, ◌<◌, true, nat_lt, length, Some, None, ◌∙◌, sym, refl, arith, ℤ, pos, ◌+ℤ◌, ◌-ℤ◌}
use Rattle.std.proofs.lemmas.Bool.Decides.{nat_tests}
use Rattle.std.proofs.lemmas.Int.{ints}
use Rattle.lw_region.specs.Rectangle.{within, has_pixel}
use Rattle.lw_calls.specs.declared.make.Kind.TheVariants.{SuperBitmap}
use Rattle.lw_layer.specs.Pieces.{Layout, whole_of, across, down, found_in, rest_of, buffered, buffer_at}
use Rattle.lw_layer.proofs.Positions.{position_front, position_rest, position_none}

-- a pixel of the bits is looked for in all rectangles with a buffer
pub in_bits_found : (l : Layout) (x y : ℕ) → x < l.width → y < l.height → buffer_at l x y ≡ found_in l (buffered l) x y
unfolding buffer_at
in_bits_found l x y left low =
    let column : nat_lt x l.width ≡ true = grind (arith, nat_tests) in
    let row : nat_lt y l.height ≡ true = grind (arith, nat_tests) in
    rw (column, row) refl

-- a visible rectangle has the pixel
pub found_front : (l : Layout) (x y n : ℕ) → x < l.width → y < l.height → found_in l l.visible x y ≡ Some n → Some n ≡ buffer_at l x y
found_front l x y n left low is = sym (in_bits_found l x y left low ∙ position_front _ l.visible (rest_of l) n is)

-- another rectangle has the pixel
pub found_rest : (l : Layout) (x y n : ℕ) → x < l.width → y < l.height → found_in l l.visible x y ≡ None → found_in l (rest_of l) x y ≡ Some n → Some (length l.visible + n) ≡ buffer_at l x y
found_rest l x y n left low none is = sym (in_bits_found l x y left low ∙ position_rest _ l.visible (rest_of l) n none is)

-- no rectangle has the pixel
pub found_nowhere : (l : Layout) (x y : ℕ) → x < l.width → y < l.height → found_in l l.visible x y ≡ None → found_in l (rest_of l) x y ≡ None → None ≡ buffer_at l x y
found_nowhere l x y left low first second = sym (in_bits_found l x y left low ∙ position_none _ l.visible (rest_of l) first second)

-- a place among as many as there are, along one axis
pub whole_within : (edge : ℤ) (scroll p n : ℕ) → p < n → within (edge -ℤ pos scroll) ((edge +ℤ pos p) -ℤ pos scroll) (((edge -ℤ pos scroll) +ℤ pos n) -ℤ pos 1) ≡ true
unfolding within
whole_within edge scroll p n below = grind (arith, ints)

-- all pixels of the bits lie on the whole
pub whole_has : (l : Layout) (x y : ℕ) → x < l.width → y < l.height → has_pixel (whole_of l) (across l x) (down l y) ≡ true
whole_has l x y left low =
    let columns = whole_within l.bounds.min_x l.scroll_x x l.width left in
    let rows = whole_within l.bounds.min_y l.scroll_y y l.height low in
    rw (columns, rows) refl

-- an own bitmap has all pixels
pub found_whole : (l : Layout) (x y : ℕ) → l.kind ≡ SuperBitmap → x < l.width → y < l.height → Some 0 ≡ found_in l (rest_of l) x y
found_whole l x y super left low = let has = whole_has l x y left low in rw super (rw has refl)
