-- Laws of painting rectangles with a tile.
use Rattle.std.proofs.Common.{◌≡◌, ℕ, ◌+◌, ◌<◌, ◌≤◌, Bool, true, false, ◌&&◌, ◌||◌, if◌then◌else◌, List, [], get_or, length, take, ◌∙◌, sym, refl, ap, arith, pos}
use Rattle.std.proofs.lemmas.List.{take_all}
use Rattle.std.proofs.Math.Bool.{and-false}
use Rattle.lw_region.specs.Rectangle.{Rectangle, within, has_pixel}
use Rattle.lw_region.specs.Bands.{covers}
use Rattle.lw_region.proofs.Canonical.{covers_nil}
use Rattle.lw_planes.specs.Bitmap.{IsBitmap}
use Rattle.lw_kernels.specs.Kernel.{is_between}
use Rattle.lw_layer.specs.View.{LiveView, draws}
use Rattle.lw_draw.specs.Drawn.{drawn, in_rows}
use Rattle.lw_draw.proofs.DrawnLaws.{bits_same, bit_of_layer, bit_drawn, drawn_same}
use Rattle.lw_draw.proofs.PaintLaws.{layer_nowhere, layer_same, draws_stays, tests_turned}
use Rattle.lw_draw.proofs.RectangleLaws.{covers_more}
use Rattle.lw_hook_fill.specs.Filling.{tile_bit, in_rectangle, in_rectangles}
use Rattle.lw_hook_fill.proofs.PaintingLaws.{tile_gives_bits}

-- a rectangle is painted once its rows and columns are
pub rectangle_painted : (c : LiveView) (r : Rectangle) (tile : List (List ℕ)) (top bottom from end : ℕ) → ((u : ℕ) → u < c.layer.bits.width → within r.min_x (pos u) r.max_x ≡ is_between from end u) → ((v : ℕ) → v < c.layer.bits.height → within r.min_y (pos v) r.max_y ≡ is_between top bottom v) → drawn (λ p i j. in_rows c top bottom from end i j) (tile_bit tile) c ≡ drawn (λ p i j. in_rectangle c r i j) (tile_bit tile) c
rectangle_painted c r tile top bottom from end columns rows =
    drawn_same c (λ p i j. in_rows c top bottom from end i j) (λ p i j. in_rectangle c r i j) (tile_bit tile)
    (λ p x y _ left low. sym (tests_turned (draws c x y) (within r.min_x (pos x) r.max_x) (within r.min_y (pos y) r.max_y) (is_between from end x) (is_between top bottom y) (columns x left) (rows y low)))

-- drawn on twice with the same bits, whatever was there
over : (first second : Bool) (bit old : ℕ) → (if second then bit else (if first then bit else old)) ≡ (if first || second then bit else old)
over true true bit old = refl
over true false bit old = refl
over false true bit old = refl
over false false bit old = refl

drawn_over : (c : LiveView) (former more both : ℕ → ℕ → ℕ → Bool) (bit : ℕ → ℕ → ℕ → ℕ) → ((p x y : ℕ) → bit p x y < 2) → ((p x y : ℕ) → both p x y ≡ (former p x y || more p x y)) → drawn more (λ p x y old. bit p x y) (drawn former (λ p x y old. bit p x y) c) ≡ drawn both (λ p x y old. bit p x y) c
unfolding drawn
drawn_over c former more both bit small whole =
    bits_same c (λ p x y. if more p x y then bit p x y else bit_of_layer (drawn former (λ p x y old. bit p x y) c) p x y) (λ p x y. if both p x y then bit p x y else bit_of_layer c p x y)
    (λ p x y deep left low.
    ap (λ b. if more p x y then bit p x y else b) (bit_drawn c former (λ p x y old. bit p x y) p x y (λ p x y old _. small p x y) deep left low) ∙
    (over (former p x y) (more p x y) (bit p x y) (bit_of_layer c p x y) ∙
    ap (λ t. if t then bit p x y else bit_of_layer c p x y) (sym (whole p x y))))

-- no rectangle so far
pub no_rectangles : (v : LiveView) (tile : List (List ℕ)) → IsBitmap v.layer.bits → v ≡ drawn (λ p i j. in_rectangles v [] i j) (tile_bit tile) v
no_rectangles v tile ok =
    layer_nowhere v (λ p i j. in_rectangles v [] i j) (tile_bit tile) ok (λ p i j. ap (λ t. draws v i j && t) (covers_nil (pos i) (pos j)) ∙ and-false (draws v i j))

-- one rectangle more
joined : (drawable former more both : Bool) → both ≡ (former || more) → (drawable && both) ≡ ((drawable && former) || (drawable && more))
joined true former more both is = is
joined false former more both is = refl

pub rectangle_more : (v w u : LiveView) (rects : List Rectangle) (n : ℕ) (r : Rectangle) (tile : List (List ℕ)) → n < length rects → r ≡ get_or rects n r → w ≡ drawn (λ p i j. in_rectangles v (take n rects) i j) (tile_bit tile) v → u ≡ drawn (λ p i j. in_rectangle w r i j) (tile_bit tile) w → u ≡ drawn (λ p i j. in_rectangles v (take (n + 1) rects) i j) (tile_bit tile) v
rectangle_more v w u rects n r tile inside here was is =
    let former : ℕ → ℕ → ℕ → Bool = λ p i j. in_rectangles v (take n rects) i j in
    let more : ℕ → ℕ → ℕ → Bool = λ p i j. in_rectangle v r i j in
    layer_same w u (λ p i j. in_rectangle w r i j) more (tile_bit tile) is
    (λ p i j _. ap (λ t. t && has_pixel r (pos i) (pos j)) (draws_stays v w former (tile_bit tile) i j was)) ∙
    (ap (λ c. drawn more (tile_bit tile) c) was ∙
    drawn_over v former more (λ p i j. in_rectangles v (take (n + 1) rects) i j) (λ p x y. tile_bit tile p x y 0)
    (λ p x y. tile_gives_bits tile p x y 0 (omega arith))
    (λ p x y. joined (draws v x y) (covers (take n rects) (pos x) (pos y)) (has_pixel r (pos x) (pos y)) (covers (take (n + 1) rects) (pos x) (pos y)) (covers_more rects n r inside here x y)))

-- all rectangles
pub rectangles_done : (v w : LiveView) (rects : List Rectangle) (n : ℕ) (tile : List (List ℕ)) → length rects ≤ n → w ≡ drawn (λ p i j. in_rectangles v (take n rects) i j) (tile_bit tile) v → w ≡ drawn (λ p i j. in_rectangles v rects i j) (tile_bit tile) v
rectangles_done v w rects n tile all was = was ∙ ap (λ rs. drawn (λ p i j. in_rectangles v rs i j) (tile_bit tile) v) (take_all n rects all)
