-- Laws of a layer of which one pixel is painted.
use Rattle.std.proofs.Common.{◌≡◌, ℕ, Bool, true, false, ◌&&◌, ◌∙◌, sym, refl, ap, arith, ℤ, pos, negsuc}
use Rattle.std.specs.Ordering.{int_eq}
use Rattle.std.proofs.lemmas.Bool.Decides.{nat_tests}
use Rattle.std.proofs.lemmas.Int.{ints}
use Rattle.std.proofs.Math.Bool.{and-false}
use Rattle.lw_planes.specs.Bitmap.{IsBitmap}
use Rattle.lw_machine.specs.Layer.{Raster}
use Rattle.lw_machine.specs.Kept.{holds_at}
use Rattle.lw_machine.specs.Shapes.{write_pixel}
use Rattle.lw_layer.specs.View.{LiveView, shows, draws, with_layer}
use Rattle.lw_kernels.specs.Kernel.{is_named}
use Rattle.lw_draw.specs.Drawn.{painted, painted_bit, in_mask}
use Rattle.lw_draw.specs.Blocks.{in_block}
use Rattle.lw_draw.specs.Stretches.{IsPixel}
use Rattle.lw_draw.specs.declared.stretch.Stretch.{Stretch}
use Rattle.lw_draw.proofs.DrawnLaws.{drawn_nowhere}
use Rattle.lw_draw.proofs.PaintLaws.{shape_painted}

-- the pixel's place
abbrev at_place : ℤ → ℤ → ℕ → ℕ → Bool
at_place px py x y = int_eq (pos x) px && int_eq (pos y) py

-- one place, by numbers
place_by_numbers : (x y u v len : ℕ) (px py : ℤ) → px ≡ pos x → py ≡ pos y → len ≡ 1 → at_place px py u v ≡ (is_named y 1 v && is_named x len u)
place_by_numbers x y u v len px py column row one = grind (arith, ints, nat_tests)

-- of one place a test holds, and of the others nothing is asked
only_there : (x y u v len : ℕ) (drawable : Bool) → len ≡ 1 → (u ≡ x → v ≡ y → drawable ≡ true) → (drawable && (is_named y 1 v && is_named x len u)) ≡ (is_named y 1 v && is_named x len u)
only_there x y u v len true one there = refl
only_there x y u v len false one there = grind (arith, nat_tests)

-- One pixel is written once it is painted.
pub pixel_painted : (c : LiveView) (raster : Raster) (px py across down : ℤ) (s : Stretch) → IsBitmap c.layer.bits → raster ≡ c.layer.raster → across ≡ px → down ≡ py → IsPixel c across down s → painted raster (λ i j. in_block (record { x = s.x; y = s.y; rows = 1; run = s.run }) i j) c ≡ with_layer (λ l. write_pixel (λ x y. shows c x y) px py l) c
pixel_painted c raster px py across down s ok same column row is =
    let at : ℕ → ℕ → Bool = λ u v. draws c u v in
    shape_painted c raster (λ x y. at_place px py x y) (λ i j. in_block (record { x = s.x; y = s.y; rows = 1; run = s.run }) i j) ok same
    (λ u v left low.
    ap (λ t. draws c u v && t) (place_by_numbers s.x s.y u v s.run.len px py (sym column ∙ is.column) (sym row ∙ is.row) is.one) ∙
    only_there s.x s.y u v s.run.len (draws c u v) is.one (λ first second. ap (λ i. at i v) first ∙ (ap (at s.x) second ∙ is.run.holds s.x (omega arith) (omega (arith, is.one)))))

-- where no drawable pixel is, none is written
place_left : (x y u v : ℕ) (drawable : Bool) → (u ≡ x → v ≡ y → drawable ≡ false) → (drawable && at_place (pos x) (pos y) u v) ≡ false
place_left x y u v true there = grind (arith, ints, nat_tests)
place_left x y u v false there = refl

none_there : (test : ℕ → ℕ → Bool) (px py : ℤ) (u v : ℕ) → holds_at test px py ≡ false → (test u v && at_place px py u v) ≡ false
none_there test (pos x) (pos y) u v none = place_left x y u v (test u v) (λ first second. ap (λ i. test i v) first ∙ (ap (test x) second ∙ none))
none_there test (pos x) (negsuc y) u v none = grind (arith, ints)
none_there test (negsuc x) py u v none = grind (arith, ints)

-- A pixel that isn't drawable is written with no change.
pub pixel_left : (c : LiveView) (px py across down : ℤ) → IsBitmap c.layer.bits → across ≡ px → down ≡ py → holds_at (λ i j. draws c i j) across down ≡ false → c ≡ with_layer (λ l. write_pixel (λ x y. shows c x y) px py l) c
pixel_left c px py across down ok column row none =
    let there : holds_at (λ i j. draws c i j) px py ≡ false = ap (λ a. holds_at (λ i j. draws c i j) a py) (sym column) ∙ (ap (holds_at (λ i j. draws c i j) across) (sym row) ∙ none) in
    sym (drawn_nowhere c (λ p i j. in_mask c.layer.raster p && false) (painted_bit c.layer.raster) ok (λ p i j. and-false (in_mask c.layer.raster p))) ∙
    shape_painted c c.layer.raster (λ x y. at_place px py x y) (λ i j. false) ok refl (λ u w left low. none_there (λ i j. draws c i j) px py u w there)
