-- Laws of a layer whose drawable pixels all take a pen.
use Rattle.std.proofs.Common.{◌≡◌, ℕ, ◌<◌, Bool, true, false, ◌&&◌, ◌∙◌, ap, arith}
use Rattle.std.specs.Int.{bit_at}
use Rattle.std.proofs.lemmas.Bool.Decides.{nat_tests}
use Rattle.lw_planes.specs.Bitmap.{IsBitmap}
use Rattle.lw_kernels.specs.Kernel.{is_between}
use Rattle.lw_machine.specs.Layer.{Raster}
use Rattle.lw_machine.specs.Shapes.{set_rast}
use Rattle.lw_layer.specs.View.{LiveView, shows, draws, with_layer}
use Rattle.lw_draw.specs.Drawn.{painted, in_rows}
use Rattle.lw_draw.proofs.PaintLaws.{shape_drawn}

-- the pixels of all rows and columns
in_all_rows : (w h x y : ℕ) (drawable : Bool) → x < w → y < h → (drawable && true) ≡ (is_between 0 h y && (is_between 0 w x && drawable))
in_all_rows w h x y true left low = grind (arith, nat_tests)
in_all_rows w h x y false left low = grind (arith, nat_tests)

-- the raster state that fills with a pen, and inverts nothing
abbrev pub solid_of : Raster → ℕ → Raster
solid_of r pen = record r { pen_a = pen; mode = 0 }

-- All drawable pixels have a pen once all rows and columns are painted with it.
pub rast_set : (c : LiveView) (raster : Raster) (pen w h : ℕ) → IsBitmap c.layer.bits → raster ≡ solid_of c.layer.raster pen → w ≡ c.layer.bits.width → h ≡ c.layer.bits.height → painted raster (λ i j. in_rows c 0 h 0 w i j) c ≡ with_layer (λ l. set_rast (λ x y. shows c x y) pen l) c
rast_set c raster pen w h ok is wide high =
    ap (λ r. painted r (λ i j. in_rows c 0 h 0 w i j) c) is ∙
    shape_drawn c (λ x y. true) (λ i j. in_rows c 0 h 0 w i j) (λ p x y old. bit_at pen p) ok
    (λ x y left low. in_all_rows w h x y (draws c x y) (omega (arith, left, wide)) (omega (arith, low, high)))
