-- Laws of the fills of a frame.
use Rattle.std.proofs.Common.{◌≡◌, ℕ, ◌+◌, ◌<◌, ◌≤◌, Bool, true, false, ◌&&◌, ◌||◌, List, [], None, take, get_or, length, ◌∙◌, sym, ap, pos}
use Rattle.std.proofs.lemmas.List.{take_all}
use Rattle.std.proofs.Math.Bool.{and-true}
use Rattle.lw_region.specs.Rectangle.{Rectangle, has_pixel}
use Rattle.lw_region.specs.Bands.{covers}
use Rattle.lw_region.proofs.Canonical.{covers_nil}
use Rattle.lw_planes.specs.Bitmap.{IsBitmap}
use Rattle.lw_machine.specs.Layer.{Raster}
use Rattle.lw_machine.specs.Shapes.{rect_fill}
use Rattle.lw_layer.specs.View.{LiveView, shows, with_layer}
use Rattle.lw_draw.proofs.RectangleLaws.{covers_more}
use Rattle.lw_frames.specs.Framing.{solid_raster, overlaid}
use Rattle.lw_frames.proofs.OverlayLaws.{overlay_begun, overlay_more, overlay_same}

-- no fill so far
pub no_fills : (v u : LiveView) (pen : ℕ) (raster : Raster) → IsBitmap v.layer.bits → raster ≡ solid_raster pen → u ≡ with_layer (λ l. record l { raster = raster }) v → u ≡ overlaid (λ x y. covers [] (pos x) (pos y)) pen v
no_fills v u pen raster ok same is =
    overlay_same v u (λ x y. false) (λ x y. covers [] (pos x) (pos y)) pen (overlay_begun v u pen raster ok same is) (λ x y. sym (covers_nil (pos x) (pos y)))

-- one fill more
pub fill_more : (v w u : LiveView) (rects : List Rectangle) (n : ℕ) (r : Rectangle) (pen : ℕ) → IsBitmap v.layer.bits → v.layer.bits.depth ≤ 8 → v.layer.clip ≡ None → v.layer.updating ≡ false → n < length rects → r ≡ get_or rects n r → w ≡ overlaid (λ x y. covers (take n rects) (pos x) (pos y)) pen v → u ≡ with_layer (λ l. rect_fill (λ x y. shows w x y) r l) w → u ≡ overlaid (λ x y. covers (take (n + 1) rects) (pos x) (pos y)) pen v
fill_more v w u rects n r pen ok deep unclipped idle inside here was is =
    let former : ℕ → ℕ → Bool = λ x y. covers (take n rects) (pos x) (pos y) in
    overlay_same v u (λ x y. former x y || (has_pixel r (pos x) (pos y) && true)) (λ x y. covers (take (n + 1) rects) (pos x) (pos y)) pen
    (overlay_more v w u former (λ x y. has_pixel r (pos x) (pos y)) (λ x y. true) pen ok deep unclipped idle was is)
    (λ x y. ap (λ t. former x y || t) (and-true (has_pixel r (pos x) (pos y))) ∙ sym (covers_more rects n r inside here x y))

-- all fills
pub fills_done : (v u : LiveView) (rects : List Rectangle) (n pen : ℕ) → length rects ≤ n → u ≡ overlaid (λ x y. covers (take n rects) (pos x) (pos y)) pen v → u ≡ overlaid (λ x y. covers rects (pos x) (pos y)) pen v
fills_done v u rects n pen enough is = is ∙ ap (λ rs. overlaid (λ x y. covers rs (pos x) (pos y)) pen v) (take_all n rects enough)
