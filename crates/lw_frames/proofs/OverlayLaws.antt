-- Laws of layers of which some kept pixels are given a pen.
use Rattle.std.proofs.Common.{◌≡◌, ℕ, ◌^◌, ◌==◌, ◌<◌, ◌≤◌, Bool, true, false, ◌&&◌, ◌||◌, if◌then◌else◌, None, ◌∙◌, sym, refl, ap, arith}
use Rattle.std.specs.Int.{bit_at}
use Rattle.std.proofs.lemmas.Nat.Bits.{bit_at-lt, bit_at_ones}
use Rattle.lw_planes.specs.Pen.{pen_of}
use Rattle.lw_planes.specs.Bitmap.{IsBitmap, pen_at}
use Rattle.lw_planes.proofs.PenLaws.{pen_of_same, pen_of_lt, pen_same}
use Rattle.lw_planes.proofs.BitmapLaws.{pen_at_bitmap, bitmap_again}
use Rattle.lw_machine.specs.Layer.{Raster}
use Rattle.lw_machine.specs.Kept.{is_kept}
use Rattle.lw_machine.specs.Paint.{candidate_bit, through_mask, with_pens, pen_within, paint_where}
use Rattle.lw_layer.specs.View.{LiveView, shows, keeps, draws, with_layer}
use Rattle.lw_layer.proofs.LineLaws.{repainted_same, nowhere}
use Rattle.lw_layer.proofs.ViewLaws.{with_bits}
use Rattle.lw_draw.proofs.LimitLaws.{all_drawable}
use Rattle.lw_frames.specs.Framing.{solid_raster, overlaid}

-- of the planes that a layer can have the mask 255 has each
full_mask : (k : ℕ) → k < 8 → (bit_at 255 k == 1) ≡ true
full_mask k deep = ap (λ b. b == 1) (bit_at_ones 8 k deep)

-- a plane's bit, once it was painted with a pen in all planes
solid_bit : (pen k old : ℕ) (foreground : Bool) → candidate_bit (solid_raster pen) foreground k old ≡ (if foreground then bit_at pen k else old)
solid_bit pen k old true = refl
solid_bit pen k old false = refl

-- and the pen of the pixel
solid_pen : (d pen old : ℕ) (foreground : Bool) → d ≤ 8 → old < 2 ^ d → through_mask d 255 (λ k. candidate_bit (solid_raster pen) foreground k (bit_at old k)) old ≡ (if foreground then pen_within d pen else old)
unfolding through_mask
solid_pen d pen old foreground deep small =
    pen_of_same d _ (λ k. if foreground then bit_at pen k else bit_at old k)
    (λ k below.
    ap (λ t. if t then candidate_bit (solid_raster pen) foreground k (bit_at old k) else bit_at old k) (full_mask k (omega (arith, below, deep))) ∙ solid_bit pen k (bit_at old k) foreground) ∙
    chosen foreground
  where
    chosen : (t : Bool) → pen_of d (λ k. if t then bit_at pen k else bit_at old k) ≡ (if t then pen_within d pen else old)
    chosen true = refl
    chosen false = pen_same d old small

-- a pen on some pixels, before more of them are painted
abbrev pub laid : ℕ → ℕ → Bool → ℕ → ℕ
laid d pen on old = if on then pen_within d pen else old

laid_small : (d pen old : ℕ) (on : Bool) → old < 2 ^ d → laid d pen on old < 2 ^ d
laid_small d pen old true small = pen_of_lt d (λ k. bit_at pen k) (λ k _. bit_at-lt pen k)
laid_small d pen old false small = small

-- more of a kept pixel's tests
more_laid : (d pen old : ℕ) (kept on shape foreground : Bool) → (if kept && shape then laid d pen foreground (laid d pen (kept && on) old) else laid d pen (kept && on) old) ≡ laid d pen (kept && (on || (shape && foreground))) old
more_laid d pen old false on shape foreground = refl
more_laid d pen old true true true true = refl
more_laid d pen old true true true false = refl
more_laid d pen old true true false foreground = refl
more_laid d pen old true false true true = refl
more_laid d pen old true false true false = refl
more_laid d pen old true false false foreground = refl

-- Before any pixel of a part is painted there is only the raster state.
pub overlay_begun : (v u : LiveView) (pen : ℕ) (raster : Raster) → IsBitmap v.layer.bits → raster ≡ solid_raster pen → u ≡ with_layer (λ l. record l { raster = raster }) v → u ≡ overlaid (λ x y. false) pen v
unfolding with_pens
overlay_begun v u pen raster ok same is =
    let c : LiveView = with_layer (λ l. record l { raster = solid_raster pen }) v in
    is ∙ (ap (λ r. with_layer (λ l. record l { raster = r }) v) same ∙
    (sym (ap (with_bits c) (bitmap_again v.layer.bits ok)) ∙
    repainted_same c (λ x y. pen_at v.layer.bits x y) (λ x y. if keeps v x y && false then pen_within v.layer.bits.depth pen else pen_at v.layer.bits x y) (λ x y _ _. nowhere (keeps v x y) _ _)))

-- One shape more: where a layer without limits paints it, its foreground joins the pixels that have the pen.
pub overlay_more : (v w u : LiveView) (on shape foreground : ℕ → ℕ → Bool) (pen : ℕ) → IsBitmap v.layer.bits → v.layer.bits.depth ≤ 8 → v.layer.clip ≡ None → v.layer.updating ≡ false → w ≡ overlaid on pen v → u ≡ with_layer (λ l. paint_where (λ x y. shows w x y) shape foreground l) w → u ≡ overlaid (λ x y. on x y || (shape x y && foreground x y)) pen v
unfolding with_pens keeps is_kept draws
overlay_more v w u on shape foreground pen ok deep unclipped idle was is =
    let d = v.layer.bits.depth in
    let c : LiveView = with_layer (λ l. record l { raster = solid_raster pen }) v in
    let painted : LiveView = overlaid on pen v in
    let old : ℕ → ℕ → ℕ = λ x y. pen_at v.layer.bits x y in
    let former : ℕ → ℕ → ℕ = λ x y. laid d pen (keeps v x y && on x y) (old x y) in
    let drawn_over : Bool → Bool → ℕ → ℕ = λ t again n. if t then through_mask d 255 (λ k. candidate_bit (solid_raster pen) again k (bit_at n k)) n else n in
    is ∙ (ap (λ (q : LiveView). with_layer (λ l. paint_where (λ x y. shows q x y) shape foreground l) q) was ∙
    repainted_same c (λ x y. drawn_over (draws painted x y && shape x y) (foreground x y) (pen_at painted.layer.bits x y)) (λ x y. laid d pen (keeps v x y && (on x y || (shape x y && foreground x y))) (old x y))
    (λ x y left low.
    ap (λ t. drawn_over (t && shape x y) (foreground x y) (pen_at painted.layer.bits x y)) (all_drawable painted x y unclipped idle) ∙
    (ap (drawn_over (keeps v x y && shape x y) (foreground x y)) (pen_at_bitmap v.layer.bits.width v.layer.bits.height d former x y left low) ∙
    (ap (λ n. if keeps v x y && shape x y then n else former x y) (solid_pen d pen (former x y) (foreground x y) deep (laid_small d pen (old x y) (keeps v x y && on x y) (ok.pens x y left low))) ∙
    more_laid d pen (old x y) (keeps v x y) (on x y) (shape x y) (foreground x y)))))

-- the same pixels, tested in another way
pub overlay_same : (v u : LiveView) (on again : ℕ → ℕ → Bool) (pen : ℕ) → u ≡ overlaid on pen v → ((x y : ℕ) → on x y ≡ again x y) → u ≡ overlaid again pen v
unfolding with_pens
overlay_same v u on again pen is same =
    let c : LiveView = with_layer (λ l. record l { raster = solid_raster pen }) v in
    let new : ℕ → ℕ → Bool → ℕ = λ x y t. laid v.layer.bits.depth pen (keeps v x y && t) (pen_at v.layer.bits x y) in
    is ∙ repainted_same c (λ x y. new x y (on x y)) (λ x y. new x y (again x y)) (λ x y _ _. ap (new x y) (same x y))
