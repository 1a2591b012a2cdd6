-- Laws of a whole frame: its fills, and then its title over them.
use Rattle.std.proofs.Common.{◌≡◌, ℕ, Bool, true, false, ◌&&◌, nat_le, if◌then◌else◌, List, ◌∙◌, refl, ap, arith, pos}
use Rattle.std.proofs.lemmas.Bool.Decides.{nat_tests}
use Rattle.lw_region.specs.Rectangle.{Rectangle}
use Rattle.lw_region.specs.Bands.{covers}
use Rattle.lw_planes.specs.Bitmap.{bitmap, pen_at}
use Rattle.lw_planes.proofs.BitmapLaws.{pen_at_bitmap}
use Rattle.lw_machine.specs.Layer.{Raster}
use Rattle.lw_machine.specs.Kept.{is_kept}
use Rattle.lw_machine.specs.Paint.{with_pens}
use Rattle.lw_machine.specs.Reveal.{in_frame, in_title, frame_pen, title_pen}
use Rattle.lw_layer.specs.View.{LiveView, keeps, with_layer}
use Rattle.lw_layer.proofs.LineLaws.{repainted_same}
use Rattle.lw_windows.specs.Frames.{AreFrame}
use Rattle.lw_frames.specs.Framing.{overlaid, framed}
use Rattle.lw_frames.proofs.OverlayLaws.{laid}

-- a pixel of a title lies in the frame's top rows
row_of_title : (y : ℕ) (columns first inside has : Bool) → (((columns && (first && nat_le y 9)) && inside) && has) ≡ true → nat_le y 10 ≡ true
row_of_title y columns first inside has is = grind (arith, nat_tests)

title_in_frame : (glyphs : List (List ℕ)) (title : List ℕ) (w h x y : ℕ) → in_title glyphs title w x y ≡ true → in_frame w h x y ≡ true
unfolding in_title in_frame
title_in_frame glyphs title w h x y is = rw (row_of_title y _ _ _ _ is) refl

-- a pixel's pen, once the frame's pen and then the title's were laid on it
two_pens : (d pen letters old : ℕ) (kept title frame : Bool) → (title ≡ true → frame ≡ true) → laid d letters (kept && title) (laid d pen (kept && frame) old) ≡ laid d (if title then letters else pen) (kept && frame) old
two_pens d pen letters old false title frame inside = refl
two_pens d pen letters old true true frame inside = rw (inside refl) refl
two_pens d pen letters old true false frame inside = refl

-- A layer is framed once its fills and then its title are painted and the former raster state is back.
pub frame_whole : (v w u z : LiveView) (glyphs : List (List ℕ)) (title : List ℕ) (active : Bool) (fills : List Rectangle) (pen letters : ℕ) (former : Raster) → pen ≡ frame_pen active → letters ≡ title_pen active → former ≡ v.layer.raster → AreFrame v.layer.bits.width v.layer.bits.height fills → w ≡ overlaid (λ x y. covers fills (pos x) (pos y)) pen v → u ≡ overlaid (in_title glyphs title w.layer.bits.width) letters w → z ≡ with_layer (λ l. record l { raster = former }) u → z ≡ framed glyphs title active v
unfolding with_pens keeps is_kept covers
frame_whole v w u z glyphs title active fills pen letters former pens titles back frame filled titled is =
    let wide = v.layer.bits.width in
    let high = v.layer.bits.height in
    let d = v.layer.bits.depth in
    let old : ℕ → ℕ → ℕ = λ x y. pen_at v.layer.bits x y in
    let first : ℕ → ℕ → ℕ = λ x y. laid d (frame_pen active) (keeps v x y && covers fills (pos x) (pos y)) (old x y) in
    let title_on : ℕ → LiveView → LiveView = λ n q. overlaid (in_title glyphs title q.layer.bits.width) n q in
    let whole : ℕ → ℕ → Raster → LiveView = λ m n r. with_layer (λ l. record l { raster = r }) (title_on n (overlaid (λ x y. covers fills (pos x) (pos y)) m v)) in
    is ∙ (ap (λ c. with_layer (λ l. record l { raster = former }) c) (titled ∙ ap (title_on letters) filled) ∙
    (ap (λ m. whole m letters former) pens ∙ (ap (λ n. whole (frame_pen active) n former) titles ∙ (ap (whole (frame_pen active) (title_pen active)) back ∙
    repainted_same v (λ x y. laid d (title_pen active) (keeps v x y && in_title glyphs title wide x y) (pen_at (bitmap wide high d first) x y)) (λ x y. laid d (if in_title glyphs title wide x y then title_pen active else frame_pen active) (keeps v x y && in_frame wide high x y) (old x y))
    (λ x y left low.
    ap (laid d (title_pen active) (keeps v x y && in_title glyphs title wide x y)) (pen_at_bitmap wide high d first x y left low) ∙
    (ap (λ t. laid d (title_pen active) (keeps v x y && in_title glyphs title wide x y) (laid d (frame_pen active) (keeps v x y && t) (old x y))) (frame x y left low) ∙
    two_pens d (frame_pen active) (title_pen active) (old x y) (keeps v x y) (in_title glyphs title wide x y) (in_frame wide high x y) (title_in_frame glyphs title wide high x y)))))))
