-- Laws of layers that are filled with a hook's pens.
use Rattle.std.proofs.Common.{◌≡◌, ℕ, ◌^◌, ◌<◌, ◌≤◌, Bool, true, false, ◌&&◌, if◌then◌else◌, List, None, ap, arith, pos}
use Rattle.std.specs.Int.{bit_at}
use Rattle.lw_region.specs.Rectangle.{Rectangle}
use Rattle.lw_region.specs.Bands.{covers}
use Rattle.lw_planes.specs.Pen.{pen_of}
use Rattle.lw_planes.specs.Bitmap.{IsBitmap, pen_at}
use Rattle.lw_planes.proofs.PenLaws.{pen_of_same, pen_same}
use Rattle.lw_machine.specs.Hook.{Hook, hook_pen}
use Rattle.lw_machine.specs.Paint.{with_pens, pen_within}
use Rattle.lw_layer.specs.View.{LiveView, keeps, draws, with_layer}
use Rattle.lw_layer.proofs.LineLaws.{repainted_same}
use Rattle.lw_draw.specs.Drawn.{drawn}
use Rattle.lw_draw.proofs.LimitLaws.{all_drawable}
use Rattle.lw_hook_fill.specs.Filling.{tile_bit, IsTileOf, in_rectangles}

-- a pen of the hook where a pixel is filled, and the old one elsewhere
filled_pen : (d pen hooked : ℕ) (on again : Bool) (bit : ℕ → ℕ) → pen < 2 ^ d → on ≡ again → ((p : ℕ) → p < d → bit p ≡ bit_at hooked p) → pen_of d (λ p. if on then bit p else bit_at pen p) ≡ (if again then pen_within d hooked else pen)
filled_pen d pen hooked true true bit small is told = pen_of_same d bit (λ p. bit_at hooked p) told
filled_pen d pen hooked false false bit small is told = pen_same d pen small
filled_pen d pen hooked true false bit small is told = absurd (cc is)
filled_pen d pen hooked false true bit small is told = absurd (cc is)

-- A layer without limits is filled once its drawable pixels have the bits of the tile.
pub kept_filled : (c : LiveView) (h : Hook) (tile : List (List ℕ)) (rects : List Rectangle) → IsBitmap c.layer.bits → c.layer.bits.depth ≤ 8 → c.layer.clip ≡ None → c.layer.updating ≡ false → IsTileOf h tile → drawn (λ p i j. in_rectangles c rects i j) (tile_bit tile) c ≡ with_layer (λ l. with_pens (λ x y. keeps c x y && covers rects (pos x) (pos y)) (λ x y. pen_within l.bits.depth (hook_pen h (pos x) (pos y))) l) c
unfolding drawn with_pens
kept_filled c h tile rects ok deep unclipped idle told =
    repainted_same c _ _
    (λ x y left low.
    filled_pen c.layer.bits.depth (pen_at c.layer.bits x y) (hook_pen h (pos x) (pos y)) (draws c x y && covers rects (pos x) (pos y)) (keeps c x y && covers rects (pos x) (pos y)) (λ p. tile_bit tile p x y (bit_at (pen_at c.layer.bits x y) p)) (ok.pens x y left low)
    (ap (λ t. t && covers rects (pos x) (pos y)) (all_drawable c x y unclipped idle))
    (λ p below. told p x y (bit_at (pen_at c.layer.bits x y) p) (omega (arith, below, deep))))
