-- What a ScrollRaster hurts, in words of its own (the manual's Graphics Primitives chapter; how it treats damage is this
-- project's own).
use Rattle.std.specs.Prelude.{ℕ, Bool, not, ◌&&◌, ◌||◌, if◌then◌else◌, ℤ, pos, ◌+ℤ◌}
use Rattle.lw_region.specs.Rectangle.{Rectangle, has_pixel}
use Rattle.lw_machine.specs.Layer.{Layer}
use Rattle.lw_machine.specs.Kept.{in_bits, is_kept, is_drawable, holds_at}

-- What is hurt at the pixel (x, y) of a layer after a ScrollRaster by (dx, dy) of the rectangle, before which the layer was l, if
-- the layer then keeps the pixel in its inner rectangle. A drawable pixel of the rectangle for which the pixel at (x + dx, y +
-- dy) lies in the rectangle and in the layer too is hurt where that one wasn't kept, or was hurt. Any other is hurt as before.
abbrev pub hurt_by_scroll : (ℕ → ℕ → Bool) → ℤ → ℤ → Rectangle → Layer → (ℕ → ℕ → Bool) → ℕ → ℕ → Bool
hurt_by_scroll visible dx dy rect l hurt x y =
    let column = pos x +ℤ dx in
    let row = pos y +ℤ dy in
    if (is_drawable visible l x y && has_pixel rect (pos x) (pos y))
    && holds_at (λ u v. in_bits l u v && has_pixel rect (pos u) (pos v)) column row
    then holds_at (λ u v. not (is_kept visible l u v) || hurt u v) column row
    else hurt x y
