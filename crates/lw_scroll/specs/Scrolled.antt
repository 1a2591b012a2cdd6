-- For private contracts.
-- What a scroll makes of a live layer: its pens, and its damage (the manual's Graphics Primitives chapter: ScrollRaster).
use Rattle.std.specs.Prelude.{ℕ, Bool, false, ◌&&◌, List, ℤ, pos}
use Rattle.std.specs.Int.{bit_at}
use Rattle.lw_region.specs.Rectangle.{Rectangle, has_pixel}
use Rattle.lw_planes.specs.Grid.{grid, at}
use Rattle.lw_machine.specs.Layer.{Layer}
use Rattle.lw_machine.specs.Kept.{may_be_damaged}
use Rattle.lw_machine.specs.Paint.{set_where}
use Rattle.lw_machine.specs.Blits.{brought_pen, brought_to, scrolled_mark}
use Rattle.lw_layer.specs.View.{LiveView, shows}

-- the layer with the pens that a scroll brings
abbrev pub pens_scrolled : (ℕ → ℕ → Bool) → Rectangle → ℤ → ℤ → Layer → Layer
pens_scrolled visible rect dx dy l =
    set_where visible (λ x y. has_pixel rect (pos x) (pos y)) (λ x y. brought_pen l (brought_to visible dx dy rect l x y)) l

-- a plane's bit of the pen that is brought to a pixel
unfoldable pub brought_bit : LiveView → Rectangle → ℤ → ℤ → ℕ → ℕ → ℕ → ℕ → ℕ
brought_bit c rect dx dy p x y old = bit_at (brought_pen c.layer (brought_to (λ i j. shows c i j) dx dy rect c.layer x y)) p

-- which pixels are damaged afterwards
abbrev pub scrolled_damage : LiveView → Rectangle → ℤ → ℤ → List (List Bool)
scrolled_damage c rect dx dy =
    grid c.layer.bits.width c.layer.bits.height
    (λ x y. scrolled_mark (λ i j. shows c i j) dx dy rect c.layer (at false c.layer.damage) x y && may_be_damaged c.layer x y)
