-- How the frame of a window comes to lie on a layer.
use Rattle.std.specs.Prelude.{ℕ, Bool, ◌&&◌, List, pos}
use Rattle.lw_machine.specs.Layer.{Raster}
use Rattle.lw_machine.specs.Paint.{with_pens, pen_within}
use Rattle.lw_machine.specs.Reveal.{in_frame, framing_pen, with_frame}
use Rattle.lw_layer.specs.View.{LiveView, keeps, with_layer}

-- the live layer with the frame of the window that it is, if it is one and has a frame, on the pixels that it keeps
abbrev pub with_own_frame : List (List ℕ) → Bool → LiveView → LiveView
with_own_frame glyphs active c = with_layer (λ l. with_frame glyphs (λ x y. keeps c x y) active l) c

-- Words of this crate's private contracts.

-- the raster state that gives a shape a pen in all planes, and whose cursor is where a title begins
abbrev pub solid_raster : ℕ → Raster
solid_raster pen = record { pen_a = pen; pen_b = 0; mode = 0; mask = 255; cursor_x = pos 4; cursor_y = pos 8 }

-- the live layer with this pen on some of the pixels that it keeps, and the raster state that gave it to them
abbrev pub overlaid : (ℕ → ℕ → Bool) → ℕ → LiveView → LiveView
overlaid on pen c =
    with_layer
    (λ l. record (with_pens (λ x y. keeps c x y && on x y) (λ x y. pen_within l.bits.depth pen) l) { raster = solid_raster pen })
    c

-- the live layer with the whole frame of a window with this title on the pixels that it keeps
abbrev pub framed : List (List ℕ) → List ℕ → Bool → LiveView → LiveView
framed glyphs title active c =
    with_layer
    (λ l. with_pens
    (λ x y. keeps c x y && in_frame l.bits.width l.bits.height x y)
    (λ x y. pen_within l.bits.depth (framing_pen glyphs title active l.bits.width x y))
    l)
    c
