-- For private contracts.
-- Templates: rows of bits that stand for the foreground of what is painted (the manual's `BltTemplate`), and those that a text
-- has.
use Rattle.std.specs.Prelude.{ℕ, ◌-◌, ◌==◌, Bool, ◌&&◌, nat_le, if◌then◌else◌, List, [], pos, ◌-ℤ◌}
use Rattle.std.specs.List.{slice_index_or}
use Rattle.lw_machine.specs.Layer.{Raster}
use Rattle.lw_machine.specs.Paint.{candidate_bit, has_inversvid}
use Rattle.lw_machine.specs.Shapes.{cell_has, differ}
use Rattle.lw_layer.specs.View.{LiveView}
use Rattle.lw_draw.specs.Drawn.{drawn, in_mask}
use Rattle.lw_draw.specs.Combined.{over_bit}
use Rattle.lw_draw.specs.declared.overlay.Overlay.{Overlay}

-- a plane's bit where the template has this pixel or not: under INVERSVID what it has is the background
abbrev pub stamped_bit : Raster → (ℕ → ℕ → Bool) → ℕ → ℕ → ℕ → ℕ → ℕ
stamped_bit raster has p x y old = candidate_bit raster (differ (has_inversvid raster) (has x y)) p old

-- The live layer with a template painted at these pixels, through the mask.
abbrev pub stamped : Raster → (ℕ → ℕ → Bool) → (ℕ → ℕ → Bool) → LiveView → LiveView
stamped raster has on c = drawn (λ p x y. in_mask raster p && on x y) (stamped_bit raster has) c

-- rows of bits that lie over a layer have the pixel
abbrev pub rows_have : List ℕ → Overlay → ℕ → ℕ → Bool
rows_have bits o x y = over_bit bits o x y == 1

-- a text has the pixel, written at the cursor
abbrev pub text_has : List (List ℕ) → List ℕ → Raster → ℕ → ℕ → Bool
text_has glyphs text raster x y = cell_has glyphs text raster.cursor_x (raster.cursor_y -ℤ pos 6) (pos x) (pos y)

-- a row of a code's glyph; the empty glyph where there is none
unfoldable pub glyph_bits : List (List ℕ) → ℕ → ℕ → ℕ
glyph_bits glyphs code row =
    if nat_le 32 code && nat_le code 126 then slice_index_or (slice_index_or glyphs (code - 32) []) row 0 else 0
