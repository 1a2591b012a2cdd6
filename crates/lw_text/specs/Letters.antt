-- Text that ends at a column.
use Rattle.std.specs.Prelude.{ℕ, Bool, ◌&&◌, nat_lt, List, length, pos, ◌-ℤ◌}
use Rattle.lw_machine.specs.Layer.{Layer}
use Rattle.lw_machine.specs.Paint.{has_inversvid, paint_where}
use Rattle.lw_machine.specs.Shapes.{cell_has, differ, in_cells}

-- The layer with what Text paints at its cursor, in the columns before one alone. The cursor stays.
abbrev pub text_before : List (List ℕ) → (ℕ → ℕ → Bool) → List ℕ → ℕ → Layer → Layer
text_before glyphs visible text end l =
    let left = l.raster.cursor_x in
    let top_row = l.raster.cursor_y -ℤ pos 6 in
    paint_where visible (λ x y. in_cells left top_row (length text) (pos x) (pos y) && nat_lt x end)
    (λ x y. differ (has_inversvid l.raster) (cell_has glyphs text left top_row (pos x) (pos y)))
    l
