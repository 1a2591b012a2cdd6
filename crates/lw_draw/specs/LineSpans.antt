-- For private contracts.
-- The pixels of a line, row by row.
use Rattle.std.specs.Prelude.{ℕ, Bool, not, ◌&&◌, ℤ, pos, int_le}
use Rattle.std.specs.Int.{int_min, int_max}
use Rattle.lw_region.specs.Rectangle.{within}
use Rattle.lw_kernels.specs.Kernel.{is_between}
use Rattle.lw_machine.specs.Shapes.{is_on_line}
use Rattle.lw_layer.specs.View.{LiveView, draws}
use Rattle.lw_draw.specs.declared.row_spans.Line.{Line}
use Rattle.lw_draw.specs.declared.row_spans.Reach.{Reach}

-- the line goes over this row
abbrev pub has_row : Line → ℤ → Bool
has_row line y = within (int_min line.y0 line.y1) y (int_max line.y0 line.y1)

-- the column is one of these
abbrev pub in_reach : Reach → ℤ → Bool
in_reach r x = int_le r.from x && not (int_le r.end x)

-- the drawable pixels of a line in some rows, from one on and before another
abbrev pub on_line_rows : LiveView → Line → ℕ → ℕ → ℕ → ℕ → Bool
on_line_rows c line top bottom i j =
    is_between top bottom j && (is_on_line line.x0 line.y0 line.x1 line.y1 (pos i) (pos j) && draws c i j)
