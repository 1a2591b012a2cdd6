-- For private contracts.
-- A line on its way from row to row.
use Rattle.std.specs.Prelude.{◌≡◌, ℕ, ◌+◌, ◌-◌, ◌*◌, ◌<◌, ◌≤◌, nat_le, ℤ, ◌-ℤ◌, unsigned_abs}
use Rattle.lw_machine.specs.Shapes.{line_offset}
use Rattle.lw_draw.specs.declared.quotients.Quotient.{Quotient}
use Rattle.lw_draw.specs.declared.row_spans.Line.{Line}
use Rattle.lw_draw.specs.declared.walks.Walk.{Walk}
use Rattle.lw_draw.specs.declared.walks.Walk.TheVariants.{Level, Flat, Steep}
use Rattle.lw_draw.specs.Quotients.{IsQuotient}

-- how far the line goes on the axis of x
abbrev pub wide : Line → ℕ
wide line = unsigned_abs (line.x1 -ℤ line.x0)

-- and on that of y
abbrev pub high : Line → ℕ
high line = unsigned_abs (line.y1 -ℤ line.y0)

-- how many rows the line has before this one
abbrev pub rows_before : Line → ℤ → ℕ
rows_before line y = unsigned_abs (y -ℤ line.y0)

-- the first step at which a line whose long axis is that of x has moved this far on the other
abbrev pub IsFirstStep : Line → ℕ → ℕ → Type 0
IsFirstStep line moved first = (i : ℕ) → i ≤ wide line → nat_le first i ≡ nat_le moved (line_offset (wide line) (high line) i)

-- The long axis is that of x, and the quotient is the first step that is past the row, at which the line has moved by at least
-- half a row more than the rows before: (rows_before + 1/2) * wide / high, rounded up.
pub record IsFlatRow (line : Line) (y : ℤ) (past : Quotient) : Type 0 where
  pub some : 0 < high line
  pub flat : high line ≤ wide line
  pub quotient : IsQuotient (2 * (rows_before line y * wide line) + (wide line + 2 * high line - 1)) (2 * wide line)
      (2 * high line) past

-- The long axis is that of y, and the quotient is how far the line has moved on that of x: rows_before * wide / high, rounded to
-- the nearest whole number, and a half up.
pub record IsSteepRow (line : Line) (y : ℤ) (moved : Quotient) : Type 0 where
  pub steep : wide line < high line
  pub quotient : IsQuotient (2 * (rows_before line y * wide line) + high line) (2 * wide line) (2 * high line) moved

-- the line stands so in its row
abbrev pub IsWalk : Line → ℤ → Walk → Type 0
IsWalk line y Level = high line ≡ 0
IsWalk line y (Flat past) = IsFlatRow line y past
IsWalk line y (Steep moved) = IsSteepRow line y moved
