-- For private contracts.
-- Blocks of a layer's pixels.
use Rattle.std.specs.Prelude.{◌≡◌, ℕ, ◌≤◌, Bool, not, ◌&&◌, ℤ, pos, ◌+ℤ◌, int_le, ◌⊎◌}
use Rattle.lw_machine.specs.Kept.{holds_at}
use Rattle.lw_machine.specs.Blits.{in_scroll_area}
use Rattle.lw_region.specs.Rectangle.{Rectangle}
use Rattle.lw_layer.specs.View.{LiveView}
use Rattle.lw_draw.specs.declared.spans.Places.{Places}
use Rattle.lw_scroll.specs.declared.block.Block.{Block}

-- the place is one of these
abbrev pub has_place : Places → ℤ → Bool
has_place p z = int_le (pos p.from) z && not (int_le (pos p.end) z)

-- the pixel at column x and row y is in the block
abbrev pub in_block : Block → ℤ → ℤ → Bool
in_block b x y = has_place b.columns x && has_place b.rows y

-- the block is one of a layer with so many columns and rows
pub record LiesIn (width height : ℕ) (b : Block) : Type 0 where
  pub right : b.columns.end ≤ width
  pub bottom : b.rows.end ≤ height

-- the block has the pixels of the rectangle that the layer's bits have
abbrev pub IsBlockOf : LiveView → Rectangle → Block → Type 0
IsBlockOf c rect b = (x y : ℤ) → in_block b x y ≡ holds_at (λ i j. in_scroll_area rect c.layer i j) x y

-- a part of some places begins or ends with them
pub record IsAtSide (p part : Places) : Type 0 where
  pub first : p.from ≤ part.from
  pub last : part.end ≤ p.end
  pub side : (part.from ≡ p.from) ⊎ (part.end ≡ p.end)

-- the places that lead to one of them again, a step further on
pub record AreBrought (p : Places) (step : ℤ) (part : Places) : Type 0 where
  pub at_side : IsAtSide p part
  pub has : (z : ℤ) → has_place part z ≡ (has_place p z && has_place p (z +ℤ step))

-- the pixels of the block that lead to one of them again, dx columns to the right and dy rows down
pub record IsBrought (b : Block) (dx dy : ℤ) (part : Block) : Type 0 where
  pub columns : AreBrought b.columns dx part.columns
  pub rows : AreBrought b.rows dy part.rows
