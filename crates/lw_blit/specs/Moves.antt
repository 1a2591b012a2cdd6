-- For private contracts.
-- Moves of whole blocks within a layer.
use Rattle.std.specs.Prelude.{◌≡◌, ◌<◌, ℤ, pos, ◌+ℤ◌}
use Rattle.lw_layer.specs.View.{LiveView, keeps, draws}
use Rattle.lw_draw.specs.Blocks.{IsBlock, IsAllOf, HaveOneShape}
use Rattle.lw_draw.specs.declared.spans.Places.{Places}
use Rattle.lw_blit.specs.Blitting.{taken_column, taken_row}
use Rattle.lw_blit.specs.declared.moving.Move.{Move}
use Rattle.lw_blit.specs.declared.transfers.Transfer.{Transfer}

-- places so many further on
pub record AreMoved (p : Places) (by : ℤ) (q : Places) : Type 0 where
  pub from : pos p.from +ℤ by ≡ pos q.from
  pub end : pos p.end +ℤ by ≡ pos q.end
  pub near : q.end < 65536

-- The targets are drawable, and their sources are kept.
pub record IsMove (c : LiveView) (t : Transfer) (m : Move) : Type 0 where
  pub column : taken_column t m.to.x ≡ pos m.source.x
  pub row : taken_row t m.to.y ≡ pos m.source.y
  pub shape : HaveOneShape m.to m.source
  pub to : IsBlock c (λ i j. draws c i j) m.to
  pub source : IsBlock c (λ i j. keeps c i j) m.source

-- and the targets are the pixels of these rows and columns
pub record IsMoveOf (c : LiveView) (t : Transfer) (rows columns : Places) (m : Move) : Type 0 where
  pub move : IsMove c t m
  pub all : IsAllOf rows columns m.to
