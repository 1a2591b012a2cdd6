-- Blocks of pixels: rows one below another, each a run of the same columns, with their pens in lines of one buffer.
use Rattle.std.specs.Prelude.{◌≡◌, ℕ, ◌+◌, ◌-◌, ◌<◌, ◌≤◌, Bool, ◌&&◌, List}
use Rattle.lw_planes.specs.Row.{row_bit}
use Rattle.std.specs.Int.{bit_at}
use Rattle.lw_planes.specs.Minterm.{minterm_bit}
use Rattle.lw_planes.specs.Bitmap.{pen_at}
use Rattle.lw_kernels.specs.Kernel.{is_named, place_in}
use Rattle.lw_layer.specs.View.{LiveView, draws}
use Rattle.lw_layer.specs.Runs.{IsRun, AreAlike}
use Rattle.lw_layer.specs.declared.run.Run.{Run}
use Rattle.lw_draw.specs.Drawn.{in_rows}
use Rattle.lw_draw.specs.declared.blocks.Block.{Block}
use Rattle.lw_draw.specs.declared.spans.Places.{Places}

-- A block of pixels for which the test holds: each of its rows is a run, one line further down than that of the row above.
pub record IsBlock (c : LiveView) (test : ℕ → ℕ → Bool) (b : Block) : Type 0 where
  pub some : 0 < b.rows
  pub runs : (k : ℕ) → k < b.rows → IsRun c test b.x (b.y + k) (record b.run { line = b.run.line + k })

-- the pixels of a block
abbrev pub in_block : Block → ℕ → ℕ → Bool
in_block b i j = is_named b.y b.rows j && is_named b.x b.run.len i

-- so many rows are like the first of them
abbrev pub AreBand : LiveView → ℕ → ℕ → Type 0
AreBand c y rows = (k : ℕ) → k < rows → AreAlike c y (y + k)

-- The minterm's value of the pixel's own bit and of a bit of rows of bytes: that which lies there as the pixel does in the block,
-- whose first pixel has this bit of the first row.
abbrev pub block_bit : ℕ → List ℕ → ℕ → ℕ → Block → ℕ → ℕ → ℕ → ℕ → ℕ
block_bit minterm bytes step bit b p x y old = minterm_bit minterm (row_bit bytes (place_in step (y - b.y) (bit + (x - b.x)))) old

-- the block has all pixels of these rows and columns, and no others
pub record IsAllOf (rows columns : Places) (b : Block) : Type 0 where
  pub row : b.y ≡ rows.from
  pub column : b.x ≡ columns.from
  pub bottom : b.y + b.rows ≡ rows.end
  pub right : b.x + b.run.len ≡ columns.end

-- all pixels of these rows and columns are one block of pixels for which the test holds
pub record IsWholeBlock (c : LiveView) (test : ℕ → ℕ → Bool) (rows columns : Places) (b : Block) : Type 0 where
  pub all : IsAllOf rows columns b
  pub block : IsBlock c test b

-- for private contracts: a run cut to these columns and taken down through these rows, which are alike
pub record IsCut (c : LiveView) (rows columns : Places) (r : Run) (b : Block) : Type 0 where
  pub all : IsAllOf rows columns b
  pub some : 0 < b.rows
  pub long : 0 < b.run.len
  pub fits : b.run.len ≤ r.len
  pub run : b.run ≡ record r { len = b.run.len }
  pub band : AreBand c b.y b.rows

-- for private contracts: some columns of a row as a block, all of them drawable
pub record IsRowBlock (c : LiveView) (y : ℕ) (columns : Places) (b : Block) : Type 0 where
  pub block : IsBlock c (λ i j. draws c i j) b
  pub all : (i j : ℕ) → in_block b i j ≡ in_rows c y (y + 1) columns.from columns.end i j

-- the blocks are of one size and in one buffer
pub record HaveOneShape (a b : Block) : Type 0 where
  pub buffer : a.run.buffer ≡ b.run.buffer
  pub rows : a.rows ≡ b.rows
  pub len : a.run.len ≡ b.run.len

-- the minterm's value of the pixel's own bit and of the layer's bit of the pixel that lies in `from` as the pixel does in `to`
abbrev pub moved_bit : ℕ → LiveView → Block → Block → ℕ → ℕ → ℕ → ℕ → ℕ
moved_bit minterm c to from p x y old =
    minterm_bit minterm (bit_at (pen_at c.layer.bits (from.x + (x - to.x)) (from.y + (y - to.y))) p) old
