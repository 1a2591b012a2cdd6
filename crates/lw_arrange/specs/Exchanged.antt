-- What an owner gives up and gets in an arrangement.
use Rattle.std.specs.Prelude.{◌≡◌, ℕ, List, map, None}
use Rattle.lw_region.specs.Rectangle.{Rectangle}
use Rattle.lw_strips.specs.Strips.{StripView, strip_of}
use Rattle.lw_strips.specs.Exchange.{lost_rects, gained_rects}
use Rattle.lw_strips.specs.declared.piece.Piece.{Piece}

-- An owner gives up a strip of pen 0, of so many planes, for each piece that it loses, and gets the rectangle of each that it
-- gains.
pub record HasPieces (owner depth : ℕ) (pieces : List Piece) (strips : List StripView) (rects : List Rectangle) : Type 0 where
  pub lost : strips ≡ map (λ r. strip_of r depth None) (lost_rects owner pieces)
  pub gained : rects ≡ gained_rects owner pieces
