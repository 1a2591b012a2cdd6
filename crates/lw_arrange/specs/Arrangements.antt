-- Planned arrangements as contracts see them.
use Rattle.std.specs.Prelude.{◌≡◌, ℕ, not, ◌&&◌, List, ℤ}
use Rattle.std.specs.List.{All}
use Rattle.std.specs.Option.{is_some}
use Rattle.lw_region.specs.Rectangle.{Rectangle}
use Rattle.lw_region.specs.Bands.{covers}
use Rattle.lw_calls.specs.declared.call.Call.{Call}
use Rattle.lw_cliprects.specs.Parts.{LieIn}
use Rattle.lw_machine.specs.Screen.{screen_bounds}
use Rattle.lw_strips.specs.Laying.{screen, LiesIn}
use Rattle.lw_strips.specs.declared.piece.Piece.{Piece}
use Rattle.lw_stack.specs.Stack.{Stack, IsStack, AreShownIn, first_at}

-- A planned arrangement: the task and its call, what LayerInfo has afterwards, the area of the screen outside which each layer is
-- shown as before, by slot the places of it on which its layer is then shown, those that no layer has then, and the pieces of the
-- screen that change owner.
pub record ArrangementView : Type 0 where
  pub task : ℕ
  pub call : Call
  pub stack : Stack
  pub area : List Rectangle
  pub shown : List (List Rectangle)
  pub rest : List Rectangle
  pub pieces : List Piece

-- what holds of every planned arrangement
pub record IsArrangement (a : ArrangementView) : Type 0 where
  pub stack : IsStack a.stack
  pub area : LieIn (screen_bounds a.stack.sizes) a.area
  pub shown : AreShownIn a.area a.stack.bounds a.stack.front_to_back a.shown
  pub rest : (x y : ℤ)
      → covers a.rest x y ≡ (covers a.area x y && not (is_some (first_at a.stack.bounds a.stack.front_to_back x y)))
  pub pieces : All (λ p. LiesIn p.rect (screen a.stack.sizes.width a.stack.sizes.height)) a.pieces
