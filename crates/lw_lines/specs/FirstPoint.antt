-- For private contracts.
-- The point of the first two words of a list.
use Rattle.std.specs.Prelude.{List, ◌∷◌, Option, Some, None}
use Rattle.lw_area.specs.declared.point.Point.{Point}
use Rattle.lw_grammar.specs.Tokens.{Token, NumberToken}
use Rattle.lw_grammar.specs.Statements.{point}

abbrev pub first_point : List Token → Option Point
first_point (NumberToken a x ∷ NumberToken b y ∷ ts) = Some (point x y)
first_point _ = None
