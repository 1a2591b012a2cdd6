-- The bitmap that an act names, and families of acts.
use Rattle.std.specs.Prelude.{◌≡◌, ℕ, Bool, true, false, List}
use Rattle.lw_grammar.specs.Statements.{Act as Meaning, PutAct}
use Rattle.lw_grammar.specs.Told.{place_among}
use Rattle.lw_statements.specs.declared.statement.Act.{Act}
use Rattle.lw_statements.specs.declared.statement.Act.TheVariants.{RegRect, RegPair, RegClear, Create, InFront, Box, Which}
use Rattle.lw_statements.specs.declared.statement.Act.TheVariants.{Fill, ScrollRaster, Blit, EndRefresh}

-- the bitmap that the act names, if it names one, has this place among these names
abbrev pub IsBitmapAt : List (List ℕ) → ℕ → Meaning → Type 0
IsBitmapAt bitmaps place (PutAct bm area) = place ≡ place_among bitmaps bm
IsBitmapAt bitmaps place act = Unit

-- the act names no layer
abbrev pub is_apart : Act → Bool
is_apart (RegRect op register corners) = true
is_apart (RegPair op source into) = true
is_apart (RegClear register) = true
is_apart (Which x y) = true
is_apart act = false

-- the act names a layer, has no kin that share its variant, and hands its call neither a text nor a bitmap
abbrev pub is_single_on_layers : Act → Bool
is_single_on_layers (Create corners asked) = true
is_single_on_layers InFront = true
is_single_on_layers (Box at) = true
is_single_on_layers (Fill corners) = true
is_single_on_layers (ScrollRaster dx dy corners) = true
is_single_on_layers (Blit area) = true
is_single_on_layers (EndRefresh full) = true
is_single_on_layers act = false
