-- An order word and a seat as contracts see them.
use Rattle.std.specs.Prelude.{List}
use Rattle.atomic_table.specs.Seated.{TableId}
use Rattle.lw_calls.specs.declared.sizes.Sizes.{Sizes}
use Rattle.lw_calls.specs.declared.entry.Entry.{Entry}
use Rattle.lw_calls.specs.declared.touch.Role.{Role}

-- which order word it is, and for which sizes
pub record SeenOrder : Type 0 where
  pub word : TableId
  pub sizes : Sizes

-- which order word the seat is of, the history that it knows, and its roles
pub record SeenSeat : Type 0 where
  pub word : TableId
  pub history : List Entry
  pub roles : List Role
