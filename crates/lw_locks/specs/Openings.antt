-- A word and sizes for an opening that nobody picked.
use Rattle.std.specs.Prelude.{[]}
use Rattle.atomic_table.specs.Seated.{TableId}
use Rattle.lw_calls.specs.declared.sizes.Sizes.{Sizes}

abbrev pub no_sizes : Sizes
no_sizes = record { version = 1; width = 1; height = 1; depth = 1; slots = 0; tasks = 1; hooks = 0; bitmaps = 0 }

abbrev pub no_word : TableId
no_word = record { words = 1; slots = 0; views_name = 0; atom = 0; block = 0; offset = 0; slot_names = [] }
