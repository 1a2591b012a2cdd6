-- The text of a bitmap alone.
use Rattle.std.specs.Prelude.{ℕ, List}
use Rattle.std.specs.List.{flat_map}
use Rattle.lw_planes.specs.Bitmap.{Bitmap}
use Rattle.lw_calls.specs.Written.{line_of}
use Rattle.lw_canonical.specs.Canonical.{lines_of_bitmap}
use Rattle.lw_canonical.specs.Spelling.{spelled}

-- The lines of a bitmap of this name, as they stand in a script, each with a line feed after it.
abbrev pub bitmap_text : List ℕ → Bitmap → List ℕ
bitmap_text name b = flat_map (λ statement. line_of (spelled statement)) (lines_of_bitmap name b)
