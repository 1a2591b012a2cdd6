-- Words of what is written.
use Rattle.std.specs.Prelude.{◌≡◌, ℕ, List, ◌++◌, length, take}
use Rattle.std.specs.Fmt.{signed_decimal}
use Rattle.lw_region.specs.Rectangle.{Rectangle}
use Rattle.lw_calls.specs.Written.{spaced_signed}

-- the four bounds of a rectangle with single spaces
abbrev pub bounds_text : Rectangle → List ℕ
bounds_text r = signed_decimal r.min_x ++ spaced_signed r.min_y ++ spaced_signed r.max_x ++ spaced_signed r.max_y

-- what was written before is a prefix of what is written now
abbrev pub Keeps : List ℕ → List ℕ → Type 0
Keeps old new = take (length old) new ≡ old
