-- Hooks of tiles that a program hands in, as one list of their pens: 64 of each tile.
use Rattle.std.specs.Prelude.{ℕ, ◌*◌, ◌/◌, ◌%◌, ◌==◌, Bool, ◌&&◌, nat_le, List, length, map, take, drop}
use Rattle.std.specs.List.{range_with_len}
use Rattle.lw_machine.specs.Hook.{Hook}

-- so many pens are those of whole tiles, and of one at least
abbrev pub have_tiles : ℕ → Bool
have_tiles count = nat_le 64 count && (count % 64 == 0)

abbrev pub are_tiles : List ℕ → Bool
are_tiles pens = have_tiles (length pens)

-- the tile of this number
abbrev pub tile_in : List ℕ → ℕ → List ℕ
tile_in pens n = take 64 (drop (64 * n) pens)

-- the hook of the tiles with these pens, at this place
abbrev pub tiles_at : ℕ → List ℕ → Hook
tiles_at place pens = record { tiles = map (tile_in pens) (range_with_len 0 (length pens / 64)); place = place }
