-- Backfill hooks (the manual's Layers Library chapter: a hook fills what a layer gains; that it is tiles of 8 by 8 pens in
-- layer coordinates, and that it turns once in a step, are this project's own).
use Rattle.std.specs.Prelude.{ℕ, ◌+◌, ◌*◌, ◌%◌, ◌==◌, if◌then◌else◌, List, [], length, ℤ, pos, unsigned_abs}
use Rattle.std.specs.Int.{int_rem_euclid}
use Rattle.std.specs.List.{slice_index_or}

-- A hook: its tiles, each of them 64 pens row by row, and which of them it fills with next.
pub record Hook : Type 0 where
  pub tiles : List (List ℕ)
  pub place : ℕ

-- where a coordinate lies in a tile: its remainder by 8, which is never negative
abbrev pub tile_place : ℤ → ℕ
tile_place z = unsigned_abs (int_rem_euclid z (pos 8))

-- The pen with which the hook fills the layer pixel (x, y): that of its tile at row y and column x.
unfoldable pub hook_pen : Hook → ℤ → ℤ → ℕ
hook_pen h x y = slice_index_or (slice_index_or h.tiles h.place []) (8 * tile_place y + tile_place x) 0

-- the hook after it filled something: its next tile, and after the last one the first
abbrev pub turned : Hook → Hook
turned h = record h { place = if length h.tiles == 0 then h.place else (h.place + 1) % length h.tiles }
