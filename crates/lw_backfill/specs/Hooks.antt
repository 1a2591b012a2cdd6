-- What a backfill hook has to be, and the three kinds of hooks.
use Rattle.std.specs.Prelude.{◌≡◌, ℕ, ◌+◌, ◌/◌, ◌%◌, ◌==◌, ◌<◌, if◌then◌else◌, List, [], ◌∷◌, length, map, replicate}
use Rattle.std.specs.List.{All, range_with_len}
use Rattle.lw_machine.specs.Hook.{Hook}

-- A tile: 64 pens, each of them a byte.
pub record IsTile (pens : List ℕ) : Type 0 where
  pub size : length pens ≡ 64
  pub bytes : All (λ pen. pen < 256) pens

-- A hook that may be called: each of its tiles is one, and its place is that of a tile. So there is a tile at least.
pub record IsHook (h : Hook) : Type 0 where
  pub tiles : All IsTile h.tiles
  pub place : h.place < length h.tiles

-- a tile of one pen
abbrev pub tile_of : ℕ → List ℕ
tile_of pen = replicate 64 pen

-- a tile with pen a where column and row have an even sum, and pen b elsewhere
abbrev pub checkered : ℕ → ℕ → List ℕ
checkered a b = map (λ i. if (i % 8 + i / 8) % 2 == 0 then a else b) (range_with_len 0 64)

-- the hook of one tile, all of one pen
abbrev pub solid : ℕ → Hook
solid pen = record { tiles = tile_of pen ∷ []; place = 0 }

-- the hook of one checkered tile
abbrev pub checker : ℕ → ℕ → Hook
checker a b = record { tiles = checkered a b ∷ []; place = 0 }

-- the hook of one tile for each pen, all of that pen, at this place
abbrev pub cycle_at : ℕ → List ℕ → Hook
cycle_at place pens = record { tiles = map tile_of pens; place = place }

-- and at the first of them
abbrev pub cycle : List ℕ → Hook
cycle pens = cycle_at 0 pens
