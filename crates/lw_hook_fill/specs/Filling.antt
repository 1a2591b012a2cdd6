-- For private contracts.
-- What a fill with a hook makes of a layer's bits.
use Rattle.std.specs.Prelude.{◌≡◌, ℕ, ◌-◌, ◌%◌, ◌<◌, Bool, ◌&&◌, List, [], pos}
use Rattle.std.specs.Int.{bit_at}
use Rattle.std.specs.List.{slice_index_or}
use Rattle.lw_region.specs.Rectangle.{Rectangle, has_pixel}
use Rattle.lw_region.specs.Bands.{covers}
use Rattle.lw_machine.specs.Hook.{Hook, hook_pen}
use Rattle.lw_machine.specs.Paint.{with_pens, pen_within}
use Rattle.lw_layer.specs.View.{LiveView, keeps, draws, with_layer}

-- the bit that column x takes from a byte for eight columns: the byte's most significant bit is its leftmost column, and it comes
-- again every eight columns
abbrev pub byte_bit : ℕ → ℕ → ℕ
byte_bit byte x = bit_at byte (7 - x % 8)

-- the bit that a pixel takes in a plane from a tile, which has for each of its eight rows a byte for each plane
abbrev pub tile_bit : List (List ℕ) → ℕ → ℕ → ℕ → ℕ → ℕ
tile_bit tile p x y old = byte_bit (slice_index_or (slice_index_or tile (y % 8) []) p 0) x

-- the bits of the tile are those of the hook's pens
abbrev pub IsTileOf : Hook → List (List ℕ) → Type 0
IsTileOf h tile = (p x y old : ℕ) → p < 8 → tile_bit tile p x y old ≡ bit_at (hook_pen h (pos x) (pos y)) p

-- the drawable pixels of a rectangle
abbrev pub in_rectangle : LiveView → Rectangle → ℕ → ℕ → Bool
in_rectangle c r x y = draws c x y && has_pixel r (pos x) (pos y)

-- and of some rectangles
abbrev pub in_rectangles : LiveView → List Rectangle → ℕ → ℕ → Bool
in_rectangles c rects x y = draws c x y && covers rects (pos x) (pos y)

-- the live layer with the hook's pens on the pixels of some rectangles that it keeps
abbrev pub filled : Hook → List Rectangle → LiveView → LiveView
filled h rects c =
    with_layer
    (λ l. with_pens
    (λ x y. keeps c x y && covers rects (pos x) (pos y))
    (λ x y. pen_within l.bits.depth (hook_pen h (pos x) (pos y)))
    l)
    c
