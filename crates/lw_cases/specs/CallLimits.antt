-- Worked cases.
-- Numbers at the bounds of their ranges, and one past them, in each call that has such a number.
use Rattle.std.specs.Prelude.{ℕ, Bool, List, [], ◌∷◌, map, ℤ, pos, negsuc}
use Rattle.std.specs.List.{list_all, list_any, flat_map}
use Rattle.lw_region.specs.Rectangle.{Rectangle}
use Rattle.lw_calls.specs.declared.sizes.Sizes.{Sizes}
use Rattle.lw_calls.specs.declared.call.Call.{Call}
use Rattle.lw_calls.specs.Limits.{call_fits}
use Rattle.lw_cases.specs.Plans.{rect}

-- two slots, three bitmaps and five hooks
abbrev pub few_of_each : Sizes
few_of_each = record { version = 1; width = 16; height = 4; depth = 1; slots = 2; tasks = 1; hooks = 5; bitmaps = 3 }

-- all of these calls fit, or some of them do
abbrev pub all_fit : List Call → Bool
all_fit calls = list_all (call_fits few_of_each) calls

abbrev pub some_fits : List Call → Bool
some_fits calls = list_any (call_fits few_of_each) calls

-- each call with each of these numbers, pairs of numbers or rectangles
abbrev pub calls_with : {A : Type 0} → List (A → Call) → List A → List Call
calls_with calls values = flat_map (λ v. map (λ call. call v) calls) values

abbrev pub calls_with_pairs : {A : Type 0} → List (A → A → Call) → List (A × A) → List Call
calls_with_pairs calls pairs = flat_map (λ p. map (λ call. call p.0 p.1) calls) pairs

-- the least and the greatest coordinate
abbrev pub least : ℤ
least = negsuc 32767

abbrev pub greatest : ℤ
greatest = pos 32767

-- coordinates at the bounds, and one past them
abbrev pub pairs_at_bounds : List (ℤ × ℤ)
pairs_at_bounds = (least, greatest) ∷ (greatest, least) ∷ []

abbrev pub pairs_past_bounds : List (ℤ × ℤ)
pairs_past_bounds = (negsuc 32768, pos 0) ∷ (pos 32768, pos 0) ∷ (pos 0, negsuc 32768) ∷ (pos 0, pos 32768) ∷ []

-- sizes of a box or a blit
abbrev pub sizes_at_bounds : List (ℤ × ℤ)
sizes_at_bounds = (pos 1, pos 32767) ∷ (pos 32767, pos 1) ∷ []

abbrev pub sizes_past_bounds : List (ℤ × ℤ)
sizes_past_bounds = (pos 0, pos 1) ∷ (pos 32768, pos 1) ∷ (pos 1, pos 0) ∷ (pos 1, pos 32768) ∷ []

-- sizes of a new layer
abbrev pub made_sizes_at_bounds : List (ℤ × ℤ)
made_sizes_at_bounds = (pos 1, pos 65536) ∷ (pos 65536, pos 1) ∷ []

abbrev pub made_sizes_past_bounds : List (ℤ × ℤ)
made_sizes_past_bounds = (pos 0, pos 1) ∷ (pos 65537, pos 1) ∷ (pos 1, pos 0) ∷ (pos 1, pos 65537) ∷ []

-- sizes of a bitmap of its own, and of the bitmap that a layer of another kind hasn't got
abbrev pub own_sizes_at_bounds : List (ℕ × ℕ)
own_sizes_at_bounds = (1, 2048) ∷ (2048, 1) ∷ []

abbrev pub own_sizes_past_bounds : List (ℕ × ℕ)
own_sizes_past_bounds = (0, 1) ∷ (2049, 1) ∷ (1, 0) ∷ (1, 2049) ∷ []

-- rectangles at the bounds: the greatest one, and those of one pixel in two corners
abbrev pub bounded : ℤ → ℤ → ℤ → ℤ → Rectangle
bounded x0 y0 x1 y1 = record { min_x = x0; min_y = y0; max_x = x1; max_y = y1 }

abbrev pub rectangles_at_bounds : List Rectangle
rectangles_at_bounds =
    bounded least least greatest greatest ∷ bounded least greatest least greatest ∷ bounded greatest least greatest least ∷ []

-- rectangles with one bound past its range, or one maximum below its minimum
abbrev pub rectangles_past_bounds : List Rectangle
rectangles_past_bounds =
    bounded (negsuc 32768) (pos 0) (pos 0) (pos 0) ∷ bounded (pos 0) (negsuc 32768) (pos 0) (pos 0) ∷
    bounded (pos 0) (pos 0) (pos 32768) (pos 0) ∷ bounded (pos 0) (pos 0) (pos 0) (pos 32768) ∷
    rect 1 0 0 0 ∷ rect 0 1 0 0 ∷ []

-- minterms, and bytes and a number that are none
abbrev pub minterms : List ℕ
minterms =
    0 ∷ 16 ∷ 32 ∷ 48 ∷ 64 ∷ 80 ∷ 96 ∷ 112 ∷ 128 ∷ 144 ∷ 160 ∷ 176 ∷ 192 ∷ 208 ∷ 224 ∷ 240 ∷ []

abbrev pub no_minterms : List ℕ
no_minterms = 1 ∷ 8 ∷ 15 ∷ 193 ∷ 200 ∷ 255 ∷ 256 ∷ []
