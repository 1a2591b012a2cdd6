-- Laws on tiles, and on the three kinds of hooks.
use Rattle.std.proofs.Common.{rules, arith, ◌≡◌, ap, sym, ◌∙◌, ℕ, zero, suc, ◌+◌, ◌*◌, ◌/◌, ◌%◌, ◌<◌, ◌==◌, if◌then◌else◌, List, [], ◌∷◌, length, get_or, Bool, true, false, ℤ, pos, negsuc, ◌+ℤ◌, unsigned_abs}
use Rattle.std.specs.List.{All, range_with_len, slice_index_or}
use Rattle.std.proofs.lemmas.List.{get_or-replicate, length-replicate, get_or-map, length-map}
use Rattle.std.proofs.lemmas.List.Elements.{All-nil, All-cons, All-weaker, All-map, All-from_get_or, All-replicate}
use Rattle.std.proofs.lemmas.List.FromFn.{get_or-map-range_with_len, length-map-range_with_len}
use Rattle.std.proofs.lemmas.Bool.Decides.{nat_tests}
use Rattle.std.proofs.lemmas.Int.{ints}
use Rattle.lw_machine.specs.Hook.{Hook, hook_pen, tile_place}
use Rattle.lw_backfill.specs.Hooks.{IsTile, IsHook, tile_of, checkered, solid, checker, cycle_at}

-- every coordinate lies in a tile
pub place_within : (z : ℤ) → tile_place z < 8
place_within (pos n) = search (arith, rules)
place_within (negsuc n) = search (arith, rules)

-- the place in a tile of a place in a tile is itself
pub place_again : (z : ℤ) → tile_place (pos (tile_place z)) ≡ tile_place z
place_again z = omega (arith, place_within z)

-- a coordinate is even where its place in a tile is
pub place_parity : (z : ℤ) → tile_place z % 2 ≡ unsigned_abs z % 2
place_parity (pos n) = omega arith
place_parity (negsuc n) = omega arith

-- where a pixel's pen stands in a tile
pub index_within : (x y : ℤ) → 8 * tile_place y + tile_place x < 64
index_within x y = omega (arith, place_within x, place_within y)

-- the hook that is at a tile of one pen fills with it
pub one_pen : (h : Hook) (pen : ℕ) (x y : ℤ) → slice_index_or h.tiles h.place [] ≡ tile_of pen → pen ≡ hook_pen h x y
unfolding hook_pen
one_pen h pen x y e =
    sym (ap (λ tile. slice_index_or tile (8 * tile_place y + tile_place x) 0) e ∙ get_or-replicate 64 (8 * tile_place y + tile_place x) pen 0 (index_within x y))

-- a cycle fills with the pen at its place
pub cycle_pen : (pens : List ℕ) (place pen : ℕ) (x y : ℤ) → place < length pens → pen ≡ slice_index_or pens place pen → pen ≡ hook_pen (cycle_at place pens) x y
cycle_pen pens place pen x y within e = one_pen (cycle_at place pens) pen x y (get_or-map tile_of pens place pen [] within ∙ ap tile_of (sym e))

-- which pen a checkered tile has
pub checker_place : (a b : ℕ) (x y : ℤ) → hook_pen (checker a b) x y ≡ (if (tile_place x + tile_place y) % 2 == 0 then a else b)
unfolding hook_pen
checker_place a b x y =
    get_or-map-range_with_len (λ i. if (i % 8 + i / 8) % 2 == 0 then a else b) 0 64 (8 * tile_place y + tile_place x) (8 * tile_place y + tile_place x) 0 (index_within x y) (omega arith)
    ∙ ap (λ n. if n % 2 == 0 then a else b) (parts (tile_place x) (tile_place y) (place_within x))
  where
    parts : (c r : ℕ) → c < 8 → ((8 * r + c) % 8 + (8 * r + c) / 8) ≡ c + r
    parts c r h = omega (arith, h)

-- the pen where the places have an even sum, and where they haven't
pub checker_even : (a b m n : ℕ) (x y : ℤ) → m ≡ tile_place x → n ≡ tile_place y → (m + n) % 2 ≡ 0 → a ≡ hook_pen (checker a b) x y
checker_even a b m n x y e f even =
    let sum : (tile_place x + tile_place y) % 2 ≡ 0 = rw (← e, ← f) even in
    sym (checker_place a b x y ∙ ap (λ k. if k == 0 then a else b) sum)

pub checker_odd : (a b m n : ℕ) (x y : ℤ) → m ≡ tile_place x → n ≡ tile_place y → ((m + n) % 2 ≡ 0 → ⊥) → b ≡ hook_pen (checker a b) x y
checker_odd a b m n x y e f odd =
    let sum : (tile_place x + tile_place y) % 2 ≡ 0 → ⊥ = rw (← e, ← f) odd in
    sym (checker_place a b x y ∙ other ((tile_place x + tile_place y) % 2) sum)
  where
    other : (k : ℕ) → (k ≡ 0 → ⊥) → (if k == 0 then a else b) ≡ b
    other k h = grind (arith, nat_tests)

-- a sum is even where the places in a tile have an even sum
pub sum_parity : (x y : ℤ) → (tile_place x + tile_place y) % 2 ≡ unsigned_abs (x +ℤ y) % 2
sum_parity x y = halves (tile_place x) (tile_place y) x y (place_parity x) (place_parity y)
  where
    halves : (m n : ℕ) (x y : ℤ) → m % 2 ≡ unsigned_abs x % 2 → n % 2 ≡ unsigned_abs y % 2 → (m + n) % 2 ≡ unsigned_abs (x +ℤ y) % 2
    halves m n (pos a) (pos b) e f = omega (arith, ints, e, f)
    halves m n (pos a) (negsuc b) e f = omega (arith, ints, e, f)
    halves m n (negsuc a) (pos b) e f = omega (arith, ints, e, f)
    halves m n (negsuc a) (negsuc b) e f = omega (arith, ints, e, f)

-- a checker has pen a where column and row have an even sum
pub checker_pen : (a b : ℕ) (x y : ℤ) → hook_pen (checker a b) x y ≡ (if unsigned_abs (x +ℤ y) % 2 == 0 then a else b)
checker_pen a b x y = checker_place a b x y ∙ ap (λ n. if n == 0 then a else b) (sum_parity x y)

-- what is a tile
pub one_pen_tile : (pen : ℕ) → pen < 256 → IsTile (tile_of pen)
one_pen_tile pen h = record { size = length-replicate 64 pen; bytes = All-replicate (λ p. p < 256) 64 pen h }

pub checkered_is_tile : (a b : ℕ) → a < 256 → b < 256 → IsTile (checkered a b)
checkered_is_tile a b h k =
    record {
      size = length-map-range_with_len (λ i. if (i % 8 + i / 8) % 2 == 0 then a else b) 0 64;
      bytes = All-map (λ p. p < 256) (λ i. if (i % 8 + i / 8) % 2 == 0 then a else b) (range_with_len 0 64)
          (All-from_get_or (λ i. (if (i % 8 + i / 8) % 2 == 0 then a else b) < 256) (range_with_len 0 64) 0 (λ i _. either ((get_or (range_with_len 0 64) i 0 % 8 + get_or (range_with_len 0 64) i 0 / 8) % 2 == 0)));
    }
  where
    either : (t : Bool) → (if t then a else b) < 256
    either true = h
    either false = k

-- and what is a hook
pub solid_is_hook : (pen : ℕ) → pen < 256 → IsHook (solid pen)
solid_is_hook pen h = record { tiles = All-cons IsTile (tile_of pen) [] (one_pen_tile pen h) (All-nil IsTile); place = omega arith }

pub checker_is_hook : (a b : ℕ) → a < 256 → b < 256 → IsHook (checker a b)
checker_is_hook a b h k = record { tiles = All-cons IsTile (checkered a b) [] (checkered_is_tile a b h k) (All-nil IsTile); place = omega arith }

pub cycle_is_hook : (pens : List ℕ) (place : ℕ) → All (λ pen. pen < 256) pens → place < length pens → IsHook (cycle_at place pens)
cycle_is_hook pens place bytes within =
    record {
      tiles = All-map IsTile tile_of pens (All-weaker (λ pen. pen < 256) (λ pen. IsTile (tile_of pen)) one_pen_tile pens bytes);
      place = rw (length-map pens tile_of) within;
    }

-- Eight pens of a row, at its columns 0 to 7, are the pens of the whole row: each pixel has the one at its column's place.
pub row_pens : (h : Hook) (y z : ℤ) {p0 p1 p2 p3 p4 p5 p6 p7 : ℕ} → z ≡ y → p0 ≡ hook_pen h (pos 0) z → p1 ≡ hook_pen h (pos 1) z → p2 ≡ hook_pen h (pos 2) z → p3 ≡ hook_pen h (pos 3) z → p4 ≡ hook_pen h (pos 4) z → p5 ≡ hook_pen h (pos 5) z → p6 ≡ hook_pen h (pos 6) z → p7 ≡ hook_pen h (pos 7) z
    → (x : ℤ) → slice_index_or (p0 ∷ p1 ∷ p2 ∷ p3 ∷ p4 ∷ p5 ∷ p6 ∷ p7 ∷ []) (tile_place x) 0 ≡ hook_pen h x y
unfolding hook_pen
row_pens h y z {p0} {p1} {p2} {p3} {p4} {p5} {p6} {p7} e e0 e1 e2 e3 e4 e5 e6 e7 x =
    each (tile_place x) (place_within x) ∙ ap (λ c. tile_pen c z) (place_again x) ∙ ap (λ w. tile_pen (tile_place x) w) e
  where
    tile_pen : ℕ → ℤ → ℕ
    tile_pen c w = slice_index_or (slice_index_or h.tiles h.place []) (8 * tile_place w + c) 0

    each : (n : ℕ) → n < 8 → slice_index_or (p0 ∷ p1 ∷ p2 ∷ p3 ∷ p4 ∷ p5 ∷ p6 ∷ p7 ∷ []) n 0 ≡ hook_pen h (pos n) z
    each zero within = e0
    each (suc zero) within = e1
    each (suc (suc zero)) within = e2
    each (suc (suc (suc zero))) within = e3
    each (suc (suc (suc (suc zero)))) within = e4
    each (suc (suc (suc (suc (suc zero))))) within = e5
    each (suc (suc (suc (suc (suc (suc zero)))))) within = e6
    each (suc (suc (suc (suc (suc (suc (suc zero))))))) within = e7
    each (suc (suc (suc (suc (suc (suc (suc (suc n)))))))) within = absurd (omega arith)
