-- Tiles that a program hands in are a hook, and fill with their pens.
use Rattle.std.proofs.Common.{◌≡◌, ◌∙◌, ap, sym, subst, ℕ, ◌+◌, ◌-◌, ◌*◌, ◌/◌, ◌%◌, ◌<◌, ◌==◌, if◌then◌else◌, List, [], length, drop, get_or, ℤ, arith}
use Rattle.std.specs.List.{All}
use Rattle.std.proofs.lemmas.List.{get_or-take, get_or-drop, get_or_default, length-take-le, length-drop}
use Rattle.std.proofs.lemmas.List.Elements.{All-take, All-drop, All-from_get_or}
use Rattle.std.proofs.lemmas.List.FromFn.{get_or-map-range_with_len, length-map-range_with_len}
use Rattle.std.proofs.lemmas.Bool.Decides.{nat_tests}
use Rattle.lw_machine.specs.Hook.{hook_pen, tile_place, turned}
use Rattle.lw_backfill.specs.Hooks.{IsTile, IsHook}
use Rattle.lw_program_desk.specs.Tiles.{tile_in, tiles_at}

-- how many tiles there are
pub tiles_many : (pens : List ℕ) (place : ℕ) → length (tiles_at place pens).tiles ≡ length pens / 64
tiles_many pens place = length-map-range_with_len (tile_in pens) 0 (length pens / 64)

tile_at : (pens : List ℕ) (place n : ℕ) → n < length pens / 64 → get_or (tiles_at place pens).tiles n [] ≡ tile_in pens n
tile_at pens place n low = get_or-map-range_with_len (tile_in pens) 0 (length pens / 64) n n [] low (omega arith)

is_tile : (pens : List ℕ) (n : ℕ) → All (λ p. p < 256) pens → n < length pens / 64 → IsTile (tile_in pens n)
is_tile pens n bytes low =
    let rest : length (drop (64 * n) pens) ≡ length pens - 64 * n = length-drop (64 * n) pens in
    record {
      size = length-take-le 64 (drop (64 * n) pens) (omega (arith, low, rest));
      bytes = All-take (λ p. p < 256) 64 (drop (64 * n) pens) (All-drop (λ p. p < 256) (64 * n) pens bytes);
    }

pub tiles_are_hook : (pens : List ℕ) (place : ℕ) → All (λ p. p < 256) pens → place < length pens / 64 → IsHook (tiles_at place pens)
tiles_are_hook pens place bytes low =
    record {
      tiles = All-from_get_or IsTile (tiles_at place pens).tiles [] (λ n under.
          let few : n < length pens / 64 = subst (λ k. n < k) (tiles_many pens place) under in
          subst IsTile (sym (tile_at pens place n few)) (is_tile pens n bytes few));
      place = subst (λ k. place < k) (sym (tiles_many pens place)) low;
    }

-- the pen of a column and a row
pub tiles_pen : (pens : List ℕ) (place i pen a b : ℕ) (x y : ℤ) → place < length pens / 64 → a ≡ tile_place x → b ≡ tile_place y → a < 8 → b < 8
    → i ≡ 64 * place + (8 * b + a) → pen ≡ get_or pens i pen → pen ≡ hook_pen (tiles_at place pens) x y
unfolding hook_pen
tiles_pen pens place i pen a b x y low left top columns rows is read =
    let k = 8 * b + a in
    let few : k < 64 = omega (arith, columns, rows) in
    let inside : i < length pens = omega (arith, low, is, columns, rows) in
    let spot : k ≡ 8 * tile_place y + tile_place x = ap (λ n. 8 * n + a) top ∙ ap (λ n. 8 * tile_place y + n) left in
    read ∙ (get_or_default pens i pen 0 inside ∙ (ap (λ n. get_or pens n 0) is ∙ (sym (get_or-drop (64 * place) pens k 0)
    ∙ (sym (get_or-take 64 (drop (64 * place) pens) k 0 few) ∙ (ap (λ t. get_or t k 0) (sym (tile_at pens place place low))
    ∙ ap (λ n. get_or (get_or (tiles_at place pens).tiles place []) n 0) spot)))))

-- the tile after a place
pub tiles_turned : (pens : List ℕ) (place next : ℕ) → place < length pens / 64 → next ≡ (place + 1) % (length pens / 64)
    → tiles_at next pens ≡ turned (tiles_at place pens)
tiles_turned pens place next low is =
    let many = tiles_many pens place in
    let m = length (tiles_at place pens).tiles in
    let after : next ≡ (place + 1) % m = is ∙ ap (λ n. (place + 1) % n) (sym many) in
    let chosen : next ≡ (if m == 0 then place else (place + 1) % m) = after ∙ other m place ((place + 1) % m) (omega (arith, low, many)) in
    ap (λ k. record { tiles = (tiles_at place pens).tiles; place = k }) chosen
  where
    other : (m a b : ℕ) → 0 < m → b ≡ (if m == 0 then a else b)
    other m a b some = grind (arith, nat_tests)
