-- More than 64 words make no area.
use Rattle.std.proofs.Common.{◌≡◌, ℕ, ◌+◌, ◌<◌, Bool, true, false, ◌&&◌, nat_le, if◌then◌else◌, List, [], ◌∷◌, length, map, Option, Some, None, IfSome, option_map, refl, sym, ap, arith}
use Rattle.std.specs.Option.{option_and_then}
use Rattle.lw_area.specs.declared.point.Point.{Point}
use Rattle.lw_area.specs.Polygons.{is_point_count}
use Rattle.lw_grammar.specs.Tokens.{Token, NumberToken}
use Rattle.lw_grammar.specs.Statements.{point, points_of, area_points}
use Rattle.lw_words.specs.declared.token.Token.{Token as Reading}
use Rattle.lw_words.specs.TokenMeaning.{token_meaning}
use Rattle.std.proofs.lemmas.Bool.Decides.{nat_tests}
use Rattle.std.proofs.lemmas.List.{length-map}

-- each point has two words
points_long : (ts : List Token) → IfSome (points_of ts) (λ ps. length ps + length ps ≡ length ts)
points_long [] = omega arith
points_long (NumberToken a x ∷ NumberToken b y ∷ ts) = go (points_of ts) (points_long ts)
  where
    go : (o : Option (List Point)) → IfSome o (λ ps. length ps + length ps ≡ length ts) → IfSome (option_map (λ ps. point x y ∷ ps) o) (λ ps. length ps + length ps ≡ length (NumberToken a x ∷ NumberToken b y ∷ ts))
    go None h = tt
    go (Some ps) h = let twice : length ps + length ps ≡ length ts = h in omega (arith, twice)
points_long _ = tt

-- so many points make none
too_many : (n : ℕ) → 32 < n → is_point_count n ≡ false
too_many n h = go (nat_le 3 n)
  where
    go : (t : Bool) → (t && nat_le n 32) ≡ false
    go true = grind (arith, nat_tests)
    go false = refl

pub too_long : (tokens : List Reading) → 64 < length tokens → None ≡ area_points (map token_meaning tokens)
too_long tokens h = go (points_of (map token_meaning tokens)) (points_long (map token_meaning tokens))
  where
    go : (o : Option (List Point)) → IfSome o (λ ps. length ps + length ps ≡ length (map token_meaning tokens)) → None ≡ option_and_then (λ ps. if is_point_count (length ps) then Some ps else None) o
    go None k = refl
    go (Some ps) k =
        let twice : length ps + length ps ≡ length (map token_meaning tokens) = k in
        let same = length-map tokens token_meaning in
        ap (λ b. if b then Some ps else None) (sym (too_many (length ps) (omega (arith, twice, same, h))))
