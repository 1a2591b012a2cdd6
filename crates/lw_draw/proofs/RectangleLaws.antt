-- Laws of rectangles that are painted one by one.
use Rattle.std.proofs.Common.{◌≡◌, ℕ, ◌+◌, ◌<◌, ◌||◌, List, [], ◌∷◌, take, get_or, length, ℤ, ◌∙◌, sym, ap, pos}
use Rattle.std.proofs.lemmas.List.{take_more}
use Rattle.lw_region.specs.Rectangle.{Rectangle, has_pixel, within}
use Rattle.lw_region.specs.Bands.{covers}
use Rattle.lw_region.proofs.Canonical.{covers_append}
use Rattle.lw_region.proofs.SetOps.{covers_one}

-- a place between equal edges
pub within_same : (a b c d z : ℤ) → a ≡ c → b ≡ d → within c z d ≡ within a z b
within_same a b c d z first last = cc

-- one rectangle more
pub covers_more : (rects : List Rectangle) (n : ℕ) (r : Rectangle) → n < length rects → r ≡ get_or rects n r → (x y : ℕ) → covers (take (n + 1) rects) (pos x) (pos y) ≡ (covers (take n rects) (pos x) (pos y) || has_pixel r (pos x) (pos y))
covers_more rects n r inside is x y =
    ap (λ rs. covers rs (pos x) (pos y)) (take_more rects n r inside) ∙
    (covers_append (take n rects) (get_or rects n r ∷ []) (pos x) (pos y) ∙
    (ap (λ t. covers (take n rects) (pos x) (pos y) || t) (covers_one (get_or rects n r) (pos x) (pos y)) ∙
    ap (λ q. covers (take n rects) (pos x) (pos y) || has_pixel q (pos x) (pos y)) (sym is)))
