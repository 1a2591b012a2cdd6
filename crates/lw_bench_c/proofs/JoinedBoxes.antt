-- The pixels of a list of boxes, as its region is put together.
use Rattle.std.proofs.Common.{◌≡◌, ◌<◌, ◌||◌, List, [], ◌∷◌, ◌++◌, length, ℤ, refl, ap, sym, ◌∙◌, subst, arith}
use Rattle.lw_region.specs.Rectangle.{Rectangle}
use Rattle.lw_region.specs.Pixels.{pixels_of, union}
use Rattle.lw_region.specs.Bands.{bands, covers}
use Rattle.lw_region.specs.Regions.{rectangle_set}
use Rattle.lw_region.proofs.Canonical.{covers_nil, covers_append}
use Rattle.lw_region.proofs.SetOps.{combined_lists}

one_or_none : (r : Rectangle) (rest : List Rectangle) → length (r ∷ rest) < 2 → rest ≡ []
one_or_none r [] h = refl
one_or_none r (s ∷ rest) h = absurd (omega (arith, h))

-- the only box of a list, joined to nothing
pub only_box : (before after all rest : List Rectangle) (r : Rectangle) → before ≡ [] → all ≡ r ∷ rest → length all < 2
    → after ≡ bands (union (pixels_of before) (rectangle_set r)) → (x y : ℤ) → covers after x y ≡ covers all x y
only_box before after all rest r e a l h x y =
    let none : rest ≡ [] = one_or_none r rest (subst (λ z. length z < 2) a l) in
    (combined_lists.unions before (r ∷ []) after h).pixels x y
    ∙ (ap (λ w. w || covers (r ∷ []) x y) (ap (λ l. covers l x y) e ∙ covers_nil x y) ∙ sym (ap (λ l. covers l x y) (a ∙ ap (λ l. r ∷ l) none)))

-- two halves joined
pub halves_joined : (all left right a b after : List Rectangle) → all ≡ left ++ right
    → ((x y : ℤ) → covers a x y ≡ covers left x y) → ((x y : ℤ) → covers b x y ≡ covers right x y)
    → after ≡ bands (union (pixels_of a) (pixels_of b)) → (x y : ℤ) → covers after x y ≡ covers all x y
halves_joined all left right a b after e ha hb h x y =
    (combined_lists.unions a b after h).pixels x y ∙ (ap (λ w. w || covers b x y) (ha x y) ∙ (ap (λ w. covers left x y || w) (hb x y)
    ∙ (sym (covers_append left right x y) ∙ sym (ap (λ l. covers l x y) e))))
