-- No two rectangles of a canonical list have a pixel in common.
use Rattle.std.proofs.Common.{◌≡◌, ℕ, zero, suc, ◌<◌, true, false, List, [], ◌∷◌, length, get_or, ℤ, pos, ◌+ℤ◌, ◌≤ℤ◌, sym, ◌∙◌, arith}
use Rattle.std.proofs.lemmas.Int.{ints}
use Rattle.std.proofs.lemmas.Bool.{false≢true, false_from_ne_true, or_left, or_right, and_parts}
use Rattle.lw_region.specs.Rectangle.{Rectangle, within, has_pixel, AreApart}
use Rattle.lw_region.specs.Bands.{covers}
use Rattle.lw_region.specs.Banded.{IsCanonical}
use Rattle.lw_region.proofs.Canonical.{covers_cons}
use Rattle.lw_region.proofs.Within.{within_low, within_high}
use Rattle.lw_region.proofs.Spaced.{IsBehind, canonical_spaced}

-- what is after a rectangle has none of its rows up to the column after it
pub behind_lacks : (r s : Rectangle) (x y : ℤ) → IsBehind r s → y ≤ℤ r.max_y → x ≤ℤ (r.max_x +ℤ pos 1) → has_pixel s x y ≡ false
behind_lacks r s x y h k l =
    false_from_ne_true _ (λ t.
    let p = and_parts (within s.min_x x s.max_x) (within s.min_y y s.max_y) t in
    let a = within_low s.min_x x s.max_x p.0 in
    let b = within_low s.min_y y s.max_y p.1 in
    let g = h.gap (omega (arith, ints)) in
    absurd (omega (arith, ints)))

-- what a rectangle of the list has, the list has
pub has_at : (rs : List Rectangle) (k : ℕ) (d : Rectangle) (x y : ℤ) → k < length rs → has_pixel (get_or rs k d) x y ≡ true → covers rs x y ≡ true
has_at [] k d x y l h = absurd (omega arith)
has_at (r ∷ rs) zero d x y l h = covers_cons r rs x y ∙ or_left (has_pixel r x y) (covers rs x y) h
has_at (r ∷ rs) (suc k) d x y l h = covers_cons r rs x y ∙ or_right (has_pixel r x y) (covers rs x y) (has_at rs k d x y (omega arith) h)

-- the rectangles of a canonical list are disjoint
pub canonical_disjoint : (rects : List Rectangle) → IsCanonical rects → (i j : ℕ) (d : Rectangle) → i < j → j < length rects → AreApart (get_or rects i d) (get_or rects j d)
canonical_disjoint rects h i j d l m x y =
    let r = get_or rects i d in
    let s = get_or rects j d in
    false_from_ne_true _ (λ t.
    let p = and_parts (has_pixel r x y) (has_pixel s x y) t in
    let q = and_parts (within r.min_x x r.max_x) (within r.min_y y r.max_y) p.0 in
    let a = within_high r.min_x x r.max_x q.0 in
    false≢true (sym (behind_lacks r s x y (canonical_spaced rects h i j d l m) (within_high r.min_y y r.max_y q.1) (omega (arith, ints))) ∙ p.1))
