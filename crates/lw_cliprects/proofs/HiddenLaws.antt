-- The hidden rectangles: which pixels they have, and that with the visible ones they divide the bounds.
use Rattle.std.proofs.Common.{◌≡◌, zero, suc, Bool, true, false, not, ◌&&◌, ◌||◌, List, [], ◌∷◌, ◌++◌, get_or, ℤ, refl, ap, sym, ◌∙◌, arith}
use Rattle.std.specs.List.{All, AllPairs}
use Rattle.std.proofs.lemmas.Bool.{false≢true, false_from_ne_true, and_parts, and_right, or_left, or_right, not_from_true}
use Rattle.std.proofs.lemmas.List.Elements.{All-from_get_or, All-append}
use Rattle.std.proofs.lemmas.List.Kept.{AllPairs-cons}
use Rattle.lw_region.specs.Rectangle.{Rectangle, has_pixel, AreApart}
use Rattle.lw_region.specs.Pixels.{pixels_of, difference}
use Rattle.lw_region.specs.Bands.{bands, covers}
use Rattle.lw_region.specs.Banded.{IsCanonical}
use Rattle.lw_region.specs.Regions.{rectangle_set}
use Rattle.lw_region.proofs.Canonical.{covers_cons}
use Rattle.lw_region.proofs.SetOps.{covers_one, canonical_bands, combined_lists}
use Rattle.lw_region.proofs.Disjoint.{canonical_disjoint, has_at}
use Rattle.lw_cliprects.specs.Parts.{hidden_of, LieIn, AreDivided}

-- the hidden rectangles are the bands of what the visible ones leave of the bounds
pub hidden_bands : (bounds : Rectangle) (visible : List Rectangle) → bands (difference (rectangle_set bounds) (pixels_of visible)) ≡ hidden_of bounds visible
unfolding hidden_of
hidden_bands bounds visible = refl

-- the hidden rectangles have the pixels of the bounds that are not visible
pub covers_hidden : (bounds : Rectangle) (visible : List Rectangle) (x y : ℤ)
    → covers (hidden_of bounds visible) x y ≡ (has_pixel bounds x y && not (covers visible x y))
unfolding hidden_of
covers_hidden bounds visible x y =
    (combined_lists.differences (bounds ∷ []) visible _ refl).pixels x y ∙ ap (λ w. w && not (covers visible x y)) (covers_one bounds x y)

-- the hidden rectangles are a canonical list
pub canonical_hidden : (bounds : Rectangle) (visible : List Rectangle) → IsCanonical (hidden_of bounds visible)
unfolding hidden_of
canonical_hidden bounds visible = canonical_bands (difference (rectangle_set bounds) (pixels_of visible))

-- the part and what the part leaves are the whole
part_put_back : (part whole : Bool) → (part ≡ true → whole ≡ true) → (part || (whole && not part)) ≡ whole
part_put_back true whole h = sym (h refl)
part_put_back false true h = refl
part_put_back false false h = refl

-- a rectangle of which a list has no pixel is apart from each of the list
apart_from_each : (r : Rectangle) (rects : List Rectangle) → ((x y : ℤ) → has_pixel r x y ≡ true → covers rects x y ≡ false) → All (AreApart r) rects
apart_from_each r rects h =
    All-from_get_or (AreApart r) rects r (λ k l x y.
    false_from_ne_true _ (λ t.
    let p = and_parts (has_pixel r x y) (has_pixel (get_or rects k r) x y) t in
    false≢true (sym (h x y p.0) ∙ has_at rects k r x y l p.1)))

-- two lists of rectangles that are apart, and that have no pixel in common, are one such list
apart_append : (rs ss : List Rectangle) → AllPairs AreApart rs → AllPairs AreApart ss → ((x y : ℤ) → covers rs x y ≡ true → covers ss x y ≡ false)
    → AllPairs AreApart (rs ++ ss)
apart_append [] ss h k e = k
apart_append (r ∷ rs) ss h k e =
    AllPairs-cons AreApart r (rs ++ ss)
    (All-append (AreApart r) rs ss
    (All-from_get_or (AreApart r) rs r (λ i l. h zero (suc i) r (omega arith) (omega arith)))
    (apart_from_each r ss (λ x y p. e x y (covers_cons r rs x y ∙ or_left (has_pixel r x y) (covers rs x y) p))))
    (apart_append rs ss (λ i j d l m. h (suc i) (suc j) d (omega arith) (omega arith)) k
    (λ x y p. e x y (covers_cons r rs x y ∙ or_right (has_pixel r x y) (covers rs x y) p)))

-- the visible and the hidden rectangles divide the bounds
pub divided : (bounds : Rectangle) (visible hidden : List Rectangle) → hidden ≡ hidden_of bounds visible → LieIn bounds visible → IsCanonical visible
    → AreDivided bounds visible hidden
divided bounds visible hidden e inside canonical =
    rw e (record {
      apart = apart_append visible (hidden_of bounds visible) (canonical_disjoint visible canonical)
          (canonical_disjoint (hidden_of bounds visible) (canonical_hidden bounds visible))
          (λ x y p. covers_hidden bounds visible x y ∙ and_right (has_pixel bounds x y) (not (covers visible x y)) (not_from_true (covers visible x y) p));
      cover = λ x y. ap (λ w. covers visible x y || w) (covers_hidden bounds visible x y)
          ∙ part_put_back (covers visible x y) (has_pixel bounds x y) (inside x y);
    })
