-- Which strip's pen stands at a place.
use Rattle.std.proofs.Common.{◌≡◌, ℕ, zero, suc, Bool, true, false, ◌<◌, ◌&&◌, ◌||◌, if◌then◌else◌, List, [], ◌∷◌, ◌++◌, length, get_or, ◌∙◌, sym, refl, ap, arith, ℤ, pos, ◌+ℤ◌}
use Rattle.std.proofs.lemmas.List.{map-append}
use Rattle.lw_region.specs.Rectangle.{Rectangle, has_pixel}
use Rattle.lw_region.specs.Bands.{covers}
use Rattle.lw_region.proofs.Canonical.{covers_nil, covers_cons, covers_append}
use Rattle.lw_planes.specs.Bitmap.{Bitmap, pen_at}
use Rattle.lw_planes.proofs.BitmapLaws.{pen_at_bitmap, bitmap_same}
use Rattle.lw_planes.proofs.ChosenLaws.{first_choice}
use Rattle.lw_strips.specs.Strips.{StripView, strip_pen, rects_of, pen_in}
use Rattle.lw_strips.specs.Laying.{with_strips, screen, assembled, AreDisjoint, LayingLaw, PlacesLaw}
use Rattle.lw_strips.proofs.LayingLaws.{laid_blank, screen_composed}

-- a choice that goes on
choice_on : (t u : Bool) (a b c : ℕ) → (if t then a else (if u then b else c)) ≡ (if (t || u) then (if t then a else b) else c)
choice_on true u a b c = refl
choice_on false u a b c = refl

-- the pens of the first list, and where it has none those of the second
pen_in_append : (a b : List StripView) (x y : ℤ) → pen_in (a ++ b) x y ≡ (if covers (rects_of a) x y then pen_in a x y else pen_in b x y)
unfolding pen_in
pen_in_append [] b x y = sym (ap (λ t. if t then 0 else pen_in b x y) (covers_nil x y))
pen_in_append (s ∷ a) b x y =
    ap (λ p. if has_pixel s.rect x y then strip_pen s x y else p) (pen_in_append a b x y)
    ∙ (first_choice (has_pixel s.rect x y) (covers (rects_of a) x y) (strip_pen s x y) (pen_in a x y) (pen_in b x y)
    ∙ sym (ap (λ t. if t then pen_in (s ∷ a) x y else pen_in b x y) (covers_cons s.rect (rects_of a) x y)))

covers_both : (a b : List StripView) (x y : ℤ) → covers (rects_of (a ++ b)) x y ≡ (covers (rects_of a) x y || covers (rects_of b) x y)
covers_both a b x y = ap (λ rs. covers rs x y) (map-append (λ s. s.rect) a b) ∙ covers_append (rects_of a) (rects_of b) x y

laid_twice : (window : Rectangle) (a b : List StripView) (planes : Bitmap) → with_strips window a (with_strips window b planes) ≡ with_strips window (a ++ b) planes
laid_twice window a b planes =
    bitmap_same planes.width planes.height planes.depth _ _
    (λ x y left low.
    let u : ℤ = window.min_x +ℤ pos x in
    let v : ℤ = window.min_y +ℤ pos y in
    ap (λ p. if covers (rects_of a) u v then pen_in a u v else p) (pen_at_bitmap planes.width planes.height planes.depth _ x y left low)
    ∙ (choice_on (covers (rects_of a) u v) (covers (rects_of b) u v) (pen_in a u v) (pen_in b u v) (pen_at planes x y)
    ∙ (ap (λ t. if t then (if covers (rects_of a) u v then pen_in a u v else pen_in b u v) else pen_at planes x y) (sym (covers_both a b u v))
    ∙ ap (λ p. if covers (rects_of (a ++ b)) u v then p else pen_at planes x y) (sym (pen_in_append a b u v)))))

pub laying : LayingLaw
laying = record { twice = laid_twice; blank = laid_blank; whole = λ w h depth strips. screen_composed w h depth strips (screen w h) refl }

-- the first strip that has the place is the only one
lacks_first : (t u : Bool) → u ≡ true → (t && u) ≡ false → t ≡ false
lacks_first true u is none = absurd (cc (sym is ∙ none))
lacks_first false u is none = refl

pen_placed : (strips : List StripView) → AreDisjoint strips → (k : ℕ) (d : StripView) (x y : ℤ) → k < length strips
    → has_pixel (get_or strips k d).rect x y ≡ true → pen_in strips x y ≡ strip_pen (get_or strips k d) x y
unfolding pen_in
pen_placed [] disjoint k d x y inside has = absurd (omega arith)
pen_placed (s ∷ rest) disjoint zero d x y inside has = ap (λ t. if t then strip_pen s x y else pen_in rest x y) has
pen_placed (s ∷ rest) disjoint (suc k) d x y inside has =
    let apart = disjoint 0 (suc k) d (omega arith) inside x y in
    let off : has_pixel s.rect x y ≡ false = lacks_first (has_pixel s.rect x y) (has_pixel (get_or rest k d).rect x y) has apart in
    ap (λ t. if t then strip_pen s x y else pen_in rest x y) off
    ∙ pen_placed rest (λ i j e before below. disjoint (suc i) (suc j) e (omega arith) (omega arith)) k d x y (omega arith) has

-- and on a whole screen
screen_placed : (w h depth : ℕ) (strips : List StripView) → AreDisjoint strips → (k : ℕ) (d : StripView) (x y : ℕ) → x < w → y < h → k < length strips
    → has_pixel (get_or strips k d).rect (pos x) (pos y) ≡ true → pen_at (assembled w h depth strips) x y ≡ strip_pen (get_or strips k d) (pos x) (pos y)
screen_placed w h depth strips disjoint k d x y left low inside has =
    pen_at_bitmap w h depth (λ i j. pen_in strips (pos i) (pos j)) x y left low ∙ pen_placed strips disjoint k d (pos x) (pos y) inside has

pub places : PlacesLaw
places = record { pens = pen_placed; assembled = screen_placed }
