-- Rows of a layer that are alike, by the rows of rectangles.
use Rattle.std.proofs.Common.{◌≡◌, ℕ, ◌+◌, ◌<◌, ◌≤◌, min, Bool, true, false, cond, not, ◌&&◌, ◌||◌, nat_lt, if◌then◌else◌, List, [], ◌∷◌, length, get_or, take, Option, Some, None, ◌∙◌, sym, refl, ap, subst, ⊎_elim, arith, ℤ, pos, ◌+ℤ◌, ◌-ℤ◌, ◌<ℤ◌, ◌≤ℤ◌}
use Rattle.std.specs.List.{All, AllByRecursion, position, position_or_len}
use Rattle.std.proofs.lemmas.Bool.{cases_lt, lt-ltb}
use Rattle.std.proofs.lemmas.Int.{ints}
use Rattle.std.proofs.lemmas.List.{take_all}
use Rattle.std.proofs.lemmas.List.Elements.{All-nil, All-cons, All-append, All-more, recursion_from_All}
use Rattle.lw_region.specs.Rectangle.{Rectangle, within, has_pixel}
use Rattle.lw_region.specs.Bands.{covers}
use Rattle.lw_region.proofs.Canonical.{covers_cons}
use Rattle.lw_region.proofs.Reading.{contains_pixels_of}
use Rattle.lw_calls.specs.declared.make.Kind.{Kind}
use Rattle.lw_calls.specs.declared.make.Kind.TheVariants.{Simple, Smart, SuperBitmap}
use Rattle.lw_cliprects.specs.Parts.{hidden_of}
use Rattle.lw_machine.specs.Kept.{is_kept, kept_as, in_clip}
use Rattle.lw_layer.specs.View.{keeps, draws}
use Rattle.lw_layer.specs.Pieces.{Layout, rest_as, rest_of, whole_of, buffered, across, down, found_in, buffer_at}
use Rattle.lw_layer.specs.New.{kept_hidden}
use Rattle.lw_layer.specs.Drafts.{layout, clip_set, live_view}
use Rattle.lw_layer.specs.Runs.{AreAlike}
use Rattle.lw_layer.specs.Code.{HasBoth, AreRowsAlike, rectangles_in, drawn_in, lets_draw}
use Rattle.lw_layer.specs.declared.draft.LiveDraft.{LiveDraft}
use Rattle.lw_layer.proofs.FoundLaws.{whole_within}
use Rattle.lw_layer.proofs.KeptLaws.{drawable_is, unkept_undrawn, column_off}

-- the rows from one on that is above a rectangle, up to its top edge
pub alike_above : (top bottom row : ℤ) (n k : ℕ) → pos n ≡ top -ℤ row → row <ℤ top → k < n → within top row bottom ≡ within top (row +ℤ pos k) bottom
unfolding within
alike_above top bottom row n k is above inside = grind (arith, ints)

-- the rows from one in a rectangle on, up to its bottom edge
pub alike_inside : (top bottom row : ℤ) (n k : ℕ) → pos n ≡ bottom -ℤ row → top ≤ℤ row → row ≤ℤ bottom → k < n + 1 → within top row bottom ≡ within top (row +ℤ pos k) bottom
unfolding within
alike_inside top bottom row n k is from to inside = grind (arith, ints)

-- all rows from one below it on
pub alike_below : (top bottom row : ℤ) (k : ℕ) → bottom <ℤ row → within top row bottom ≡ within top (row +ℤ pos k) bottom
unfolding within
alike_below top bottom row k below = grind (arith, ints)

-- no rectangle tells rows apart
pub none_apart : (row : ℤ) (most : ℕ) → 0 < most → AreRowsAlike [] row most most
none_apart row most some = record { some = some; upto = omega arith; alike = λ k _. All-nil (HasBoth row (row +ℤ pos k)) }

-- one rectangle more
pub rect_more : (rects : List Rectangle) (i : ℕ) (r : Rectangle) (row : ℤ) (most n q m : ℕ) → i < length rects → r ≡ get_or rects i r → m ≡ min n q → 0 < q → ((k : ℕ) → k < q → HasBoth row (row +ℤ pos k) r) → AreRowsAlike (take i rects) row most n → AreRowsAlike (take (i + 1) rects) row most m
rect_more rects i r row most n q m inside here least some alike former = record {
  some = omega (arith, least, some, former.some);
  upto = omega (arith, least, former.upto);
  alike =
      λ k low.
      let P : Rectangle → Type 0 = HasBoth row (row +ℤ pos k) in
      All-more P rects i r inside (former.alike k (omega (arith, least, low))) (subst P here (alike k (omega (arith, least, low))));
}

-- all rectangles
pub rects_done : (rects : List Rectangle) (i : ℕ) (row : ℤ) (most n : ℕ) → length rects ≤ i → AreRowsAlike (take i rects) row most n → AreRowsAlike rects row most n
rects_done rects i row most n all former = let P : List Rectangle → Type 0 = λ rs. AreRowsAlike rs row most n in subst P (take_all i rects all) former

-- both rows have the same pixels of a list
covers_alike : (rects : List Rectangle) (x j k : ℤ) → AllByRecursion (HasBoth j k) rects → covers rects x j ≡ covers rects x k
unfolding covers
covers_alike [] x j k alike = refl
covers_alike (r ∷ rs) x j k alike =
    covers_cons r rs x j ∙
    (ap (λ t. (within r.min_x x r.max_x && t) || covers rs x j) alike.0 ∙
    (ap (λ t. has_pixel r x k || t) (covers_alike rs x j k alike.1) ∙ sym (covers_cons r rs x k)))

covers_both : (rects : List Rectangle) (x j k : ℤ) → All (HasBoth j k) rects → covers rects x j ≡ covers rects x k
covers_both rects x j k alike = covers_alike rects x j k (recursion_from_All (HasBoth j k) rects alike)

-- the first that passes, by tests that are the same of each
first_step : (p q : Rectangle → Bool) (r : Rectangle) (rs : List Rectangle) (t : Bool) → p r ≡ t → q r ≡ t → position_or_len p rs ≡ position_or_len q rs → position_or_len p (r ∷ rs) ≡ position_or_len q (r ∷ rs)
first_step p q r rs true one other same = rw (one, other) refl
first_step p q r rs false one other same = rw (one, other) (ap (λ n. 1 + n) same)

first_alike : (rects : List Rectangle) (x j k : ℤ) → AllByRecursion (HasBoth j k) rects → position_or_len (λ r. has_pixel r x j) rects ≡ position_or_len (λ r. has_pixel r x k) rects
first_alike [] x j k alike = refl
first_alike (r ∷ rs) x j k alike =
    first_step (λ q. has_pixel q x j) (λ q. has_pixel q x k) r rs (has_pixel r x j) refl (ap (λ t. within r.min_x x r.max_x && t) (sym alike.0)) (first_alike rs x j k alike.1)

position_both : (rects : List Rectangle) (x j k : ℤ) → All (HasBoth j k) rects → position (λ r. has_pixel r x j) rects ≡ position (λ r. has_pixel r x k) rects
position_both rects x j k alike = ap (λ n. cond (nat_lt n (length rects)) (Some n) None) (first_alike rects x j k (recursion_from_All (HasBoth j k) rects alike))

-- all buffers beside those of the visible rectangles
rest_both : (kind : Kind) (hidden : List Rectangle) (whole : Rectangle) (j k : ℤ) → HasBoth j k whole → All (HasBoth j k) (kept_hidden kind hidden) → All (HasBoth j k) (rest_as kind hidden whole)
rest_both Simple hidden whole j k all alike = All-nil (HasBoth j k)
rest_both Smart hidden whole j k all alike = alike
rest_both SuperBitmap hidden whole j k all alike = All-cons (HasBoth j k) whole [] all (All-nil (HasBoth j k))

whole_both : (l : Layout) (y j : ℕ) → y < l.height → j < l.height → HasBoth (down l y) (down l j) (whole_of l)
whole_both l y j low under = whole_within l.bounds.min_y l.scroll_y y l.height low ∙ sym (whole_within l.bounds.min_y l.scroll_y j l.height under)

found_alike : (l : Layout) (x y j : ℕ) → y < l.height → j < l.height → All (HasBoth (down l y) (down l j)) l.visible → All (HasBoth (down l y) (down l j)) (kept_hidden l.kind (hidden_of l.bounds l.visible)) → buffer_at l x y ≡ buffer_at l x j
unfolding buffer_at
found_alike l x y j low under shown kept =
    let P = HasBoth (down l y) (down l j) in
    let all = All-append P l.visible (rest_of l) shown (rest_both l.kind (hidden_of l.bounds l.visible) (whole_of l) (down l y) (down l j) (whole_both l y j low under) kept) in
    let row : nat_lt y l.height ≡ nat_lt j l.height = lt-ltb y l.height low ∙ sym (lt-ltb j l.height under) in
    ap (λ t. if nat_lt x l.width && t then found_in l (buffered l) x y else None) row ∙
    ap (λ o. if nat_lt x l.width && nat_lt j l.height then o else None) (position_both (buffered l) (across l x) (down l y) (down l j) all)

kept_alike : (d : LiveDraft) (x y j : ℕ) → y < (layout d).height → j < (layout d).height → All (HasBoth (down (layout d) y) (down (layout d) j)) d.parts.visible → keeps (live_view d) x y ≡ keeps (live_view d) x j
unfolding keeps is_kept
kept_alike d x y j low under shown =
    let l = layout d in
    let row : nat_lt y l.height ≡ nat_lt j l.height = lt-ltb y l.height low ∙ sym (lt-ltb j l.height under) in
    ap (λ t. (nat_lt x l.width && t) && kept_as d.kind (covers d.parts.visible (across l x) (down l y))) row ∙
    ap (λ t. (nat_lt x l.width && nat_lt j l.height) && kept_as d.kind t) (covers_both d.parts.visible (across l x) (down l y) (down l j) shown)

clip_alike : (clip : Option (List Rectangle)) (x y j : ℕ) → All (HasBoth (pos y) (pos j)) (rectangles_in clip) → in_clip (clip_set clip) x y ≡ in_clip (clip_set clip) x j
clip_alike None x y j alike = refl
clip_alike (Some rects) x y j alike =
    contains_pixels_of rects (pos x) (pos y) ∙ (covers_both rects (pos x) (pos y) (pos j) alike ∙ sym (contains_pixels_of rects (pos x) (pos j)))

damage_alike : (on : Bool) (rects : List Rectangle) (x y j : ℕ) → All (HasBoth (pos y) (pos j)) (if on then rects else []) → (not on || covers rects (pos x) (pos y)) ≡ (not on || covers rects (pos x) (pos j))
damage_alike true rects x y j alike = covers_both rects (pos x) (pos y) (pos j) alike
damage_alike false rects x y j alike = refl

drawn_alike : (d : LiveDraft) (x y j : ℕ) → y < (layout d).height → j < (layout d).height → keeps (live_view d) x y ≡ keeps (live_view d) x j → All (HasBoth (pos y) (pos j)) (rectangles_in d.clip) → All (HasBoth (pos y) (pos j)) (drawn_in d.damage) → draws (live_view d) x y ≡ draws (live_view d) x j
drawn_alike d x y j low under kept clipped hurt =
    ⊎_elim
    (λ (left : x < (layout d).width).
    drawable_is d x y left low ∙
    (ap (λ t. t && lets_draw d y x) kept ∙
    (ap (λ t. keeps (live_view d) x j && (t && (not d.damage.updating || covers d.damage.rects (pos x) (pos y)))) (clip_alike d.clip x y j clipped) ∙
    (ap (λ t. keeps (live_view d) x j && (in_clip (clip_set d.clip) x j && t)) (damage_alike d.damage.updating d.damage.rects x y j hurt) ∙
    sym (drawable_is d x j left under)))))
    (λ (past : (layout d).width ≤ x). unkept_undrawn d x y (column_off d x y past) ∙ sym (unkept_undrawn d x j (column_off d x j past)))
    (cases_lt x (layout d).width)

-- the row that is k below another on the plane of the screen
down_more : (edge : ℤ) (scroll y k : ℕ) → ((edge +ℤ pos y) -ℤ pos scroll) +ℤ pos k ≡ (edge +ℤ pos (y + k)) -ℤ pos scroll
down_more edge scroll y k = omega (arith, ints)

pos_more : (y k : ℕ) → pos y +ℤ pos k ≡ pos (y + k)
pos_more y k = omega (arith, ints)

-- Rows that no rectangle tells apart are alike.
pub are_alike : (d : LiveDraft) (y k a b e n m : ℕ) → y < (layout d).height → y + k < (layout d).height → k < n → AreRowsAlike d.parts.visible (down (layout d) y) a b → AreRowsAlike (kept_hidden d.kind (hidden_of d.bounds d.parts.visible)) (down (layout d) y) b e → AreRowsAlike (rectangles_in d.clip) (pos y) e m → AreRowsAlike (drawn_in d.damage) (pos y) m n → AreAlike (live_view d) y (y + k)
are_alike d y k a b e n m low under inside first second third fourth =
    let l = layout d in
    let next = down_more l.bounds.min_y l.scroll_y y k in
    let S : List Rectangle → ℤ → Type 0 = λ rects z. All (HasBoth (down l y) z) rects in
    let L : List Rectangle → ℤ → Type 0 = λ rects z. All (HasBoth (pos y) z) rects in
    let shown = subst (S d.parts.visible) next (first.alike k (omega (arith, inside, second.upto, third.upto, fourth.upto))) in
    let kept = subst (S (kept_hidden d.kind (hidden_of d.bounds d.parts.visible))) next (second.alike k (omega (arith, inside, third.upto, fourth.upto))) in
    let clipped = subst (L (rectangles_in d.clip)) (pos_more y k) (third.alike k (omega (arith, inside, fourth.upto))) in
    let hurt = subst (L (drawn_in d.damage)) (pos_more y k) (fourth.alike k inside) in
    record {
      found = λ x. found_alike l x y (y + k) low under shown kept;
      kept = λ x. kept_alike d x y (y + k) low under shown;
      drawn = λ x. drawn_alike d x y (y + k) low under (kept_alike d x y (y + k) low under shown) clipped hurt;
    }
