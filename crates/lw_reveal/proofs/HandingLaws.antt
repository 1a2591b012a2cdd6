-- What the new rectangles hold once former bitmaps were handed over to them.
use Rattle.std.proofs.Common.{◌≡◌, ◌≢◌, ℕ, zero, suc, ◌+◌, ◌-◌, ◌<◌, ◌≤◌, Bool, true, false, if◌then◌else◌, List, [], ◌∷◌, ◌++◌, map, length, get_or, set, drop, Option, Some, None, ◌∙◌, sym, refl, ap, subst, arith, ⊎_elim, inl, inr, ◌⊎◌}
use Rattle.std.specs.List.{All}
use Rattle.std.proofs.Math.ListN.{length-set}
use Rattle.std.proofs.lemmas.Bool.{cases_eq}
use Rattle.std.proofs.lemmas.List.{set-append_left, set-append_right, set-get_or, get_or-set_same, get_or-set_other, get_or-map, get_or_append_left, get_or-append_right, get_or_at, get_or-drop, length-append, length-map, map-append, map-set}
use Rattle.lw_region.specs.Rectangle.{Rectangle}
use Rattle.lw_planes.specs.Bitmap.{Bitmap}
use Rattle.lw_strips.specs.Strips.{StripView, filled, held_by, rects_of, planes_of}
use Rattle.lw_layer.specs.Drafts.{no_bitmap}
use Rattle.lw_reveal.specs.Changes.{held_in}
use Rattle.lw_reveal.specs.Handing.{placed, handed_over, HasPlace, HavePlaces}

-- into a strip, and into a buffer
pub placed_first : (to : Option ℕ) (i : ℕ) (b : Bitmap) (s : StripView) (strips : List StripView) (covered : List Bitmap) → to ≡ Some i → i < length strips
    → held_in (set strips i (filled b s)) covered ≡ placed to b (held_in strips covered)
placed_first to i b s strips covered is inside =
    rw is
    (ap (λ q. q ++ map (λ c. Some c) covered) (map-set (λ q. held_by q) strips i (filled b s))
    ∙ sym (set-append_left (map (λ q. held_by q) strips) (map (λ c. Some c) covered) i (Some b) (omega (arith, length-map strips (λ q. held_by q)))))

pub placed_second : (to : Option ℕ) (i : ℕ) (b : Bitmap) (strips : List StripView) (covered : List Bitmap) → to ≡ Some i → length strips ≤ i
    → held_in strips (set covered (i - length strips) b) ≡ placed to b (held_in strips covered)
placed_second to i b strips covered is past =
    rw is
    (ap (λ q. map (λ s. held_by s) strips ++ q) (map-set (λ c. Some c) covered (i - length strips) b)
    ∙ sym (set-append_right (map (λ s. held_by s) strips) (map (λ c. Some c) covered) (length strips) i (Some b) (length-map strips (λ s. held_by s)) past))

-- the rectangles stay
pub filled_rects : (i : ℕ) (b : Bitmap) (s : StripView) (strips : List StripView) → i < length strips → s ≡ get_or strips i s → rects_of (set strips i (filled b s)) ≡ rects_of strips
filled_rects i b s strips inside at =
    map-set (λ (q : StripView). q.rect) strips i (filled b s)
    ∙ (ap (λ r. set (rects_of strips) i r) (ap (λ (q : StripView). q.rect) at ∙ sym (get_or-map (λ (q : StripView). q.rect) strips i s s.rect inside))
    ∙ set-get_or (rects_of strips) i s.rect)

pub rect_at : (i : ℕ) (s : StripView) (strips : List StripView) → i < length strips → s ≡ get_or strips i s → get_or (rects_of strips) i s.rect ≡ s.rect
rect_at i s strips inside at = get_or-map (λ (q : StripView). q.rect) strips i s s.rect inside ∙ ap (λ (q : StripView). q.rect) (sym at)

-- nothing is handed over
pub handed_nothing : (handed : List (Option ℕ)) (news : List (Option Bitmap)) → handed_over handed [] news ≡ news
handed_nothing [] news = refl
handed_nothing (to ∷ tos) news = refl

-- the last one
pub handed_last : (handed : List (Option ℕ)) (bs : List Bitmap) (b : Bitmap) (news : List (Option Bitmap)) → length bs < length handed
    → handed_over handed (bs ++ b ∷ []) news ≡ handed_over handed bs (placed (get_or handed (length bs) None) b news)
handed_last [] bs b news long = absurd (omega arith)
handed_last (to ∷ tos) [] b news long = ap (λ q. placed to b q) (handed_nothing tos news)
handed_last (to ∷ tos) (x ∷ bs) b news long = ap (λ q. placed to x q) (handed_last tos bs b news (omega arith))

-- the bitmaps of two lists, those of the second one first
pub handed_both : (handed : List (Option ℕ)) (xs ys : List Bitmap) (news : List (Option Bitmap)) → length xs ≤ length handed
    → handed_over handed (xs ++ ys) news ≡ handed_over handed xs (handed_over (drop (length xs) handed) ys news)
handed_both handed [] ys news long = sym (handed_nothing handed (handed_over handed ys news))
handed_both [] (x ∷ xs) ys news long = absurd (omega arith)
handed_both (to ∷ tos) (x ∷ xs) ys news long = ap (λ q. placed to x q) (handed_both tos xs ys news (omega arith))

pub placed_length : (to : Option ℕ) (b : Bitmap) (news : List (Option Bitmap)) → length (placed to b news) ≡ length news
placed_length None b news = refl
placed_length (Some i) b news = length-set news i (Some b)

handed_length : (handed : List (Option ℕ)) (bs : List Bitmap) (news : List (Option Bitmap)) → length (handed_over handed bs news) ≡ length news
handed_length [] bs news = refl
handed_length (to ∷ tos) [] news = refl
handed_length (to ∷ tos) (b ∷ bs) news = placed_length to b (handed_over tos bs news) ∙ handed_length tos bs news

-- a bitmap that is still to come is handed over to the place
abbrev pub Comes : List (Option ℕ) → ℕ → Type 0
Comes handed i = (n : ℕ) × (n < length handed) × (get_or handed n None ≡ Some i)

-- The bitmap that is wanted at a place is there, or one is handed over to it. And each that is handed over is the one wanted at
-- its place.
abbrev pub StandsOrComes : (ℕ → Bitmap) → List (Option ℕ) → List (Option Bitmap) → ℕ → Type 0
StandsOrComes want handed news i = (get_or news i None ≡ Some (want i)) ⊎ Comes handed i

pub record AreWanted (want : ℕ → Bitmap) (handed : List (Option ℕ)) (former : List Bitmap) : Type 0 where
  pub each : (n i : ℕ) → n < length former → get_or handed n None ≡ Some i → get_or former n no_bitmap ≡ want i

comes_later : (to : Option ℕ) (tos : List (Option ℕ)) (i n : ℕ) → (to ≡ Some i → ⊥) → n < length (to ∷ tos)
    → get_or (to ∷ tos) n None ≡ Some i → Comes tos i
comes_later to tos i zero other inside is = absurd (other is)
comes_later to tos i (suc n) other inside is = (n, omega arith, is)

stands_still : (want : ℕ → Bitmap) (to : Option ℕ) (tos : List (Option ℕ)) (news : List (Option Bitmap)) (i : ℕ) → (to ≡ Some i → ⊥)
    → StandsOrComes want (to ∷ tos) news i → StandsOrComes want tos news i
stands_still want to tos news i other stands =
    ⊎_elim
    (λ (here : get_or news i None ≡ Some (want i)). inl here)
    (λ (comes : Comes (to ∷ tos) i). inr (comes_later to tos i comes.0 other comes.1 comes.2))
    stands

wanted_rest : (want : ℕ → Bitmap) (to : Option ℕ) (tos : List (Option ℕ)) (b : Bitmap) (bs : List Bitmap)
    → AreWanted want (to ∷ tos) (b ∷ bs) → AreWanted want tos bs
wanted_rest want to tos b bs wanted = record { each = λ n i inside is. wanted.each (suc n) i (omega arith) is }

-- one place, by whether the first bitmap is handed over to it
first_placed : (want : ℕ → Bitmap) (to : Option ℕ) (b : Bitmap) (next : List (Option Bitmap)) (i : ℕ) → i < length next
    → ((j : ℕ) → to ≡ Some j → b ≡ want j) → ((to ≡ Some i → ⊥) → get_or next i None ≡ Some (want i)) → get_or (placed to b next) i None ≡ Some (want i)
first_placed want None b next i inside wanted others = others (λ is. cc is)
first_placed want (Some j) b next i inside wanted others =
    ⊎_elim
    (λ (same : i ≡ j).
    let below : j < length next = omega arith in
    ap (λ q. get_or (set next j (Some b)) q None) same ∙ (get_or-set_same next j (Some b) None below ∙ (ap (λ q. Some q) (wanted j refl) ∙ ap (λ q. Some (want q)) (sym same))))
    (λ (other : i ≢ j). get_or-set_other next j i (Some b) None other ∙ others (λ is. other (sym (cc is))))
    (cases_eq i j)

-- Once all were handed over, each place has the bitmap that is wanted there.
pub handed_wanted : (want : ℕ → Bitmap) (handed : List (Option ℕ)) (former : List Bitmap) (news : List (Option Bitmap)) (i : ℕ)
    → length former ≡ length handed → AreWanted want handed former → i < length news → StandsOrComes want handed news i
    → get_or (handed_over handed former news) i None ≡ Some (want i)
handed_wanted want [] former news i many wanted inside stands =
    ⊎_elim (λ (here : get_or news i None ≡ Some (want i)). here) (λ (comes : Comes [] i). absurd (omega (arith, comes.1))) stands
handed_wanted want (to ∷ tos) [] news i many wanted inside stands = absurd (omega arith)
handed_wanted want (to ∷ tos) (b ∷ bs) news i many wanted inside stands =
    let next = handed_over tos bs news in
    first_placed want to b next i (omega (arith, handed_length tos bs news)) (λ j is. wanted.each 0 j (omega arith) is)
    (λ other. handed_wanted want tos bs news i (omega arith) (wanted_rest want to tos b bs wanted) inside (stands_still want to tos news i other stands))

-- what a strip holds is its bitmap, and then it is solid
held_parts : (t : Bool) (b c : Bitmap) → (if t then Some b else None) ≡ Some c → (t ≡ true) × (b ≡ c)
held_parts true b c is = (refl, cc is)
held_parts false b c is = absurd (cc is)

-- the bitmap at a place of both lists
buffer_held : (covered : List Bitmap) (i : ℕ) (b : Bitmap) → get_or (map (λ c. Some c) covered) i None ≡ Some b → get_or covered i no_bitmap ≡ b
buffer_held [] i b is = absurd (cc is)
buffer_held (c ∷ rest) zero b is = cc is
buffer_held (c ∷ rest) (suc i) b is = buffer_held rest i b is

pub planes_held : (strips : List StripView) (covered : List Bitmap) (i : ℕ) (b : Bitmap) → get_or (held_in strips covered) i None ≡ Some b
    → get_or (planes_of strips ++ covered) i no_bitmap ≡ b
planes_held [] covered i b is = buffer_held covered i b is
planes_held (s ∷ rest) covered zero b is = (held_parts s.solid s.planes b is).1
planes_held (s ∷ rest) covered (suc i) b is = planes_held rest covered i b is

pub solid_held : (strips : List StripView) (covered : List Bitmap) (i : ℕ) (s : StripView) (b : Bitmap) → i < length strips
    → get_or (held_in strips covered) i None ≡ Some b → (get_or strips i s).solid ≡ true
solid_held [] covered i s b inside is = absurd (omega arith)
solid_held (q ∷ rest) covered zero s b inside is = (held_parts q.solid q.planes b is).0
solid_held (q ∷ rest) covered (suc i) s b inside is = solid_held rest covered i s b (omega arith) is

-- the bitmaps of a list of strips with one more
pub planes_last : (all left : List StripView) (s : StripView) → all ≡ left ++ s ∷ [] → planes_of all ≡ planes_of left ++ s.planes ∷ []
planes_last all left s is = ap (λ q. planes_of q) is ∙ map-append (λ (q : StripView). q.planes) left (s ∷ [])

-- those before the last one are solid too
pub solid_left : (all left : List StripView) (s : StripView) → all ≡ left ++ s ∷ [] → All (λ (q : StripView). q.solid ≡ true) all
    → All (λ (q : StripView). q.solid ≡ true) left
solid_left all left s is each = λ k d below.
    let long = length-append left (s ∷ []) in
    sym (ap (λ (q : StripView). q.solid) (ap (λ qs. get_or qs k d) is ∙ get_or_append_left left (s ∷ []) d k below)) ∙ each k d (omega (arith, ap length is))

-- the places of the first of two lists, and those of the second one
pub places_first : (handed : List (Option ℕ)) (xs ys : List Bitmap) (rects : List Rectangle) (hidden : ℕ) → HavePlaces handed (xs ++ ys) rects hidden
    → HavePlaces handed xs rects hidden
places_first handed xs ys rects hidden have = λ n b below.
    let long = length-append xs ys in
    let P : Bitmap → Type 0 = λ w. HasPlace (get_or handed n None) w rects hidden in
    subst P (get_or_append_left xs ys b n below) (have n b (omega arith))

pub places_second : (handed : List (Option ℕ)) (xs ys : List Bitmap) (rects : List Rectangle) (hidden : ℕ) → HavePlaces handed (xs ++ ys) rects hidden
    → HavePlaces (drop (length xs) handed) ys rects hidden
places_second handed xs ys rects hidden have = λ n b below.
    let long = length-append xs ys in
    let k : ℕ = length xs + n in
    let back : k - length xs ≡ n = omega arith in
    let P : Bitmap → Type 0 = λ w. HasPlace (get_or handed k None) w rects hidden in
    let Q : Option ℕ → Type 0 = λ o. HasPlace o (get_or ys n b) rects hidden in
    subst Q (sym (get_or-drop (length xs) handed n None))
    (subst P (get_or-append_right xs ys (length xs) k b refl (omega arith) ∙ ap (λ i. get_or ys i b) back) (have k b (omega arith)))

-- the place of the last bitmap
pub place_last : (handed : List (Option ℕ)) (left all : List Bitmap) (b : Bitmap) (to : Option ℕ) (rects : List Rectangle) (hidden : ℕ) → all ≡ left ++ b ∷ []
    → to ≡ get_or handed (length left) None → HavePlaces handed all rects hidden → HasPlace to b rects hidden
place_last handed left all b to rects hidden is told have =
    let long = length-append left (b ∷ []) in
    let P : Bitmap → Type 0 = λ w. HasPlace (get_or handed (length left) None) w rects hidden in
    let Q : Option ℕ → Type 0 = λ o. HasPlace o b rects hidden in
    subst Q (sym told) (subst P (ap (λ bs. get_or bs (length left) b) is ∙ get_or_at left b [] b (length left) refl) (have (length left) b (omega (arith, ap length is))))

-- What is left to hand over, and what it comes to. At first there are all former bitmaps.
pub record AreLeft (handed : List (Option ℕ)) (left all : List Bitmap) (strips first : List StripView) (covered begin : List Bitmap) : Type 0 where
  pub room : length left ≤ length handed
  pub places : HavePlaces handed left (rects_of strips) (length covered)
  pub held : handed_over handed left (held_in strips covered) ≡ handed_over handed all (held_in first begin)
  pub rects : rects_of strips ≡ rects_of first
  pub long : length covered ≡ length begin

-- the last one of them is handed over
pub left_next : (handed : List (Option ℕ)) (left more all : List Bitmap) (b : Bitmap) (to : Option ℕ) (strips next first : List StripView) (covered new begin : List Bitmap)
    → more ≡ left ++ b ∷ [] → to ≡ get_or handed (length left) None → AreLeft handed more all strips first covered begin
    → held_in next new ≡ placed to b (held_in strips covered) → rects_of next ≡ rects_of strips → length new ≡ length covered
    → AreLeft handed left all next first new begin
left_next handed left more all b to strips next first covered new begin is told was held rects long =
    let many = length-append left (b ∷ []) in
    let P : List Bitmap → Type 0 = λ bs. HavePlaces handed bs (rects_of strips) (length covered) in
    let Q : List Rectangle → Type 0 = λ rs. HavePlaces handed left rs (length new) in
    record {
      room = omega (arith, ap length is, was.room);
      places = subst Q (sym rects) (rw long (places_first handed left (b ∷ []) (rects_of strips) (length covered) (subst P is was.places)));
      held =
          ap (λ q. handed_over handed left q) (held ∙ ap (λ o. placed o b (held_in strips covered)) told)
          ∙ (sym (handed_last handed left b (held_in strips covered) (omega (arith, ap length is, was.room)))
          ∙ (ap (λ bs. handed_over handed bs (held_in strips covered)) (sym is) ∙ was.held));
      rects = rects ∙ was.rects;
      long = long ∙ was.long;
    }

-- nothing is left to hand over
pub left_nothing : (handed : List (Option ℕ)) (left all : List Bitmap) (strips first : List StripView) (covered begin : List Bitmap) → left ≡ []
    → AreLeft handed left all strips first covered begin → held_in strips covered ≡ handed_over handed all (held_in first begin)
left_nothing handed left all strips first covered begin is was =
    sym (handed_nothing handed (held_in strips covered)) ∙ (ap (λ bs. handed_over handed bs (held_in strips covered)) (sym is) ∙ was.held)

-- first those of the second list, then those of the first one
pub handed_twice : (handed rest : List (Option ℕ)) (xs ys : List Bitmap) (news mid new : List (Option Bitmap)) (n : ℕ) → n ≡ length xs → length xs ≤ length handed
    → rest ≡ drop n handed → mid ≡ handed_over rest ys news → new ≡ handed_over handed xs mid → new ≡ handed_over handed (xs ++ ys) news
handed_twice handed rest xs ys news mid new n is long is_rest first second =
    second ∙ (ap (λ q. handed_over handed xs q) (first ∙ ap (λ q. handed_over q ys news) (is_rest ∙ ap (λ k. drop k handed) is))
    ∙ sym (handed_both handed xs ys news long))
