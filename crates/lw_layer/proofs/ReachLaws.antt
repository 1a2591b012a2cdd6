-- How far the pixels of a row have their pens in one buffer.
use Rattle.std.proofs.Common.{◌≡◌, ℕ, zero, suc, ◌+◌, ◌-◌, ◌<◌, ◌≤◌, min, Bool, true, false, not, ◌&&◌, ◌||◌, List, [], ◌∷◌, ◌++◌, length, get_or, Some, None, ◌∙◌, sym, refl, ap, subst, arith, ℤ, pos, ◌+ℤ◌, ◌-ℤ◌, ◌≤ℤ◌, ◌<ℤ◌, ◌⊎◌, inl, inr, ⊎_elim, length-append}
use Rattle.std.proofs.lemmas.Int.{ints}
use Rattle.std.proofs.lemmas.List.{get_or_append_left, get_or_at}
use Rattle.std.proofs.lemmas.Bool.{and_parts, and_from, and_right, and_left, or_parts}
use Rattle.lw_region.specs.Rectangle.{Rectangle, within, has_pixel}
use Rattle.lw_region.specs.Bands.{covers}
use Rattle.lw_region.specs.Finding.{BeginsAt}
use Rattle.lw_region.proofs.Canonical.{covers_cons}
use Rattle.lw_region.proofs.FindingLaws.{covers_none}
use Rattle.lw_calls.specs.declared.make.Kind.{Kind}
use Rattle.lw_calls.specs.declared.make.Kind.TheVariants.{Simple, Smart, SuperBitmap}
use Rattle.lw_cliprects.specs.Parts.{hidden_of, AreDivided}
use Rattle.lw_layer.specs.Pieces.{Layout, buffered, buffer_rectangle, rest_as, rest_of, whole_of, across, down, buffer_at}
use Rattle.lw_layer.specs.Code.{HasPlace, IsReach, IsKeptReach, lets_draw}
use Rattle.lw_region.proofs.Reading.{contains_pixels_of}
use Rattle.lw_region.proofs.Within.{within_high}
use Rattle.lw_machine.specs.Kept.{in_clip}
use Rattle.lw_layer.specs.Drafts.{clip_set}
use Rattle.lw_layer.specs.declared.draft.LiveDraft.{LiveDraft}
use Rattle.lw_layer.proofs.Positions.{position_is}
use Rattle.lw_layer.proofs.FoundLaws.{in_bits_found, whole_has}
use Rattle.lw_layer.proofs.ViewLaws.{has_place}

-- a pixel that a rectangle has and none before it has its pen there
pub found_at : (l : Layout) (x y n : ℕ) → x < l.width → y < l.height → n < length (buffered l) → has_pixel (buffer_rectangle l n) (across l x) (down l y) ≡ true → ((k : ℕ) → k < n → has_pixel (buffer_rectangle l k) (across l x) (down l y) ≡ false) → buffer_at l x y ≡ Some n
found_at l x y n left low there has before =
    in_bits_found l x y left low ∙ position_is (λ r. has_pixel r (across l x) (down l y)) (buffered l) n l.bounds there has before

-- further to the right, up to the right edge, a rectangle has the place too
more_within : (least greatest z w : ℤ) → within least z greatest ≡ true → z ≤ℤ w → w ≤ℤ greatest → within least w greatest ≡ true
unfolding within
more_within least greatest z w has later inside = grind (arith, ints)

-- the place of a later column is further to the right
pub later_place : (edge : ℤ) (scroll x u : ℕ) → x ≤ u → ((edge +ℤ pos x) -ℤ pos scroll) ≤ℤ ((edge +ℤ pos u) -ℤ pos scroll)
later_place edge scroll x u later = omega (arith, ints)

-- a column less than count columns past x lies up to an edge that they reach
last_place : (edge : ℤ) (scroll x u count : ℕ) (last : ℤ) → x ≤ u → u < x + count → (((edge +ℤ pos x) -ℤ pos scroll) +ℤ pos count) ≤ℤ (last +ℤ pos 1) → ((edge +ℤ pos u) -ℤ pos scroll) ≤ℤ last
last_place edge scroll x u count last later before reaches = omega (arith, ints)

pub before_next : (edge : ℤ) (scroll x u count : ℕ) (next : ℤ) → x ≤ u → u < x + count → (((edge +ℤ pos x) -ℤ pos scroll) +ℤ pos count) ≤ℤ next → ((edge +ℤ pos u) -ℤ pos scroll) <ℤ next
before_next edge scroll x u count next later before reaches = omega (arith, ints)

less_or_same : (a b : ℤ) → a ≤ℤ b → (a <ℤ b) ⊎ (a ≡ b)
less_or_same a b upto = grind (arith, ints)

-- one of two places that isn't past the other, and isn't it, is before it
past_free : (a b : ℤ) → a ≤ℤ b → (a ≡ b → ⊥) → a <ℤ b
past_free a b upto other = ⊎_elim (λ (less : a <ℤ b). less) (λ (same : a ≡ b). absurd (other same)) (less_or_same a b upto)

pub still_in_rectangle : (l : Layout) (x y n u : ℕ) → HasPlace l x y n → x ≤ u → across l u ≤ℤ (buffer_rectangle l n).max_x → has_pixel (buffer_rectangle l n) (across l u) (down l y) ≡ true
still_in_rectangle l x y n u place later inside =
    let halves = and_parts _ _ place.has in
    and_from _ _ (more_within (buffer_rectangle l n).min_x (buffer_rectangle l n).max_x (across l x) (across l u) halves.0 (later_place l.bounds.min_x l.scroll_x x u later) inside) halves.1

-- of two rectangles that are apart the first hasn't what the second has
apart_first : (a b : Bool) → (a && b) ≡ false → b ≡ true → a ≡ false
apart_first true true h has = h
apart_first true false h has = absurd (cc h)
apart_first false b h has = refl

-- no earlier rectangle overlaps one of the visible or, for a smart layer, the hidden rectangles
visible_before : (l : Layout) (n k : ℕ) (X Y : ℤ) → AreDivided l.bounds l.visible (hidden_of l.bounds l.visible) → n < length l.visible → k < n → has_pixel (buffer_rectangle l n) X Y ≡ true → has_pixel (buffer_rectangle l k) X Y ≡ false
visible_before l n k X Y divided inside before has =
    let hidden = hidden_of l.bounds l.visible in
    let long = length-append l.visible hidden in
    let apart = divided.apart k n l.bounds before (omega arith) X Y in
    let first : get_or (buffered l) k l.bounds ≡ get_or (l.visible ++ hidden) k l.bounds = get_or_append_left l.visible (rest_of l) l.bounds k (omega arith) ∙ sym (get_or_append_left l.visible hidden l.bounds k (omega arith)) in
    let second : get_or (buffered l) n l.bounds ≡ get_or (l.visible ++ hidden) n l.bounds = get_or_append_left l.visible (rest_of l) l.bounds n inside ∙ sym (get_or_append_left l.visible hidden l.bounds n inside) in
    let P : Rectangle → Type 0 = λ r. has_pixel r X Y ≡ true in
    rw first (apart_first _ _ apart (subst P second has))

smart_before : (l : Layout) (n k : ℕ) (X Y : ℤ) → l.kind ≡ Smart → AreDivided l.bounds l.visible (hidden_of l.bounds l.visible) → n < length (buffered l) → k < n → has_pixel (buffer_rectangle l n) X Y ≡ true → has_pixel (buffer_rectangle l k) X Y ≡ false
smart_before l n k X Y smart divided there before has =
    let all : buffered l ≡ l.visible ++ hidden_of l.bounds l.visible = ap (λ q. l.visible ++ rest_as q (hidden_of l.bounds l.visible) (whole_of l)) smart in
    let P : List Rectangle → Type 0 = λ q. n < length q → has_pixel (get_or q n l.bounds) X Y ≡ true → has_pixel (get_or q k l.bounds) X Y ≡ false in
    let known : P (l.visible ++ hidden_of l.bounds l.visible) = λ inside there_has. apart_first _ _ (divided.apart k n l.bounds before inside X Y) there_has in
    subst P (sym all) known there has

-- which rectangles a number may name
pub simple_number : (l : Layout) (n : ℕ) → l.kind ≡ Simple → n < length (buffered l) → n < length l.visible
simple_number l n simple there =
    let long : length (buffered l) ≡ length l.visible = ap (λ q. length (l.visible ++ rest_as q (hidden_of l.bounds l.visible) (whole_of l))) simple ∙ (length-append l.visible [] ∙ omega arith) in
    omega arith

pub none_before : (l : Layout) (n k : ℕ) (X Y : ℤ) (kind : Kind) → l.kind ≡ kind → (l.kind ≡ SuperBitmap → n < length l.visible) → AreDivided l.bounds l.visible (hidden_of l.bounds l.visible) → n < length (buffered l) → k < n → has_pixel (buffer_rectangle l n) X Y ≡ true → has_pixel (buffer_rectangle l k) X Y ≡ false
none_before l n k X Y Simple is shown divided there before has = visible_before l n k X Y divided (simple_number l n is there) before has
none_before l n k X Y Smart is shown divided there before has = smart_before l n k X Y is divided there before has
none_before l n k X Y SuperBitmap is shown divided there before has = visible_before l n k X Y divided (shown is) before has

-- up to the right edge of its rectangle, the pixels of a row have their pens in one buffer
pub rectangle_reach_is : (l : Layout) (x y n count : ℕ) → buffer_at l x y ≡ Some n → (l.kind ≡ SuperBitmap → n < length l.visible) → AreDivided l.bounds l.visible (hidden_of l.bounds l.visible) → 0 < count → x + count ≤ l.width → ((across l x +ℤ pos count) ≤ℤ ((buffer_rectangle l n).max_x +ℤ pos 1)) → IsKeptReach l n x y count
rectangle_reach_is l x y n count found shown divided some wide edge =
    let place = has_place l x y n found in
    record {
      some = some;
      found =
          λ u later before.
          let inside : across l u ≤ℤ (buffer_rectangle l n).max_x = last_place l.bounds.min_x l.scroll_x x u count (buffer_rectangle l n).max_x later before edge in
          let has = still_in_rectangle l x y n u place later inside in
          found_at l u y n (omega arith) place.low place.there has (λ k earlier. none_before l n k (across l u) (down l y) l.kind refl shown divided place.there earlier has);
    }

-- no rectangle of a list has a place that the list doesn't cover
none_has : (rects : List Rectangle) (k : ℕ) (d : Rectangle) (X Y : ℤ) → covers rects X Y ≡ false → k < length rects → has_pixel (get_or rects k d) X Y ≡ false
none_has [] k d X Y free inside = absurd (omega arith)
none_has (r ∷ rs) zero d X Y free inside = (or_parts _ _ (sym (covers_cons r rs X Y) ∙ free)).0
none_has (r ∷ rs) (suc k) d X Y free inside = none_has rs k d X Y (or_parts _ _ (sym (covers_cons r rs X Y) ∙ free)).1 (omega arith)

-- a pixel of an own bitmap that no visible rectangle has
pub own_found : (l : Layout) (x y : ℕ) → l.kind ≡ SuperBitmap → x < l.width → y < l.height → covers l.visible (across l x) (down l y) ≡ false → buffer_at l x y ≡ Some (length l.visible)
own_found l x y super left low free =
    let rest : rest_of l ≡ whole_of l ∷ [] = ap (λ q. rest_as q (hidden_of l.bounds l.visible) (whole_of l)) super in
    let long : length (buffered l) ≡ length l.visible + 1 = length-append l.visible (rest_of l) ∙ ap (λ q. length l.visible + length q) rest in
    let last : buffer_rectangle l (length l.visible) ≡ whole_of l = ap (λ q. get_or (l.visible ++ q) (length l.visible) l.bounds) rest ∙ get_or_at l.visible (whole_of l) [] l.bounds (length l.visible) refl in
    let P : Rectangle → Type 0 = λ r. has_pixel r (across l x) (down l y) ≡ true in
    found_at l x y (length l.visible) left low (omega arith) (subst P (sym last) (whole_has l x y left low))
    (λ k before.
    let first : buffer_rectangle l k ≡ get_or l.visible k l.bounds = get_or_append_left l.visible (rest_of l) l.bounds k before in
    rw first (none_has l.visible k l.bounds (across l x) (down l y) free before))

-- up to the next visible rectangle, the pixels of a row have their pens in an own bitmap
pub own_reach_is : (l : Layout) (x y count : ℕ) → l.kind ≡ SuperBitmap → y < l.height → 0 < count → x + count ≤ l.width → ((u : ℕ) → x ≤ u → u < x + count → covers l.visible (across l u) (down l y) ≡ false) → IsKeptReach l (length l.visible) x y count
own_reach_is l x y count super low some wide free = record {
  some = some;
  found = λ u later before. own_found l u y super (omega arith) low (free u later before);
}

-- a pixel whose pen is in an own bitmap is not visible
pub free_in_own : (l : Layout) (x y : ℕ) → buffer_at l x y ≡ Some (length l.visible) → covers l.visible (across l x) (down l y) ≡ false
free_in_own l x y found =
    let place = has_place l x y (length l.visible) found in
    covers_none l.visible l.bounds (across l x) (down l y)
    (λ k inside.
    let first : buffer_rectangle l k ≡ get_or l.visible k l.bounds = get_or_append_left l.visible (rest_of l) l.bounds k inside in
    rw (sym first) (place.first k inside))

-- the pixel is not past the right edge of its rectangle
pub up_to_edge : (l : Layout) (x y n : ℕ) → buffer_at l x y ≡ Some n → across l x ≤ℤ (buffer_rectangle l n).max_x
up_to_edge l x y n found = within_high _ _ _ ((and_parts _ _ (has_place l x y n found).has).0)

-- an own bitmap's pixel in a row with the next visible pixel, or with none
pub own_reach_next : (l : Layout) (x y count : ℕ) (next : ℤ) → l.kind ≡ SuperBitmap → y < l.height → BeginsAt l.visible (across l x) (down l y) next → 0 < count → x + count ≤ l.width → (across l x +ℤ pos count) ≤ℤ next → IsKeptReach l (length l.visible) x y count
own_reach_next l x y count next super low begins some wide short =
    own_reach_is l x y count super low some wide
    (λ u later before. begins.free (across l u) (later_place l.bounds.min_x l.scroll_x x u later) (before_next l.bounds.min_x l.scroll_x x u count next later before short))

pub own_reach_none : (l : Layout) (x y count : ℕ) → l.kind ≡ SuperBitmap → y < l.height → ((u : ℤ) → across l x ≤ℤ u → covers l.visible u (down l y) ≡ false) → 0 < count → x + count ≤ l.width → IsKeptReach l (length l.visible) x y count
own_reach_none l x y count super low free some wide =
    own_reach_is l x y count super low some wide (λ u later before. free (across l u) (later_place l.bounds.min_x l.scroll_x x u later))

-- the next visible pixel is past one that isn't visible
pub next_is_later : (rects : List Rectangle) (X Y next : ℤ) → BeginsAt rects X Y next → covers rects X Y ≡ false → X <ℤ next
next_is_later rects X Y next begins free = past_free X next begins.reaches (λ same. let P : ℤ → Type 0 = λ z. covers rects z Y ≡ true in let has = subst P (sym same) begins.covered in cc)

some_gap : (p next : ℤ) (gap : ℕ) → p <ℤ next → pos gap ≡ next -ℤ p → 0 < gap
some_gap p next gap later is = omega (arith, ints)

short_gap : (p next : ℤ) (gap all : ℕ) → pos gap ≡ next -ℤ p → (p +ℤ pos (min all gap)) ≤ℤ next
short_gap p next gap all is = omega (arith, ints)

short_edge : (p last : ℤ) (gap all : ℕ) → pos gap ≡ last -ℤ p → (p +ℤ pos (min all gap + 1)) ≤ℤ (last +ℤ pos 1)
short_edge p last gap all is = omega (arith, ints)

-- the same two, where the place, the row and the list are told by equations, as the code has them
pub own_none : (l : Layout) (x y all : ℕ) (p q : ℤ) (rs : List Rectangle) → p ≡ across l x → q ≡ down l y → rs ≡ l.visible → ((u : ℤ) → p ≤ℤ u → covers rs u q ≡ false) → all ≡ l.width → l.kind ≡ SuperBitmap → x < l.width → y < l.height → IsKeptReach l (length l.visible) x y (all - x)
own_none l x y all p q rs is_p is_q is_rs free is_all super left low =
    let F : ℤ → ℤ → List Rectangle → Type 0 = λ a b list. (u : ℤ) → a ≤ℤ u → covers list u b ≡ false in
    let free_here : F (across l x) (down l y) l.visible = subst (λ list. F (across l x) (down l y) list) is_rs (subst (λ b. F (across l x) b rs) is_q (subst (λ a. F a q rs) is_p free)) in
    own_reach_none l x y (all - x) super low free_here (omega arith) (omega arith)

pub own_some : (l : Layout) (x y all gap : ℕ) (p q next : ℤ) (rs : List Rectangle) → p ≡ across l x → q ≡ down l y → rs ≡ l.visible → BeginsAt rs p q next → covers l.visible (across l x) (down l y) ≡ false → pos gap ≡ next -ℤ p → all ≡ l.width → l.kind ≡ SuperBitmap → x < l.width → y < l.height → IsKeptReach l (length l.visible) x y (min (all - x) gap)
own_some l x y all gap p q next rs is_p is_q is_rs begins free is_gap is_all super left low =
    let F : ℤ → ℤ → List Rectangle → Type 0 = λ a b list. BeginsAt list a b next in
    let begins_here : F (across l x) (down l y) l.visible = subst (λ list. F (across l x) (down l y) list) is_rs (subst (λ b. F (across l x) b rs) is_q (subst (λ a. F a q rs) is_p begins)) in
    let later : across l x <ℤ next = next_is_later l.visible (across l x) (down l y) next begins_here free in
    let distance : pos gap ≡ next -ℤ across l x = rw (sym is_p) is_gap in
    let some : 0 < gap = some_gap (across l x) next gap later distance in
    let short : (across l x +ℤ pos (min (all - x) gap)) ≤ℤ next = short_gap (across l x) next gap (all - x) distance in
    own_reach_next l x y (min (all - x) gap) next super low begins_here (omega arith) (omega arith) short

-- up to the right edge of a rectangle
pub rectangle_reach_some : (l : Layout) (x y n all gap : ℕ) (p right : ℤ) → p ≡ across l x → right ≡ (buffer_rectangle l n).max_x → buffer_at l x y ≡ Some n → (l.kind ≡ SuperBitmap → n < length l.visible) → AreDivided l.bounds l.visible (hidden_of l.bounds l.visible) → pos gap ≡ right -ℤ p → all ≡ l.width → x < l.width → IsKeptReach l n x y (min (all - x - 1) gap + 1)
rectangle_reach_some l x y n all gap p right is_p is_right found shown divided is_gap is_all left =
    let distance : pos gap ≡ (buffer_rectangle l n).max_x -ℤ across l x = rw (sym is_p, sym is_right) is_gap in
    rectangle_reach_is l x y n (min (all - x - 1) gap + 1) found shown divided (omega arith) (omega arith) (short_edge (across l x) (buffer_rectangle l n).max_x gap (all - x - 1) distance)

zero_or_more : (m : ℕ) → (m ≡ 0) ⊎ (0 < m)
zero_or_more zero = inl refl
zero_or_more (suc m) = inr (omega arith)

-- every place
pub reach_all : (test : ℕ → Bool) (x len : ℕ) → ((u : ℕ) → test u ≡ true) → IsReach test x len len
reach_all test x len all = record { upto = omega arith; holds = λ u later before. all u; none = λ zero_len some. absurd (omega arith) }

-- the same test
pub reach_same : (f g : ℕ → Bool) (x len n : ℕ) → ((u : ℕ) → f u ≡ g u) → IsReach f x len n → IsReach g x len n
reach_same f g x len n same is = record {
  upto = is.upto;
  holds = λ u later before. sym (same u) ∙ is.holds u later before;
  none = λ nothing some. sym (same x) ∙ is.none nothing some;
}

-- two tests, the second as far as the first holds
pub reach_both : (f g : ℕ → Bool) (x len m n : ℕ) → IsReach f x len m → IsReach g x m n → IsReach (λ u. f u && g u) x len n
reach_both f g x len m n first second = record {
  upto = omega (arith, first.upto, second.upto);
  holds = λ u later before. and_from _ _ (first.holds u later (omega (arith, second.upto))) (second.holds u later before);
  none =
      λ none_drawn some.
      ⊎_elim
      (λ (nothing : m ≡ 0). and_left (f x) (g x) (first.none nothing some))
      (λ (part : 0 < m). and_right (f x) (g x) (second.none none_drawn part))
      (zero_or_more m);
}

-- the clip region and, in an update, the damage
pub drawn_reach_updating : (d : LiveDraft) (x y len m n : ℕ) → d.damage.updating ≡ true → IsReach (λ u. in_clip (clip_set d.clip) u y) x len m → IsReach (λ u. covers d.damage.rects (pos u) (pos y)) x m n → IsReach (lets_draw d y) x len n
drawn_reach_updating d x y len m n on first second =
    reach_both (λ u. in_clip (clip_set d.clip) u y) (λ u. not d.damage.updating || covers d.damage.rects (pos u) (pos y)) x len m n first
    (reach_same _ _ x m n (λ u. rw on refl) second)

pub drawn_reach_idle : (d : LiveDraft) (x y len m : ℕ) → d.damage.updating ≡ false → IsReach (λ u. in_clip (clip_set d.clip) u y) x len m → IsReach (lets_draw d y) x len m
drawn_reach_idle d x y len m off first =
    reach_both (λ u. in_clip (clip_set d.clip) u y) (λ u. not d.damage.updating || covers d.damage.rects (pos u) (pos y)) x len m m first
    (reach_all _ x m (λ u. rw off refl))

-- a clip region
pub clip_reach_some : (rects : List Rectangle) (x y len n : ℕ) → IsReach (λ u. covers rects (pos u) (pos y)) x len n → IsReach (λ u. in_clip (clip_set (Some rects)) u y) x len n
clip_reach_some rects x y len n is = reach_same _ _ x len n (λ u. sym (contains_pixels_of rects (pos u) (pos y))) is

pub clip_reach_none : (x y len : ℕ) → IsReach (λ u. in_clip (clip_set None) u y) x len len
clip_reach_none x y len = reach_all _ x len (λ u. refl)
