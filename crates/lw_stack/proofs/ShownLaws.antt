-- The region that a search from front to back keeps: what the layers in front of a slot cover, and what they leave of it.
use Rattle.std.proofs.Common.{◌≡◌, ℕ, ◌+◌, ◌<◌, ◌==◌, Bool, false, not, ◌&&◌, ◌||◌, List, [], ◌∷◌, ◌++◌, length, take, drop, get_or, ℤ, Option, None, refl, sym, ap, ◌∙◌}
use Rattle.std.proofs.lemmas.Bool.{and_right}
use Rattle.std.proofs.Math.Bool.{and_assoc}
use Rattle.lw_region.specs.Rectangle.{Rectangle, has_pixel}
use Rattle.lw_region.specs.Pixels.{pixels_of, union, difference}
use Rattle.lw_region.specs.Bands.{bands, covers}
use Rattle.lw_region.specs.Regions.{rectangle_set}
use Rattle.lw_region.proofs.SetOps.{combined_lists, covers_one}
use Rattle.lw_region.proofs.Canonical.{covers_nil}
use Rattle.lw_machine.specs.Screen.{bounds_have, screen_bounds}
use Rattle.lw_stack.specs.Stack.{Stack, bounds_at, first_at, is_first_at, is_top_in}
use Rattle.lw_stack.proofs.FirstLaws.{has_at, some_at, shown_behind, some_behind, first_where_left, around_entry, is_top_where}

-- an empty list has no pixel
pub no_pixel : (rects : List Rectangle) (x y : ℤ) → rects ≡ [] → covers rects x y ≡ false
no_pixel rects x y e = ap (λ rs. covers rs x y) e ∙ covers_nil x y

-- what was covered, and a rectangle
pub covers_more : (rect : Rectangle) (covered more : List Rectangle)
    → more ≡ bands (union (pixels_of covered) (rectangle_set rect))
    → (x y : ℤ) → covers more x y ≡ (covers covered x y || has_pixel rect x y)
covers_more rect covered more e x y =
    (combined_lists.unions covered (rect ∷ []) more e).pixels x y ∙ ap (λ b. covers covered x y || b) (covers_one rect x y)

-- the rectangle without what is covered of it
pub covers_left : (rect : Rectangle) (covered left : List Rectangle) → left ≡ bands (difference (rectangle_set rect) (pixels_of covered))
    → (x y : ℤ) → covers left x y ≡ (has_pixel rect x y && not (covers covered x y))
covers_left rect covered left g x y =
    (combined_lists.differences (rect ∷ []) covered left g).pixels x y ∙ ap (λ b. b && not (covers covered x y)) (covers_one rect x y)

-- without bounds nothing is left
pub covers_nothing : (bounds : Option Rectangle) (covered left : List Rectangle) → bounds ≡ None → left ≡ []
    → (x y : ℤ) → covers left x y ≡ (bounds_have bounds x y && not (covers covered x y))
covers_nothing bounds covered left e f x y = rw (e, f) (covers_nil x y)

-- the layers in front of a slot cover these pixels, and the slot's isn't among them
pub record IsFront (bounds : List (Option Rectangle)) (slots : List ℕ) (slot : ℕ) (covered : List Rectangle) : Type 0 where
  pub cover : (x y : ℤ) → covers covered x y ≡ some_at bounds slots x y
  pub never : (x y : ℤ) → is_first_at bounds slots slot x y ≡ false

pub none_in_front : (bounds : List (Option Rectangle)) (slot : ℕ) (covered : List Rectangle)
    → covered ≡ [] → IsFront bounds [] slot covered
unfolding first_at
none_in_front bounds slot covered e = record { cover = λ x y. no_pixel covered x y e; never = λ x y. refl }

-- one more layer in front, which is another
pub more_in_front : (bounds : List (Option Rectangle)) (slots : List ℕ) (front slot : ℕ) (covered more : List Rectangle)
    → IsFront bounds slots slot covered → (front == slot) ≡ false
    → ((x y : ℤ) → covers more x y ≡ (covers covered x y || has_at bounds front x y))
    → IsFront bounds (slots ++ front ∷ []) slot more
more_in_front bounds slots front slot covered more h other e = record {
  cover = λ x y. e x y ∙ (ap (λ b. b || has_at bounds front x y) (h.cover x y) ∙ sym (some_behind bounds slots front x y));
  never = λ x y. shown_behind bounds slots front slot x y
      ∙ (ap (λ b. b || ((has_at bounds front x y && not (some_at bounds slots x y)) && (front == slot))) (h.never x y)
      ∙ and_right (has_at bounds front x y && not (some_at bounds slots x y)) (front == slot) other);
}

-- what the layers in front leave of a layer is where it is the first
left_is_first : (bounds : List (Option Rectangle)) (slots : List ℕ) (slot : ℕ) (rest : List ℕ) (covered : List Rectangle)
    → IsFront bounds slots slot covered → (x y : ℤ)
    → (has_at bounds slot x y && not (covers covered x y)) ≡ is_first_at bounds (slots ++ slot ∷ rest) slot x y
left_is_first bounds slots slot rest covered h x y =
    ap (λ b. has_at bounds slot x y && not b) (h.cover x y) ∙ sym (first_where_left bounds slots slot rest x y (h.never x y))

-- What they leave of the part of a layer's bounds that lies on the screen is where it is on top: at the entry of a list at which
-- the slot was found, and of its bounds as they were read.
pub left_of_entry : (v : Stack) (slots : List ℕ) (slot i : ℕ) (own part : Option Rectangle) (covered shown : List Rectangle)
    → slots ≡ v.front_to_back → i < length slots → get_or slots i 0 ≡ slot → own ≡ bounds_at v.bounds (get_or slots i 0)
    → IsFront v.bounds (take i slots) slot covered
    → ((x y : ℤ) → bounds_have part x y ≡ (has_pixel (screen_bounds v.sizes) x y && bounds_have own x y))
    → ((x y : ℤ) → covers shown x y ≡ (bounds_have part x y && not (covers covered x y)))
    → (x y : ℤ) → covers shown x y ≡ is_top_in v slot x y
left_of_entry v slots slot i own part covered shown same below here read h cut e x y =
    let on : Bool = has_pixel (screen_bounds v.sizes) x y in
    let bounds : List (Option Rectangle) = v.bounds in
    e x y
    ∙ (ap (λ b. b && not (covers covered x y)) (cut x y)
    ∙ (and_assoc on (bounds_have own x y) (not (covers covered x y))
    ∙ (ap (λ b. on && b)
    (ap (λ o. bounds_have o x y && not (covers covered x y)) (read ∙ ap (bounds_at bounds) here)
    ∙ (left_is_first bounds (take i slots) slot (drop (i + 1) slots) covered h x y
    ∙ ap (λ all. is_first_at bounds all slot x y)
    (ap (λ s. take i slots ++ s ∷ drop (i + 1) slots) (sym here) ∙ (sym (around_entry slots i below) ∙ same))))
    ∙ sym (is_top_where v slot x y))))

-- a slot that the list hasn't got is on top nowhere
pub never_on_top : (v : Stack) (slot : ℕ) (covered : List Rectangle) → IsFront v.bounds v.front_to_back slot covered → (x y : ℤ)
    → is_top_in v slot x y ≡ false
never_on_top v slot covered h x y =
    is_top_where v slot x y ∙ and_right (has_pixel (screen_bounds v.sizes) x y) _ (h.never x y)
