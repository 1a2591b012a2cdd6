-- A visible pixel of a layer lies on a place of the screen, which shows its pen.
use Rattle.std.proofs.Common.{◌≡◌, ℕ, ◌+◌, ◌<◌, Bool, true, false, List, [], ◌∷◌, ℤ, pos, negsuc, ◌-ℤ◌, ◌≤ℤ◌, int_le}
use Rattle.std.proofs.Common.{unsigned_abs, Option, Some, None, find, refl, sym, ap, subst, ◌∙◌, arith, eqb-true}
use Rattle.std.specs.Prelude.{if◌then◌else◌}
use Rattle.std.proofs.lemmas.Bool.{and_parts, false≢true}
use Rattle.std.proofs.lemmas.Int.{ints}
use Rattle.lw_calls.specs.declared.sizes.Sizes.{Sizes}
use Rattle.lw_region.specs.Rectangle.{Rectangle, within, has_pixel}
use Rattle.lw_region.proofs.Within.{within_low, within_high}
use Rattle.lw_planes.specs.Bitmap.{pen_at}
use Rattle.lw_planes.proofs.BitmapLaws.{pen_at_bitmap}
use Rattle.lw_machine.specs.Layer.{Layer, Live}
use Rattle.lw_machine.specs.Desk.{is_the}
use Rattle.lw_machine.specs.Screen.{bounds_have, screen_bounds, top_at, top, distance, pen_on, pen_of_top, screen, is_shown}
use Rattle.lw_machine.specs.Kept.{holds_at, screen_place, visible_within, is_visible}
use Rattle.lw_machine.specs.Laws.{VisiblePixelsAreSeen}
use Rattle.lw_region.proofs.Columns.{le_true}

-- tests that agree hold at the same places
pub holds_same : (f g : ℕ → ℕ → Bool) (x y : ℤ) → ((i j : ℕ) → f i j ≡ g i j) → holds_at f x y ≡ holds_at g x y
holds_same f g (pos x) (pos y) same = same x y
holds_same f g (pos x) (negsuc y) same = refl
holds_same f g (negsuc x) y same = refl

-- what is found passes the test
found_step : {A : Type 0} (test : A → Bool) (x : A) (rest : Option A) (a : A) (b : Bool) → test x ≡ b
    → (rest ≡ Some a → test a ≡ true) → (if b then Some x else rest) ≡ Some a → test a ≡ true
found_step test x rest a true passes further is =
    let same : x ≡ a = cc in
    ap test (sym same) ∙ passes
found_step test x rest a false fails further is = further is

found_passes : {A : Type 0} (test : A → Bool) (xs : List A) (a : A) → find test xs ≡ Some a → test a ≡ true
found_passes test [] a e = absurd (cc)
found_passes test (x ∷ xs) a e = found_step test x (find test xs) a (test x) refl (λ k. found_passes test xs a k) e

-- a number that is the one that is told
pub the_one : (o : Option ℕ) (s : ℕ) → is_the o s ≡ true → o ≡ Some s
the_one None s e = absurd (false≢true e)
the_one (Some m) s e = ap (λ k. Some k) (eqb-true m s e)

-- how far a pixel lies from its layer's edge, and the layer's scroll, are its place in the layer
place_back : (edge : ℤ) (scroll p : ℕ) → edge ≤ℤ screen_place edge scroll p
    → unsigned_abs (screen_place edge scroll p -ℤ edge) + scroll ≡ p
place_back edge scroll p right = omega (arith, ints)

-- a number that isn't below 0 counts something
counted : (z : ℤ) → int_le (pos 0) z ≡ true → (n : ℕ) × (z ≡ pos n)
counted (pos n) e = (n, refl)
counted (negsuc n) e = absurd (cc)

-- a column, or a row, of the screen
record IsPlace (width : ℕ) (place : ℤ) : Type 0 where
  number : ℕ
  is : place ≡ pos number
  below : number < width

on_axis : (width : ℕ) (place : ℤ) → within (pos 0) place (pos width -ℤ pos 1) ≡ true → IsPlace width place
on_axis width place inside =
    let right : pos 0 ≤ℤ place = within_low (pos 0) place (pos width -ℤ pos 1) inside in
    let number = counted place (le_true (pos 0) place right) in
    record {
      number =
          number.0;
      is = number.1;
      below =
          before width number.0 place number.1 (within_high (pos 0) place (pos width -ℤ pos 1) inside);
    }
  where
    before : (w n : ℕ) (p : ℤ) → p ≡ pos n → p ≤ℤ (pos w -ℤ pos 1) → n < w
    before w n p is h = omega (arith, ints)

-- a top is one of a place of the screen, and its bounds have the place
record IsTop (sizes : Sizes) (bounds : ℕ → Option Rectangle) (x y : ℤ) (s : ℕ) : Type 0 where
  place : has_pixel (screen_bounds sizes) x y ≡ true
  has : bounds_have (bounds s) x y ≡ true

top_is : (sizes : Sizes) (bounds : ℕ → Option Rectangle) (slots : List ℕ) (x y : ℤ) (s : ℕ)
    → top_at sizes bounds slots x y ≡ Some s
    → IsTop sizes bounds x y s
top_is sizes bounds slots x y s = go (has_pixel (screen_bounds sizes) x y) refl
  where
    go : (b : Bool) → has_pixel (screen_bounds sizes) x y ≡ b
        → (if b then find (λ t. bounds_have (bounds t) x y) slots else None) ≡ Some s → IsTop sizes bounds x y s
    go true e is = record { place = e; has = found_passes (λ t. bounds_have (bounds t) x y) slots s is }
    go false e is = absurd (cc)

-- the pen of the top layer on the place where it shows a pixel
pen_there : (r : Rectangle) (l : Layer) (x y column row : ℕ) → screen_place r.min_x l.scroll_x x ≡ pos column
    → screen_place r.min_y l.scroll_y y ≡ pos row → r.min_x ≤ℤ screen_place r.min_x l.scroll_x x
    → r.min_y ≤ℤ screen_place r.min_y l.scroll_y y → pen_on (Some r) (Live l) (pos column) (pos row) ≡ pen_at l.bits x y
pen_there r l x y column row across down right below =
    let back_x : distance r.min_x (pos column) + l.scroll_x ≡ x =
    ap (λ z. distance r.min_x z + l.scroll_x) (sym across) ∙ place_back r.min_x l.scroll_x x right in
    let back_y : distance r.min_y (pos row) + l.scroll_y ≡ y =
    ap (λ z. distance r.min_y z + l.scroll_y) (sym down) ∙ place_back r.min_y l.scroll_y y below in
    ap (λ a. pen_at l.bits a (distance r.min_y (pos row) + l.scroll_y)) back_x ∙ ap (pen_at l.bits x) back_y

-- A visible pixel of a layer lies on a place of the screen, which shows its pen.
pub visible_seen : VisiblePixelsAreSeen
unfolding is_visible screen top
visible_seen d s l r x y ok live bounds visible =
    let P : Option Rectangle → Type 0 = λ o. visible_within (is_shown d s) o l.scroll_x l.scroll_y x y ≡ true in
    let shown : is_shown d s place_x place_y ≡ true = subst P bounds visible in
    let on_top : top d place_x place_y ≡ Some s = the_one (top d place_x place_y) s shown in
    let is : IsTop d.sizes d.bounds place_x place_y s = top_is d.sizes d.bounds d.front_to_back place_x place_y s on_top in
    let inside = and_parts _ _ (ap (λ o. bounds_have o place_x place_y) (sym bounds) ∙ is.has) in
    let places = and_parts _ _ is.place in
    let across = on_axis d.sizes.width place_x places.0 in
    let down = on_axis d.sizes.height place_y places.1 in
    let right : r.min_x ≤ℤ place_x = within_low r.min_x place_x r.max_x inside.0 in
    let below : r.min_y ≤ℤ place_y = within_low r.min_y place_y r.max_y inside.1 in (
      across.number,
      down.number,
      record {
        across = across.is;
        down = down.is;
        left = across.below;
        low = down.below;
        pen = pen_at_bitmap d.sizes.width d.sizes.height d.sizes.depth
            (λ a b. pen_of_top d (top d (pos a) (pos b)) (pos a) (pos b)) across.number down.number across.below down.below
            ∙ (the_pen across.number down.number across.is down.is on_top ∙
            pen_there r l x y across.number down.number across.is down.is right below);
      },
    )
  where
    place_x : ℤ
    place_x = screen_place r.min_x l.scroll_x x

    place_y : ℤ
    place_y = screen_place r.min_y l.scroll_y y

    the_pen : (column row : ℕ) → place_x ≡ pos column → place_y ≡ pos row → top d place_x place_y ≡ Some s
        → pen_of_top d (top d (pos column) (pos row)) (pos column) (pos row) ≡ pen_on (Some r) (Live l) (pos column) (pos row)
    the_pen column row e f on_top =
        let there : top d (pos column) (pos row) ≡ Some s =
        ap (λ z. top d z (pos row)) (sym e) ∙ (ap (top d place_x) (sym f) ∙ on_top) in
        ap (λ o. pen_of_top d o (pos column) (pos row)) there ∙
        (ap (λ b. pen_on b (d.slot s) (pos column) (pos row)) bounds ∙
        ap (λ t. pen_on (Some r) t (pos column) (pos row)) live)
