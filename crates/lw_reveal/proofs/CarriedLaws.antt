-- The buffers that a layer has are those with the pens that it keeps, and stay so where their rectangles are moved with the bounds.
use Rattle.std.proofs.Common.{◌≡◌, ℕ, ◌+◌, ◌-◌, ◌<◌, ◌≤◌, Bool, true, false, ◌||◌, ◌⊎◌, ⊎_elim, inl, inr, List, [], ◌∷◌, ◌++◌, length, get_or, Some, ◌∙◌, sym, refl, ap, subst, arith, ℤ, pos, ◌+ℤ◌, ◌-ℤ◌, ◌≤ℤ◌, unsigned_abs, length-append}
use Rattle.std.proofs.lemmas.Bool.{and_parts, cases_lt, and_from}
use Rattle.std.proofs.lemmas.List.Elements.{All-append}
use Rattle.std.proofs.lemmas.Int.{ints}
use Rattle.std.proofs.lemmas.List.{get_or_append_left, get_or-append_right}
use Rattle.lw_region.specs.Rectangle.{Rectangle, within, has_pixel, moved_by, IsOrdered, width, height}
use Rattle.lw_region.specs.Bands.{covers}
use Rattle.lw_region.specs.Banded.{IsCanonical}
use Rattle.lw_region.proofs.Disjoint.{has_at}
use Rattle.lw_region.proofs.Within.{within_low, within_high}
use Rattle.lw_planes.specs.Bitmap.{Bitmap, bitmap, pen_at}
use Rattle.lw_planes.proofs.BitmapLaws.{bitmap_from_pens, bitmap_same}
use Rattle.lw_calls.specs.declared.make.Kind.{Kind}
use Rattle.lw_calls.specs.declared.make.Kind.TheVariants.{Simple, Smart, SuperBitmap}
use Rattle.lw_cliprects.specs.Parts.{hidden_of, AreDivided}
use Rattle.lw_cliprects.proofs.HiddenLaws.{canonical_hidden}
use Rattle.lw_layer.specs.View.{LiveView, kept_pen}
use Rattle.lw_layer.specs.Pieces.{Layout, buffered, buffer_rectangle, rest_as, whole_of, across, down, buffer_at}
use Rattle.lw_layer.specs.Drafts.{IsLiveDraft, IsBuffer, layout, buffers_of, no_bitmap, live_view}
use Rattle.lw_layer.specs.declared.draft.LiveDraft.{LiveDraft}
use Rattle.lw_layer.proofs.BufferLaws.{buffer_is}
use Rattle.lw_layer.proofs.OrderedLists.{canonical_ordered}
use Rattle.lw_layer.proofs.ReachLaws.{found_at, none_before}
use Rattle.lw_layer.proofs.ReadLaws.{read_pen}
use Rattle.lw_reveal.specs.Changes.{beside_own, pen_or_zero, layer_place, carried}

-- a place of a moved rectangle, one axis at a time
place_moved : (edge low new : ℤ) (scroll i : ℕ) → layer_place (edge +ℤ (new -ℤ low)) new scroll i ≡ layer_place edge low scroll i
place_moved edge low new scroll i = omega (arith, ints)

extent_moved : (least greatest by : ℤ)
    → unsigned_abs (((greatest +ℤ by) +ℤ pos 1) -ℤ (least +ℤ by)) ≡ unsigned_abs ((greatest +ℤ pos 1) -ℤ least)
extent_moved least greatest by = omega (arith, ints)

-- what is carried into a rectangle that is moved with the bounds is what is carried into the rectangle before
pub carried_moved : (c : LiveView) (bounds r : Rectangle)
    → carried c bounds (moved_by r (bounds.min_x -ℤ c.bounds.min_x) (bounds.min_y -ℤ c.bounds.min_y)) ≡ carried c c.bounds r
carried_moved c bounds r =
    let dx : ℤ = bounds.min_x -ℤ c.bounds.min_x in
    let dy : ℤ = bounds.min_y -ℤ c.bounds.min_y in
    let w = extent_moved r.min_x r.max_x dx in
    let h = extent_moved r.min_y r.max_y dy in
    let F : ℕ → ℕ → ℕ = λ i j. pen_or_zero (kept_pen c (layer_place (r.min_x +ℤ dx) bounds.min_x c.layer.scroll_x i) (layer_place (r.min_y +ℤ dy) bounds.min_y c.layer.scroll_y j)) in
    let G : ℕ → ℕ → ℕ = λ i j. pen_or_zero (kept_pen c (layer_place r.min_x c.bounds.min_x c.layer.scroll_x i) (layer_place r.min_y c.bounds.min_y c.layer.scroll_y j)) in
    ap (λ n. bitmap n (height (moved_by r dx dy)) c.layer.bits.depth F) w ∙
    (ap (λ n. bitmap (width r) n c.layer.bits.depth F) h ∙
    bitmap_same (width r) (height r) c.layer.bits.depth F G
    (λ i j left low.
    ap (λ x. pen_or_zero (kept_pen c x (layer_place (r.min_y +ℤ dy) bounds.min_y c.layer.scroll_y j))) (place_moved r.min_x c.bounds.min_x bounds.min_x c.layer.scroll_x i) ∙
    ap (λ y. pen_or_zero (kept_pen c (layer_place r.min_x c.bounds.min_x c.layer.scroll_x i) y)) (place_moved r.min_y c.bounds.min_y bounds.min_y c.layer.scroll_y j)))

-- a place of a rectangle that lies in the bounds, one axis at a time: the layer has a column or row there
record OnAxis (edge low : ℤ) (scroll i size : ℕ) : Type 0 where
  x : ℕ
  is : layer_place edge low scroll i ≡ pos x
  at : (low +ℤ pos x) -ℤ pos scroll ≡ edge +ℤ pos i
  distance : pos i ≡ ((low +ℤ pos x) -ℤ pos scroll) -ℤ edge
  below : x < size

axis_has : (least greatest : ℤ) (i : ℕ) → least ≤ℤ greatest → i < unsigned_abs ((greatest +ℤ pos 1) -ℤ least)
    → within least (least +ℤ pos i) greatest ≡ true
unfolding within
axis_has least greatest i ordered inside = grind (arith, ints)

axis_place : (edge low : ℤ) (scroll i x : ℕ) → low ≤ℤ (edge +ℤ pos i) → x ≡ unsigned_abs ((edge +ℤ pos i) -ℤ low) + scroll
    → layer_place edge low scroll i ≡ pos x
axis_place edge low scroll i x from is = omega (arith, ints)

axis_at : (edge low : ℤ) (scroll i x : ℕ) → low ≤ℤ (edge +ℤ pos i) → x ≡ unsigned_abs ((edge +ℤ pos i) -ℤ low) + scroll
    → (low +ℤ pos x) -ℤ pos scroll ≡ edge +ℤ pos i
axis_at edge low scroll i x from is = omega (arith, ints)

axis_distance : (edge low : ℤ) (scroll i x : ℕ) → (low +ℤ pos x) -ℤ pos scroll ≡ edge +ℤ pos i
    → pos i ≡ ((low +ℤ pos x) -ℤ pos scroll) -ℤ edge
axis_distance edge low scroll i x is = omega (arith, ints)

axis_below : (edge low high : ℤ) (scroll i x size : ℕ) → low ≤ℤ (edge +ℤ pos i) → (edge +ℤ pos i) ≤ℤ high
    → scroll + unsigned_abs ((high +ℤ pos 1) -ℤ low) ≤ size → x ≡ unsigned_abs ((edge +ℤ pos i) -ℤ low) + scroll → x < size
axis_below edge low high scroll i x size from upto fits is = omega (arith, ints)

on_axis : (edge low high : ℤ) (scroll i size : ℕ) → within low (edge +ℤ pos i) high ≡ true
    → scroll + unsigned_abs ((high +ℤ pos 1) -ℤ low) ≤ size → OnAxis edge low scroll i size
on_axis edge low high scroll i size has fits =
    let x : ℕ = unsigned_abs ((edge +ℤ pos i) -ℤ low) + scroll in
    let from = within_low low (edge +ℤ pos i) high has in
    let at = axis_at edge low scroll i x from refl in
    record {
      x = x;
      is = axis_place edge low scroll i x from refl;
      at = at;
      distance = axis_distance edge low scroll i x at;
      below = axis_below edge low high scroll i x size from (within_high low (edge +ℤ pos i) high has) fits refl;
    }

-- the numbers of the rectangles with a buffer beside an own bitmap are those of their pieces
pub record IsNumber (l : Layout) (kind : Kind) (n : ℕ) : Type 0 where
  pub same : buffer_rectangle l n ≡ get_or (beside_own kind l.bounds l.visible) n l.bounds
  pub there : n < length (buffered l)
  pub shown : kind ≡ SuperBitmap → n < length l.visible
  pub all : buffer_rectangle l n ≡ get_or (l.visible ++ hidden_of l.bounds l.visible) n l.bounds
  pub inside : n < length (l.visible ++ hidden_of l.bounds l.visible)

pub number_is : (l : Layout) (kind : Kind) (n : ℕ) → l.kind ≡ kind → n < length (beside_own kind l.bounds l.visible)
    → IsNumber l kind n
number_is l Simple n is inside =
    let hidden = hidden_of l.bounds l.visible in
    let list : buffered l ≡ l.visible ++ [] = ap (λ q. l.visible ++ rest_as q hidden (whole_of l)) is in
    let none : length (l.visible ++ []) ≡ length l.visible + 0 = length-append l.visible [] in
    let long : length (l.visible ++ hidden) ≡ length l.visible + length hidden = length-append l.visible hidden in
    let below : n < length l.visible = omega arith in
    let first : get_or (l.visible ++ []) n l.bounds ≡ get_or (l.visible ++ hidden) n l.bounds = get_or_append_left l.visible [] l.bounds n below ∙ sym (get_or_append_left l.visible hidden l.bounds n below) in
    record {
      same = ap (λ q. get_or q n l.bounds) list;
      there = rw list inside;
      shown = λ super. below;
      all = ap (λ q. get_or q n l.bounds) list ∙ first;
      inside = omega arith;
    }
number_is l Smart n is inside =
    let hidden = hidden_of l.bounds l.visible in
    let list : buffered l ≡ l.visible ++ hidden = ap (λ q. l.visible ++ rest_as q hidden (whole_of l)) is in
    record {
      same = ap (λ q. get_or q n l.bounds) list;
      there = rw list inside;
      shown = λ super. absurd (cc super);
      all = ap (λ q. get_or q n l.bounds) list;
      inside = inside;
    }
number_is l SuperBitmap n is inside =
    let hidden = hidden_of l.bounds l.visible in
    let list : buffered l ≡ l.visible ++ (whole_of l ∷ []) = ap (λ q. l.visible ++ rest_as q hidden (whole_of l)) is in
    let none : length (l.visible ++ []) ≡ length l.visible + 0 = length-append l.visible [] in
    let one : length (l.visible ++ (whole_of l ∷ [])) ≡ length l.visible + 1 = length-append l.visible (whole_of l ∷ []) in
    let long : length (l.visible ++ hidden) ≡ length l.visible + length hidden = length-append l.visible hidden in
    let below : n < length l.visible = omega arith in
    let first : get_or (l.visible ++ (whole_of l ∷ [])) n l.bounds ≡ get_or l.visible n l.bounds = get_or_append_left l.visible (whole_of l ∷ []) l.bounds n below in
    record {
      same = ap (λ q. get_or q n l.bounds) list ∙ (first ∙ sym (get_or_append_left l.visible [] l.bounds n below));
      there = rw list (omega arith);
      shown = λ super. below;
      all = ap (λ q. get_or q n l.bounds) list ∙ (first ∙ sym (get_or_append_left l.visible hidden l.bounds n below));
      inside = omega arith;
    }

-- the rectangles of both lists are ordered, and lie in the bounds
pub both_ordered : (xs ys : List Rectangle) (n : ℕ) (other : Rectangle) → IsCanonical xs → IsCanonical ys
    → n < length (xs ++ ys) → IsOrdered (get_or (xs ++ ys) n other)
both_ordered xs ys n other first second inside = All-append IsOrdered xs ys (canonical_ordered xs first) (canonical_ordered ys second) n other inside

either : (a b : Bool) → (a ≡ true) ⊎ (b ≡ true) → (a || b) ≡ true
either true b h = refl
either false true h = refl
either false false h = ⊎_elim (λ (is : false ≡ true). is) (λ (is : false ≡ true). is) h

pub divided_inside : (bounds : Rectangle) (xs ys : List Rectangle) (n : ℕ) (x y : ℤ) → AreDivided bounds xs ys
    → n < length (xs ++ ys) → has_pixel (get_or (xs ++ ys) n bounds) x y ≡ true → has_pixel bounds x y ≡ true
divided_inside bounds xs ys n x y divided inside has =
    let long = length-append xs ys in
    let P : Rectangle → Type 0 = λ r. has_pixel r x y ≡ true in
    sym (divided.cover x y) ∙
    either (covers xs x y) (covers ys x y)
    (⊎_elim
    (λ (early : n < length xs). inl (has_at xs n bounds x y early (subst P (get_or_append_left xs ys bounds n early) has)))
    (λ (late : length xs ≤ n). inr (has_at ys (n - length xs) bounds x y (omega arith) (subst P (get_or-append_right xs ys (length xs) n bounds refl late) has)))
    (cases_lt n (length xs)))

-- what holds of the parts of a draft's bounds
pub record AreParts (bounds : Rectangle) (visible : List Rectangle) : Type 0 where
  pub ordered : IsOrdered bounds
  pub canonical : IsCanonical visible
  pub divided : AreDivided bounds visible (hidden_of bounds visible)

-- one pixel of the buffer of a rectangle
former_pen : (d : LiveDraft) (n i j : ℕ) → IsLiveDraft d → AreParts d.bounds d.parts.visible → IsNumber (layout d) d.kind n
    → i < width (buffer_rectangle (layout d) n) → j < height (buffer_rectangle (layout d) n)
    → pen_at (get_or (buffers_of d) n no_bitmap) i j ≡ pen_or_zero (kept_pen (live_view d) (layer_place (buffer_rectangle (layout d) n).min_x d.bounds.min_x (layout d).scroll_x i) (layer_place (buffer_rectangle (layout d) n).min_y d.bounds.min_y (layout d).scroll_y j))
former_pen d n i j ok parts number left low =
    let l = layout d in
    let r : Rectangle = buffer_rectangle l n in
    let hidden = hidden_of d.bounds d.parts.visible in
    let ordered : IsOrdered r = subst (λ q. IsOrdered q) (sym number.all) (both_ordered d.parts.visible hidden n d.bounds parts.canonical (canonical_hidden d.bounds d.parts.visible) number.inside) in
    let has : has_pixel r (r.min_x +ℤ pos i) (r.min_y +ℤ pos j) ≡ true = and_from _ _ (axis_has r.min_x r.max_x i ordered.columns left) (axis_has r.min_y r.max_y j ordered.rows low) in
    let P : Rectangle → Type 0 = λ q. has_pixel q (r.min_x +ℤ pos i) (r.min_y +ℤ pos j) ≡ true in
    let inside = and_parts _ _ (divided_inside d.bounds d.parts.visible hidden n (r.min_x +ℤ pos i) (r.min_y +ℤ pos j) parts.divided number.inside (subst P number.all has)) in
    let column : OnAxis r.min_x d.bounds.min_x l.scroll_x i l.width = on_axis r.min_x d.bounds.min_x d.bounds.max_x l.scroll_x i l.width inside.0 ok.place.scrolled.right in
    let line : OnAxis r.min_y d.bounds.min_y l.scroll_y j l.height = on_axis r.min_y d.bounds.min_y d.bounds.max_y l.scroll_y j l.height inside.1 ok.place.scrolled.lower in
    let here : has_pixel r (across l column.x) (down l line.x) ≡ true = rw (column.at, line.at) has in
    let found : buffer_at l column.x line.x ≡ Some n =
    found_at l column.x line.x n column.below line.below number.there here
    (λ k before. none_before l n k (across l column.x) (down l line.x) d.kind refl number.shown parts.divided number.there before here)
    in
    let read : Some (pen_at (get_or (buffers_of d) n no_bitmap) i j) ≡ kept_pen (live_view d) (pos column.x) (pos line.x) = read_pen d column.x line.x n i j found column.distance line.distance in
    ap pen_or_zero read ∙
    (ap (λ x. pen_or_zero (kept_pen (live_view d) x (pos line.x))) (sym column.is) ∙
    ap (λ y. pen_or_zero (kept_pen (live_view d) (layer_place r.min_x d.bounds.min_x l.scroll_x i) y)) (sym line.is))

-- The buffer of a rectangle, visible or hidden, is what is carried into it where all stays.
pub former_carried : (d : LiveDraft) (n : ℕ) → IsLiveDraft d → AreParts d.bounds d.parts.visible
    → n < length (beside_own d.kind d.bounds d.parts.visible)
    → get_or (buffers_of d) n no_bitmap ≡ carried (live_view d) d.bounds (get_or (beside_own d.kind d.bounds d.parts.visible) n d.bounds)
former_carried d n ok parts inside =
    let l = layout d in
    let number = number_is l d.kind n refl inside in
    let r : Rectangle = buffer_rectangle l n in
    let b : Bitmap = get_or (buffers_of d) n no_bitmap in
    let buffer : IsBuffer d.depth r b = buffer_is d n b ok number.there refl in
    let F : ℕ → ℕ → ℕ = λ i j. pen_or_zero (kept_pen (live_view d) (layer_place r.min_x d.bounds.min_x l.scroll_x i) (layer_place r.min_y d.bounds.min_y l.scroll_y j)) in
    bitmap_from_pens b F buffer.sound.bitmap (λ i j left low. former_pen d n i j ok parts number (omega (arith, buffer.width)) (omega (arith, buffer.height))) ∙
    (ap (λ w. bitmap w b.height b.depth F) buffer.width ∙
    (ap (λ h. bitmap (width r) h b.depth F) buffer.height ∙
    (ap (λ k. bitmap (width r) (height r) k F) buffer.planes ∙
    ap (λ q. carried (live_view d) d.bounds q) number.same)))
