-- Which pixels a layer keeps, by its bounds and its visible rectangles.
use Rattle.std.proofs.Common.{◌≡◌, ℕ, ◌<◌, ◌≤◌, Bool, true, false, ◌&&◌, nat_lt, List, [], ◌∷◌, ℤ, pos, negsuc, ◌+ℤ◌, ◌-ℤ◌, ◌≤ℤ◌, unsigned_abs, ◌∙◌, sym, refl, ap, ⊎_elim, arith}
use Rattle.std.proofs.lemmas.Int.{ints}
use Rattle.std.proofs.lemmas.Bool.{and_parts, cases_lt, lt-ltb, le-ltb, false_from_ne_true, both_ways}
use Rattle.lw_region.specs.Rectangle.{Rectangle, within, has_pixel, IsOrdered, IsWord, width, height}
use Rattle.lw_region.specs.Bands.{covers}
use Rattle.lw_region.specs.Regions.{MayMove, moved_list}
use Rattle.lw_region.proofs.Within.{within_true, within_below, within_above, within_low, within_high}
use Rattle.lw_region.proofs.SetOps.{covers_one}
use Rattle.lw_region.proofs.Moving.{moved_lists}
use Rattle.lw_calls.specs.declared.make.Kind.{Kind}
use Rattle.lw_calls.specs.declared.make.Kind.TheVariants.{Simple, Smart, SuperBitmap}
use Rattle.lw_calls.specs.Kinds.{is_super}
use Rattle.lw_cliprects.specs.Parts.{LieIn}
use Rattle.lw_machine.specs.Kept.{is_kept, kept_as, holds_at}
use Rattle.lw_layer.specs.View.{LiveView, keeps}
use Rattle.lw_layer.specs.StandsFor.{IsSound}
use Rattle.lw_layer.specs.Keeping.{keeps_pixel, AreKept}

-- a place between edges that aren't far apart has a word for its distance from the least
near_word : (low high z by : ℤ) → within low z high ≡ true → unsigned_abs ((high +ℤ pos 1) -ℤ low) ≤ 2048 → low +ℤ by ≡ pos 0
    → IsWord (z +ℤ by)
near_word low high z by has near back =
    let above = within_low low z high has in
    let below = within_high low z high has in
    (omega (arith, ints), omega (arith, ints))

-- what lies in bounds of a layer may be moved by their corner's distance from the origin
pub may_move : (bounds : Rectangle) (rects : List Rectangle) (dx dy : ℤ) → LieIn bounds rects → width bounds ≤ 2048
    → height bounds ≤ 2048
    → bounds.min_x +ℤ dx ≡ pos 0 → bounds.min_y +ℤ dy ≡ pos 0 → MayMove rects dx dy
may_move bounds rects dx dy inside wide high left upper x y has =
    let sides = and_parts (within bounds.min_x x bounds.max_x) (within bounds.min_y y bounds.max_y) (inside x y has) in
    (near_word bounds.min_x bounds.max_x x dx sides.0 wide left, near_word bounds.min_y bounds.max_y y dy sides.1 high upper)

-- the bounds lie in themselves
pub lies_alone : (bounds : Rectangle) → LieIn bounds (bounds ∷ [])
lies_alone bounds x y has = sym (covers_one bounds x y) ∙ has

-- a place that was moved by an edge's distance from the origin
pub moved_back : (low by z : ℤ) → low +ℤ by ≡ pos 0 → z -ℤ by ≡ low +ℤ z
moved_back low by z back = omega (arith, ints)

-- the visible rectangles, moved to the origin, have the pixels that a simple layer keeps
pub simple_kept : (bounds : Rectangle) (visible : List Rectangle) (dx dy : ℤ) → bounds.min_x +ℤ dx ≡ pos 0
    → bounds.min_y +ℤ dy ≡ pos 0 → (made : List Rectangle)
    → made ≡ moved_list visible dx dy → AreKept Simple bounds visible made
simple_kept bounds visible dx dy left upper made is x y =
    ap (λ l. covers l x y) is
    ∙ (moved_lists.0 visible dx dy x y
    ∙ (ap (λ u. covers visible u (y -ℤ dy)) (moved_back bounds.min_x dx x left)
    ∙ ap (λ v. covers visible (bounds.min_x +ℤ x) v) (moved_back bounds.min_y dy y upper)))

-- the bounds, moved to the origin, have the pixels of a smart layer
pub smart_kept : (bounds : Rectangle) (visible : List Rectangle) (dx dy : ℤ) → bounds.min_x +ℤ dx ≡ pos 0
    → bounds.min_y +ℤ dy ≡ pos 0 → (made : List Rectangle)
    → made ≡ moved_list (bounds ∷ []) dx dy → AreKept Smart bounds visible made
smart_kept bounds visible dx dy left upper made is x y =
    simple_kept bounds (bounds ∷ []) dx dy left upper made is x y ∙ covers_one bounds (bounds.min_x +ℤ x) (bounds.min_y +ℤ y)

-- A layer whose bits have the size of its bounds, and which isn't scrolled.
pub record IsPlain (c : LiveView) : Type 0 where
  pub ordered : IsOrdered c.bounds
  pub inside : LieIn c.bounds c.visible
  pub left : c.layer.scroll_x ≡ 0
  pub upper : c.layer.scroll_y ≡ 0
  pub wide : c.layer.bits.width ≡ width c.bounds
  pub high : c.layer.bits.height ≡ height c.bounds

-- the places of an extent, from its least on
extent_places : (low high : ℤ) (x : ℕ) → low ≤ℤ high
    → within low (low +ℤ pos x) high ≡ nat_lt x (unsigned_abs ((high +ℤ pos 1) -ℤ low))
extent_places low high x ordered =
    let n = unsigned_abs ((high +ℤ pos 1) -ℤ low) in
    ⊎_elim
    (λ (inside : x < n). within_true low (low +ℤ pos x) high (omega (arith, ints)) (omega (arith, ints)) ∙ sym (lt-ltb x n inside))
    (λ (past : n ≤ x). within_above low (low +ℤ pos x) high (omega (arith, ints)) ∙ sym (le-ltb x n past))
    (cases_lt x n)

-- no place before the least
before_extent : (low high : ℤ) (x : ℕ) → within low (low +ℤ negsuc x) high ≡ false
before_extent low high x = within_below low (low +ℤ negsuc x) high (omega (arith, ints))

-- where a place that isn't scrolled lies
unscrolled : (low : ℤ) (scroll x : ℕ) → scroll ≡ 0 → (low +ℤ pos x) -ℤ pos scroll ≡ low +ℤ pos x
unscrolled low scroll x still = omega (arith, ints)

-- which pixels such a layer keeps
keeps_plain : (c : LiveView) (x y : ℕ) → IsPlain c
    → keeps c x y ≡ (has_pixel c.bounds (c.bounds.min_x +ℤ pos x) (c.bounds.min_y +ℤ pos y) && kept_as c.layer.kind (covers c.visible (c.bounds.min_x +ℤ pos x) (c.bounds.min_y +ℤ pos y)))
unfolding keeps is_kept
keeps_plain c x y plain =
    let b = c.bounds in
    let column : nat_lt x c.layer.bits.width ≡ within b.min_x (b.min_x +ℤ pos x) b.max_x = ap (nat_lt x) plain.wide ∙ sym (extent_places b.min_x b.max_x x plain.ordered.columns) in
    let row : nat_lt y c.layer.bits.height ≡ within b.min_y (b.min_y +ℤ pos y) b.max_y = ap (nat_lt y) plain.high ∙ sym (extent_places b.min_y b.max_y y plain.ordered.rows) in
    rw (column, row, unscrolled b.min_x c.layer.scroll_x x plain.left, unscrolled b.min_y c.layer.scroll_y y plain.upper) refl

-- a part of what is there is there
pub part_is : (whole part : Bool) → (part ≡ true → whole ≡ true) → part ≡ (whole && part)
part_is true part h = refl
part_is false true h = sym (h refl)
part_is false false h = refl

-- what is there is all of it
pub all_is : (whole : Bool) → whole ≡ (whole && true)
all_is true = refl
all_is false = refl

-- the pixels that a layer keeps, asked at any place
pub kept_pixel : (c : LiveView) (kind : Kind) → c.layer.kind ≡ kind → is_super kind ≡ false → IsPlain c → (x y : ℤ)
    → keeps_pixel kind c.bounds c.visible x y ≡ holds_at (λ i j. keeps c i j) x y
kept_pixel c Simple is other plain (pos x) (pos y) =
    let across = c.bounds.min_x +ℤ pos x in
    let down = c.bounds.min_y +ℤ pos y in
    part_is (has_pixel c.bounds across down) (covers c.visible across down) (plain.inside across down)
    ∙ sym (keeps_plain c x y plain ∙ ap (λ k. has_pixel c.bounds across down && kept_as k (covers c.visible across down)) is)
kept_pixel c Simple is other plain (pos x) (negsuc y) =
    false_from_ne_true _ (λ shown.
    let sides = and_parts _ _ (plain.inside (c.bounds.min_x +ℤ pos x) (c.bounds.min_y +ℤ negsuc y) shown) in
    both_ways _ (before_extent c.bounds.min_y c.bounds.max_y y) sides.1)
kept_pixel c Simple is other plain (negsuc x) y =
    false_from_ne_true _ (λ shown.
    let sides = and_parts _ _ (plain.inside (c.bounds.min_x +ℤ negsuc x) (c.bounds.min_y +ℤ y) shown) in
    both_ways _ (before_extent c.bounds.min_x c.bounds.max_x x) sides.0)
kept_pixel c Smart is other plain (pos x) (pos y) =
    let across = c.bounds.min_x +ℤ pos x in
    let down = c.bounds.min_y +ℤ pos y in
    all_is (has_pixel c.bounds across down)
    ∙ sym (keeps_plain c x y plain ∙ ap (λ k. has_pixel c.bounds across down && kept_as k (covers c.visible across down)) is)
kept_pixel c Smart is other plain (pos x) (negsuc y) =
    false_from_ne_true _ (λ shown. both_ways _ (before_extent c.bounds.min_y c.bounds.max_y y) ((and_parts _ _ shown).1))
kept_pixel c Smart is other plain (negsuc x) y =
    false_from_ne_true _ (λ shown. both_ways _ (before_extent c.bounds.min_x c.bounds.max_x x) ((and_parts _ _ shown).0))
kept_pixel c SuperBitmap is other plain x y = absurd (both_ways true other refl)

-- a sound layer that isn't a super-bitmap layer is laid out so
pub sound_plain : (c : LiveView) → IsSound c → is_super c.layer.kind ≡ false → IsPlain c
sound_plain c sound other = record {
  ordered = sound.ordered;
  inside = sound.inside;
  left = sound.scrolled.left other;
  upper = sound.scrolled.upper other;
  wide = sound.wide other;
  high = sound.high other;
}

-- what has the pixels that a sound layer keeps by its bounds and its visible rectangles has those that it keeps
pub kept_sound : (c : LiveView) (kind : Kind) (bounds : Rectangle) (visible made : List Rectangle) → kind ≡ c.layer.kind
    → bounds ≡ c.bounds → visible ≡ c.visible → IsSound c → is_super c.layer.kind ≡ false → AreKept kind bounds visible made
    → (x y : ℤ) → covers made x y ≡ holds_at (λ i j. keeps c i j) x y
kept_sound c kind bounds visible made kinds same shown sound other are x y =
    are x y
    ∙ (ap (λ k. keeps_pixel k bounds visible x y) kinds
    ∙ (ap (λ b. keeps_pixel c.layer.kind b visible x y) same
    ∙ (ap (λ l. keeps_pixel c.layer.kind c.bounds l x y) shown ∙ kept_pixel c c.layer.kind refl other (sound_plain c sound other) x y)))
