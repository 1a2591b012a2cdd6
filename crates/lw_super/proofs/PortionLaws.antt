-- What the draft of a super-bitmap layer stands for once its own bitmap has all its bits, and its visible rectangles show another
-- portion.
use Rattle.std.proofs.Common.{◌≡◌, ℕ, suc, ◌+◌, ◌||◌, int_le, ◌<◌, ◌≤◌, Bool, true, false, ◌&&◌, nat_lt, if◌then◌else◌, List, [], ◌∷◌, ◌++◌, length, get_or, map, Option, Some, ◌∙◌, sym, refl, ap, subst, arith, ⊎_elim, ℤ, pos, ◌+ℤ◌, ◌-ℤ◌, ◌≤ℤ◌, unsigned_abs, length-append, append-nil, take, drop}
use Rattle.std.proofs.lemmas.Bool.{and_parts, cases_lt}
use Rattle.std.specs.List.{All}
use Rattle.std.proofs.lemmas.Int.{ints}
use Rattle.lw_strips.specs.Strips.{StripView, rects_of, planes_of}
use Rattle.std.proofs.lemmas.List.{drop_all, take_all, get_or_append_left, get_or_at, get_or-map, length-map, nil_from_length}
use Rattle.lw_region.specs.Rectangle.{Rectangle, has_pixel, IsOrdered, columns_of, rows_of, width, height}
use Rattle.lw_region.specs.Bands.{covers}
use Rattle.lw_region.specs.Banded.{IsCanonical}
use Rattle.lw_region.specs.Order.{natural}
use Rattle.lw_region.proofs.Canonical.{covers_nil, covers_cons}
use Rattle.lw_region.proofs.Within.{within_low, within_high}
use Rattle.lw_region.proofs.Numbers.{le_of}
use Rattle.lw_planes.specs.Bitmap.{Bitmap, IsBitmap, pen_at}
use Rattle.lw_planes.specs.Sizes.{IsPlanes}
use Rattle.lw_planes.proofs.BitmapLaws.{IsBitmap_bitmap, pen_at_bitmap, bitmap_from_pens}
use Rattle.lw_buffers.specs.Lookup.{pen_from, pen_in, with_buffers}
use Rattle.lw_calls.specs.Kinds.{is_super}
use Rattle.lw_calls.specs.declared.make.Kind.{Kind}
use Rattle.lw_calls.specs.declared.make.Kind.TheVariants.{Simple, Smart, SuperBitmap}
use Rattle.lw_cliprects.specs.Parts.{AreDivided}
use Rattle.lw_machine.specs.Arrangement.{portion_fits}
use Rattle.lw_machine.specs.Step.{scroll_layer}
use Rattle.lw_machine.specs.Kept.{is_kept, kept_as}
use Rattle.lw_machine.proofs.Seen.{holds_same}
use Rattle.lw_layer.specs.View.{LiveView, keeps, with_layer}
use Rattle.lw_layer.specs.Pieces.{buffered, rest_of, whole_of, damage_table}
use Rattle.lw_layer.specs.Drafts.{IsLiveDraft, IsBuffer, AreBuffers, IsRest, layout, visible_planes, buffers_of, no_bitmap, live_view}
use Rattle.lw_layer.specs.declared.draft.LiveDraft.{LiveDraft}
use Rattle.lw_layer.proofs.BitsLaws.{live_bits}
use Rattle.lw_layer.proofs.BufferLaws.{planes_many, planes_shown, shown_buffer}
use Rattle.lw_layer.proofs.CopyingLaws.{natural_distance, not_below}
use Rattle.lw_super.specs.Shown.{axis_fits, IsShown, AreShown, portion, portions, refilled, refilled_by, left_of, top_of, draft_fits, IsNear, scrolled_by}
use Rattle.lw_super.proofs.WritingLaws.{super_is, super_rest, super_pieces, super_bits, buffer_moved, scroll_is, are_shown}

-- the draft with all bits in its own bitmap, scrolled to (x, y), and with another's buffers of visible rectangles
abbrev pub scrolled_to : LiveDraft → LiveDraft → ℤ → ℤ → LiveDraft
scrolled_to d v x y = record d { superbits = Some (live_view d).layer.bits; scroll_x = x; scroll_y = y; strips = v.strips }

-- what is asked of that portion and these buffers
pub record MayScrollTo (d v : LiveDraft) (x y : ℤ) : Type 0 where
  pub left : pos 0 ≤ℤ x
  pub upper : pos 0 ≤ℤ y
  pub right : unsigned_abs x + width d.bounds ≤ (layout d).width
  pub lower : unsigned_abs y + height d.bounds ≤ (layout d).height
  pub many : length (visible_planes v) ≡ length d.parts.visible
  pub rects : rects_of v.strips.items ≡ d.parts.visible
  pub solid : All (λ (s : StripView). s.solid ≡ true) v.strips.items
  pub each : (n : ℕ) → n < length d.parts.visible → IsBuffer d.depth (get_or d.parts.visible n d.bounds) (get_or (visible_planes v) n no_bitmap)

-- the strips that were filled anew
refilled_rects : (own : Bitmap) (left top : ℤ) (strips : List StripView) → rects_of (map (λ s. refilled own left top s) strips) ≡ rects_of strips
refilled_rects own left top [] = refl
refilled_rects own left top (s ∷ rest) = ap (λ q. s.rect ∷ q) (refilled_rects own left top rest)

refilled_planes : (own : Bitmap) (left top : ℤ) (strips : List StripView) → planes_of (map (λ s. refilled own left top s) strips) ≡ portions own left top (rects_of strips)
refilled_planes own left top [] = refl
refilled_planes own left top (s ∷ rest) = ap (λ q. portion own left top s.rect ∷ q) (refilled_planes own left top rest)

refilled_solid : (own : Bitmap) (left top : ℤ) (strips : List StripView) → All (λ (s : StripView). s.solid ≡ true) (map (λ s. refilled own left top s) strips)
refilled_solid own left top strips =
    λ k s inside.
    let below : k < length strips = omega (arith, length-map strips (λ q. refilled own left top q)) in
    ap (λ (q : StripView). q.solid) (get_or-map (λ q. refilled own left top q) strips k s s below)

-- a super-bitmap layer keeps all its pixels
kept_super : (kind : Kind) → kind ≡ SuperBitmap → (a b : Bool) → kept_as kind a ≡ kept_as kind b
kept_super Simple is a b = absurd (cc is)
kept_super Smart is a b = absurd (cc is)
kept_super SuperBitmap is a b = refl

keeps_still : (d v : LiveDraft) (x y : ℤ) (i j : ℕ) → d.kind ≡ SuperBitmap
    → keeps (live_view d) i j ≡ keeps (live_view (scrolled_to d v x y)) i j
unfolding keeps is_kept
keeps_still d v x y i j super = ap (λ t. (nat_lt i (layout d).width && nat_lt j (layout d).height) && t) (kept_super d.kind super _ _)

-- what a super-bitmap layer has beside its visible rectangles stays
rest_still : (kind : Kind) (hidden covered : ℕ) (own : Option Bitmap) (b : Bitmap) → kind ≡ SuperBitmap
    → IsRest kind hidden covered own → IsRest kind hidden covered (Some b)
rest_still Simple hidden covered own b is rest = absurd (cc is)
rest_still Smart hidden covered own b is rest = absurd (cc is)
rest_still SuperBitmap hidden covered own b is rest = (rest.0, b, refl)

-- the whole is of the size of the bits
extent_is : (low : ℤ) (n : ℕ) → n ≡ unsigned_abs (((((low +ℤ pos n) -ℤ pos 1)) +ℤ pos 1) -ℤ low)
extent_is low n = omega (arith, ints)

-- the buffers of a list and one more
buffers_last : (depth : ℕ) (rects : List Rectangle) (bs : List Bitmap) (none r : Rectangle) (b : Bitmap)
    → length bs ≡ length rects → ((n : ℕ) → n < length rects → IsBuffer depth (get_or rects n none) (get_or bs n no_bitmap))
    → IsBuffer depth r b → AreBuffers depth (rects ++ (r ∷ [])) (bs ++ (b ∷ [])) none
buffers_last depth rects bs none r b many each last = record {
  each =
      λ n inside.
      let long = length-append rects (r ∷ []) in
      ⊎_elim
      (λ (before : n < length rects).
      buffer_moved depth depth _ _ _ _ refl (sym (get_or_append_left rects (r ∷ []) none n before)) (sym (get_or_append_left bs (b ∷ []) no_bitmap n (omega (arith, many)))) (each n before))
      (λ (past : length rects ≤ n).
      buffer_moved depth depth _ _ _ _ refl (sym (get_or_at rects r [] none n (omega arith))) (sym (get_or_at bs b [] no_bitmap n (omega (arith, many)))) last)
      (cases_lt n (length rects));
}

scrolled_buffers : (d v : LiveDraft) (x y : ℤ) → d.kind ≡ SuperBitmap → IsLiveDraft d → MayScrollTo d v x y
    → AreBuffers d.depth (buffered (layout (scrolled_to d v x y))) (buffers_of (scrolled_to d v x y)) d.bounds
scrolled_buffers d v x y super ok may =
    let e = scrolled_to d v x y in
    let bits = (live_view d).layer.bits in
    let none = nil_from_length d.covered.items (super_rest d.kind _ _ _ super ok.buffers.rest).0 in
    let buffers : buffers_of e ≡ visible_planes v ++ (bits ∷ []) = ap (λ q. visible_planes v ++ (q ++ (bits ∷ []))) none in
    let P : List Rectangle → Type 0 = λ rs. AreBuffers d.depth rs (buffers_of e) d.bounds in
    let Q : List Bitmap → Type 0 = λ bs. AreBuffers d.depth (d.parts.visible ++ (whole_of (layout e) ∷ [])) bs d.bounds in
    let whole : IsBuffer d.depth (whole_of (layout e)) bits = record {
      sound = live_bits d ok;
      width = extent_is (whole_of (layout e)).min_x (layout d).width;
      height = extent_is (whole_of (layout e)).min_y (layout d).height;
      planes = refl;
    } in
    subst P (sym (super_pieces e bits super)) (subst Q (sym buffers) (buffers_last d.depth d.parts.visible (visible_planes v) d.bounds (whole_of (layout e)) bits may.many may.each whole))

-- the draft stays one
pub scrolled_sound : (d v : LiveDraft) (x y : ℤ) → d.kind ≡ SuperBitmap → IsLiveDraft d → MayScrollTo d v x y
    → IsLiveDraft (scrolled_to d v x y)
scrolled_sound d v x y super ok may = record {
  place = record {
    bounds = ok.place.bounds;
    scroll_x = may.left;
    scroll_y = may.upper;
    sizes = ok.place.sizes;
    scrolled = record {
      left = λ plain. absurd (cc (sym plain ∙ ap is_super super));
      upper = λ plain. absurd (cc (sym plain ∙ ap is_super super));
      right = may.right;
      lower = may.lower;
    };
  };
  mode = ok.mode;
  buffers = record { shown = may.rects; solid = may.solid; rest = rest_still d.kind _ _ d.superbits _ super ok.buffers.rest; sized = scrolled_buffers d v x y super ok may };
  damage = record {
    inner = ok.damage.inner;
    kept = λ i j has. sym (holds_same (λ p q. keeps (live_view d) p q) (λ p q. keeps (live_view (scrolled_to d v x y)) p q) i j (λ p q. keeps_still d v x y p q super)) ∙ ok.damage.kept i j has;
  };
  frame = ok.frame;
}

kept_pen : (t : Bool) (a b : ℕ) → (t ≡ true → a ≡ b) → b ≡ (if t then a else b)
kept_pen true a b same = sym (same refl)
kept_pen false a b same = refl

-- Rectangles that show what the bitmap has change nothing of it.
shown_again : (rects : List Rectangle) (bs : List Bitmap) (left top : ℤ) (b : Bitmap) → IsBitmap b
    → ((x y : ℕ) → x < b.width → y < b.height → covers rects (left +ℤ pos x) (top +ℤ pos y) ≡ true → pen_in rects bs (left +ℤ pos x) (top +ℤ pos y) ≡ pen_at b x y)
    → with_buffers rects bs left top b ≡ b
shown_again rects bs left top b ok same =
    sym (bitmap_from_pens b _ ok
    (λ x y in_width in_height. kept_pen (covers rects (left +ℤ pos x) (top +ℤ pos y)) (pen_in rects bs (left +ℤ pos x) (top +ℤ pos y)) (pen_at b x y) (same x y in_width in_height)))

-- the live layer scrolled so
abbrev pub scrolled_view : LiveView → ℤ → ℤ → LiveView
scrolled_view c x y = with_layer (λ l. record l { scroll_x = unsigned_abs x; scroll_y = unsigned_abs y }) c

-- the draft stands for the layer scrolled so, where its visible rectangles show what its own bitmap has
pub scrolled_shows : (d v : LiveDraft) (x y : ℤ) → d.kind ≡ SuperBitmap → IsLiveDraft d → MayScrollTo d v x y
    → ((i j : ℕ) → i < (layout d).width → j < (layout d).height → covers d.parts.visible ((d.bounds.min_x -ℤ x) +ℤ pos i) ((d.bounds.min_y -ℤ y) +ℤ pos j) ≡ true → pen_in d.parts.visible (visible_planes v) ((d.bounds.min_x -ℤ x) +ℤ pos i) ((d.bounds.min_y -ℤ y) +ℤ pos j) ≡ pen_at (live_view d).layer.bits i j)
    → live_view (scrolled_to d v x y) ≡ scrolled_view (live_view d) x y
scrolled_shows d v x y super ok may same =
    let e = scrolled_to d v x y in
    let bits = (live_view d).layer.bits in
    let planes = live_bits d ok in
    let is : (live_view e).layer.bits ≡ bits =
    super_bits e bits super (scrolled_sound d v x y super ok may) ∙ shown_again d.parts.visible (visible_planes v) (left_of e) (top_of e) bits planes.bitmap same in
    ap (λ (b : Bitmap). record (live_view e) { layer = record (live_view e).layer { bits = b; damage = damage_table b d.damage.rects } }) is

-- the pieces beside the visible rectangles
abbrev rest_pieces : LiveDraft → List Rectangle
rest_pieces d = rest_of (layout d)

-- the draft once its visible pixels were written back
abbrev pub written_back : LiveDraft → LiveDraft
written_back d = record d { superbits = Some (live_view d).layer.bits }

back_may : (d : LiveDraft) → IsLiveDraft d → MayScrollTo d d d.scroll_x d.scroll_y
back_may d ok = record {
  left = ok.place.scroll_x;
  upper = ok.place.scroll_y;
  right = ok.place.scrolled.right;
  lower = ok.place.scrolled.lower;
  many = planes_shown d ok;
  rects = ok.buffers.shown;
  solid = ok.buffers.solid;
  each =
      λ n below.
      let long = length-append d.parts.visible (rest_pieces d) in
      buffer_moved d.depth d.depth _ _ _ _ refl (get_or_append_left d.parts.visible (rest_pieces d) d.bounds n below) (shown_buffer d n (omega (arith, planes_many d, planes_shown d ok))) (ok.buffers.sized.each n (omega arith));
}

-- the rectangle isn't left of the bitmap, nor above it
abbrev pub IsBehind : ℤ → ℤ → Rectangle → Type 0
IsBehind left top r = (left ≤ℤ r.min_x) × (top ≤ℤ r.min_y)

natural_sum : (edge low : ℤ) (x : ℕ) → edge ≤ℤ low → low ≤ℤ (edge +ℤ pos x)
    → natural (low -ℤ edge) + natural ((edge +ℤ pos x) -ℤ low) ≡ x
natural_sum edge low x first second =
    let a = natural_distance (low -ℤ edge) (not_below edge low first) in
    let b = natural_distance ((edge +ℤ pos x) -ℤ low) (not_below low (edge +ℤ pos x) second) in
    omega (arith, ints)

natural_less : (edge low high : ℤ) (x : ℕ) → low ≤ℤ (edge +ℤ pos x) → (edge +ℤ pos x) ≤ℤ high
    → natural ((edge +ℤ pos x) -ℤ low) < unsigned_abs ((high +ℤ pos 1) -ℤ low)
natural_less edge low high x first second =
    let b = natural_distance ((edge +ℤ pos x) -ℤ low) (not_below low (edge +ℤ pos x) first) in
    omega (arith, ints)

-- a rectangle's portion has the bitmap's pens
portion_pen : (own : Bitmap) (left top : ℤ) (r : Rectangle) (x y : ℕ) → IsBehind left top r
    → has_pixel r (left +ℤ pos x) (top +ℤ pos y) ≡ true
    → pen_from r (portion own left top r) (left +ℤ pos x) (top +ℤ pos y) ≡ pen_at own x y
unfolding portion
portion_pen own left top r x y behind has =
    let halves = and_parts _ _ has in
    let u : ℤ = left +ℤ pos x in
    let v : ℤ = top +ℤ pos y in
    let u_low = within_low r.min_x u r.max_x halves.0 in
    let v_low = within_low r.min_y v r.max_y halves.1 in
    pen_at_bitmap (width r) (height r) own.depth _ (natural (u -ℤ r.min_x)) (natural (v -ℤ r.min_y))
    (natural_less left r.min_x r.max_x x u_low (within_high r.min_x u r.max_x halves.0)) (natural_less top r.min_y r.max_y y v_low (within_high r.min_y v r.max_y halves.1))
    ∙ (ap (λ i. pen_at own i (natural (r.min_y -ℤ top) + natural (v -ℤ r.min_y))) (natural_sum left r.min_x x behind.0 u_low)
    ∙ ap (λ j. pen_at own x j) (natural_sum top r.min_y y behind.1 v_low))

-- and so have all of a list
portions_step : (t c : Bool) (p q pen : ℕ) → (t || c) ≡ true → (t ≡ true → p ≡ pen) → (c ≡ true → q ≡ pen)
    → (if t then p else q) ≡ pen
portions_step true c p q pen has first second = first refl
portions_step false c p q pen has first second = second has

portions_pen : (own : Bitmap) (left top : ℤ) (rects : List Rectangle) (x y : ℕ)
    → ((n : ℕ) (r : Rectangle) → n < length rects → IsBehind left top (get_or rects n r))
    → covers rects (left +ℤ pos x) (top +ℤ pos y) ≡ true
    → pen_in rects (portions own left top rects) (left +ℤ pos x) (top +ℤ pos y) ≡ pen_at own x y
unfolding pen_in
portions_pen own left top [] x y behind has = absurd (cc (sym has ∙ covers_nil (left +ℤ pos x) (top +ℤ pos y)))
portions_pen own left top (r ∷ rs) x y behind has =
    portions_step (has_pixel r (left +ℤ pos x) (top +ℤ pos y)) (covers rs (left +ℤ pos x) (top +ℤ pos y)) _ _ (pen_at own x y) (sym (covers_cons r rs (left +ℤ pos x) (top +ℤ pos y)) ∙ has)
    (λ here. portion_pen own left top r x y (behind 0 r (omega arith)) here)
    (λ there. portions_pen own left top rs x y (λ n s below. behind (suc n) s (omega arith)) there)

-- a portion is a buffer of its rectangle's size
portion_range : (edge low high : ℤ) (x w : ℕ) → low ≤ℤ high → edge ≤ℤ low → (high +ℤ pos 1) ≤ℤ (edge +ℤ pos w)
    → x < unsigned_abs ((high +ℤ pos 1) -ℤ low) → natural (low -ℤ edge) + x < w
portion_range edge low high x w ordered first last below =
    let a = natural_distance (low -ℤ edge) (not_below edge low first) in
    omega (arith, ints)

portion_buffer : (own : Bitmap) (left top : ℤ) (r : Rectangle) (b : Bitmap) → IsPlanes own → IsShown own left top r b
    → IsBuffer own.depth r (portion own left top r)
unfolding portion
portion_buffer own left top r b ok is = record {
  sound = record {
    bitmap =
        IsBitmap_bitmap (width r) (height r) own.depth _
        (λ x y in_width in_height.
        ok.bitmap.pens _ _ (portion_range left r.min_x r.max_x x own.width is.ordered.columns is.left_edge is.right_edge in_width)
        (portion_range top r.min_y r.max_y y own.height is.ordered.rows is.top_edge is.bottom_edge in_height));
    sizes = record {
      columns = (omega (arith, is.buffer.sound.sizes.columns.0, is.buffer.width), omega (arith, is.buffer.sound.sizes.columns.1, is.buffer.width));
      rows = (omega (arith, is.buffer.sound.sizes.rows.0, is.buffer.height), omega (arith, is.buffer.sound.sizes.rows.1, is.buffer.height));
      planes = ok.sizes.planes;
    };
  };
  width = refl;
  height = refl;
  planes = refl;
}

-- what a portion that fits says
record Fits (x y : ℤ) (w h : ℕ) (r : Rectangle) : Type 0 where
  left : pos 0 ≤ℤ x
  right : (x +ℤ columns_of r) ≤ℤ pos w
  upper : pos 0 ≤ℤ y
  lower : (y +ℤ rows_of r) ≤ℤ pos h

fits_parts : (x y : ℤ) (w h : ℕ) (r : Rectangle) → portion_fits x y w h r ≡ true → Fits x y w h r
unfolding portion_fits
fits_parts x y w h r is =
    let halves = and_parts _ _ is in
    let across = and_parts _ _ halves.0 in
    let down = and_parts _ _ halves.1 in
    record { left = le_of _ _ across.0; right = le_of _ _ across.1; upper = le_of _ _ down.0; lower = le_of _ _ down.1 }

room_is : (x low high : ℤ) (w : ℕ) → pos 0 ≤ℤ x → low ≤ℤ high → (x +ℤ ((high +ℤ pos 1) -ℤ low)) ≤ℤ pos w
    → unsigned_abs x + unsigned_abs ((high +ℤ pos 1) -ℤ low) ≤ w
room_is x low high w start ordered fits = omega (arith, ints)

-- the portion may be moved, as yet with the former buffers
moved_may : (d : LiveDraft) (x y : ℤ) → IsLiveDraft d → IsOrdered d.bounds → Fits x y (layout d).width (layout d).height d.bounds
    → MayScrollTo d d x y
moved_may d x y ok ordered fits =
    let still = back_may d ok in
    record {
      left = fits.left;
      upper = fits.upper;
      right = room_is x d.bounds.min_x d.bounds.max_x (layout d).width fits.left ordered.columns fits.right;
      lower = room_is y d.bounds.min_y d.bounds.max_y (layout d).height fits.upper ordered.rows fits.lower;
      many = still.many;
      rects = still.rects;
      solid = still.solid;
      each = still.each;
    }

-- what is asked and given where the visible rectangles' buffers were filled anew
pub record IsMoved (d e : LiveDraft) (x y : ℤ) : Type 0 where
  pub sound : IsLiveDraft e
  pub view : live_view e ≡ scrolled_view (live_view d) x y

-- the draft once its portion was moved is one
pub moved_sound : (d w : LiveDraft) (dx dy : ℤ) → w ≡ scrolled_by d dx dy → is_super d.kind ≡ true → IsLiveDraft d
    → IsOrdered d.bounds → draft_fits d dx dy ≡ true → IsLiveDraft w
moved_sound d w dx dy is super ok ordered fits =
    let x : ℤ = d.scroll_x +ℤ dx in
    let y : ℤ = d.scroll_y +ℤ dy in
    let P : LiveDraft → Type 0 = λ q. IsLiveDraft q in
    subst P (sym is) (scrolled_sound d d x y (super_is d.kind super) ok (moved_may d x y ok ordered (fits_parts _ _ _ _ _ fits)))

moved_by_portions : (d v : LiveDraft) (hidden : List Rectangle) (x y : ℤ) → is_super d.kind ≡ true → IsLiveDraft d
    → IsOrdered d.bounds → IsCanonical d.parts.visible → AreDivided d.parts.bounds d.parts.visible hidden
    → portion_fits x y (layout d).width (layout d).height d.bounds ≡ true
    → v.strips.items ≡ map (λ s. refilled (live_view d).layer.bits (d.bounds.min_x -ℤ x) (d.bounds.min_y -ℤ y) s) d.strips.items
    → IsMoved d (scrolled_to d v x y) x y
moved_by_portions d v hidden x y super ok ordered canonical divided fits strips_are =
    let kind = super_is d.kind super in
    let bits = (live_view d).layer.bits in
    let left : ℤ = d.bounds.min_x -ℤ x in
    let top : ℤ = d.bounds.min_y -ℤ y in
    let visible = d.parts.visible in
    let parts = fits_parts _ _ _ _ _ fits in
    let still = moved_may d x y ok ordered parts in
    let shown : AreShown bits left top visible (visible_planes d) = are_shown (scrolled_to d d x y) bits hidden kind (scrolled_sound d d x y kind ok still) canonical divided in
    let is : visible_planes v ≡ portions bits left top visible =
    ap (λ ss. planes_of ss) strips_are ∙ (refilled_planes bits left top d.strips.items ∙ ap (λ rs. portions bits left top rs) ok.buffers.shown) in
    let may : MayScrollTo d v x y = record {
      left = still.left;
      upper = still.upper;
      right = still.right;
      lower = still.lower;
      many = ap (λ bs. length bs) is ∙ length-map visible (λ r. portion bits left top r);
      rects = ap (λ ss. rects_of ss) strips_are ∙ (refilled_rects bits left top d.strips.items ∙ ok.buffers.shown);
      solid = let P : List StripView → Type 0 = λ ss. All (λ (s : StripView). s.solid ≡ true) ss in subst P (sym strips_are) (refilled_solid bits left top d.strips.items);
      each =
          λ n below.
          buffer_moved d.depth d.depth _ _ _ _ refl refl (sym (ap (λ bs. get_or bs n no_bitmap) is ∙ get_or-map (λ r. portion bits left top r) visible n d.bounds no_bitmap below))
          (portion_buffer bits left top (get_or visible n d.bounds) (get_or (visible_planes d) n no_bitmap) (live_bits d ok) (shown.each n d.bounds no_bitmap below));
    } in
    record {
      sound = scrolled_sound d v x y kind ok may;
      view =
          scrolled_shows d v x y kind ok may
          (λ i j in_width in_height has.
          ap (λ bs. pen_in visible bs (left +ℤ pos i) (top +ℤ pos j)) is
          ∙ portions_pen bits left top visible i j (λ n r below. let one = shown.each n r no_bitmap below in (one.left_edge, one.top_edge)) has);
    }

-- the strips with their portions of an own bitmap that is told
pub show_gives : (d : LiveDraft) (own : Bitmap) (strips new : List StripView) (left top : ℤ)
    → d.superbits ≡ Some own → left ≡ left_of d → top ≡ top_of d → strips ≡ d.strips.items → new ≡ map (λ s. refilled own left top s) strips
    → new ≡ refilled_by d.superbits (left_of d) (top_of d) d.strips.items
show_gives d own strips new left top is is_left is_top is_strips new_is =
    new_is
    ∙ (ap (λ z. map (λ s. refilled own z top s) strips) is_left
    ∙ (ap (λ z. map (λ s. refilled own (left_of d) z s) strips) is_top
    ∙ (ap (λ ss. map (λ s. refilled own (left_of d) (top_of d) s) ss) is_strips
    ∙ ap (λ o. refilled_by o (left_of d) (top_of d) d.strips.items) (sym is))))

-- a slice given back to its vector
pub slice_back : (items new : List StripView) (len : ℕ) → length new ≡ length items → len ≡ length items
    → take len (new ++ drop (length new) items) ≡ new
slice_back items new len same is =
    ap (λ q. take len (new ++ q)) (drop_all (length new) items (omega arith)) ∙ (ap (λ q. take len q) (append-nil new) ∙ take_all len new (omega arith))

-- a portion that is shown begins in the bitmap
pub moved_x_told : (d : LiveDraft) (x y : ℤ) → IsLiveDraft d → IsOrdered d.bounds
    → portion_fits x y (layout d).width (layout d).height d.bounds ≡ true → IsNear x
moved_x_told d x y ok ordered fits =
    let parts = fits_parts _ _ _ _ _ fits in
    record { low = parts.left; high = let last = parts.right in let small = ok.place.sizes.columns.1 in let some = ordered.columns in omega (arith, ints) }

pub moved_y_told : (d : LiveDraft) (x y : ℤ) → IsLiveDraft d → IsOrdered d.bounds
    → portion_fits x y (layout d).width (layout d).height d.bounds ≡ true → IsNear y
moved_y_told d x y ok ordered fits =
    let parts = fits_parts _ _ _ _ _ fits in
    record { low = parts.upper; high = let last = parts.lower in let small = ok.place.sizes.rows.1 in let some = ordered.rows in omega (arith, ints) }

-- the draft once its portion was moved and its visible rectangles' buffers were filled anew
pub moved_live : (d w n : LiveDraft) (hidden : List Rectangle) (dx dy : ℤ) → w ≡ scrolled_by d dx dy
    → n ≡ record w { strips = n.strips } → n.strips.items ≡ refilled_by w.superbits (left_of w) (top_of w) w.strips.items
    → is_super d.kind ≡ true → IsLiveDraft d → IsOrdered d.bounds → IsCanonical d.parts.visible
    → AreDivided d.parts.bounds d.parts.visible hidden → draft_fits d dx dy ≡ true
    → IsMoved d n (d.scroll_x +ℤ dx) (d.scroll_y +ℤ dy)
moved_live d w n hidden dx dy w_is rest strips super ok ordered canonical divided fits =
    let x : ℤ = d.scroll_x +ℤ dx in
    let y : ℤ = d.scroll_y +ℤ dy in
    let n_is : n ≡ scrolled_to d n x y = rest ∙ ap (λ (q : LiveDraft). record q { strips = n.strips }) w_is in
    let items : n.strips.items ≡ map (λ s. refilled (live_view d).layer.bits (d.bounds.min_x -ℤ x) (d.bounds.min_y -ℤ y) s) d.strips.items =
    strips ∙ ap (λ (q : LiveDraft). refilled_by q.superbits (left_of q) (top_of q) q.strips.items) w_is in
    let P : LiveDraft → Type 0 = λ q. IsMoved d q x y in
    subst P (sym n_is) (moved_by_portions d n hidden x y super ok ordered canonical divided fits items)

-- a moved scroll, as the machine has it
moved_scroll : (was by : ℤ) → pos 0 ≤ℤ was → pos 0 ≤ℤ (was +ℤ by)
    → unsigned_abs (was +ℤ by) ≡ natural (pos (unsigned_abs was) +ℤ by)
moved_scroll was by low moved =
    let same : pos (unsigned_abs was) +ℤ by ≡ was +ℤ by = ap (λ z. z +ℤ by) (sym (scroll_is was low)) in
    sym (ap natural same ∙ natural_distance (was +ℤ by) moved)

pub scrolled_layer : (d : LiveDraft) (dx dy : ℤ) → IsLiveDraft d → pos 0 ≤ℤ (d.scroll_x +ℤ dx) → pos 0 ≤ℤ (d.scroll_y +ℤ dy)
    → scrolled_view (live_view d) (d.scroll_x +ℤ dx) (d.scroll_y +ℤ dy) ≡ with_layer (λ l. scroll_layer dx dy l) (live_view d)
scrolled_layer d dx dy ok low upper =
    ap (λ n. with_layer (λ l. record l { scroll_x = n; scroll_y = unsigned_abs (d.scroll_y +ℤ dy) }) (live_view d)) (moved_scroll d.scroll_x dx ok.place.scroll_x low)
    ∙ ap (λ n. with_layer (λ l. record l { scroll_x = natural (pos (unsigned_abs d.scroll_x) +ℤ dx); scroll_y = n }) (live_view d)) (moved_scroll d.scroll_y dy ok.place.scroll_y upper)

-- whether an axis fits, where it begins in the bitmap
pub axis_told : (start extent : ℤ) (count : ℕ) (a b : ℤ) → pos 0 ≤ℤ start → a ≡ start +ℤ extent → b ≡ pos count
    → int_le a b ≡ axis_fits start extent count
unfolding axis_fits
axis_told start extent count a b low first second =
    let from : int_le (pos 0) start ≡ true = grind (arith, ints) in
    rw (from, first, second) refl

-- a portion fits where both axes do
pub fits_both : (x y : ℤ) (w h : ℕ) (r : Rectangle) (across down : Bool) → across ≡ axis_fits x (columns_of r) w
    → down ≡ axis_fits y (rows_of r) h → across ≡ true → down ≡ portion_fits x y w h r
unfolding portion_fits axis_fits
fits_both x y w h r across down first second is = second ∙ sym (ap (λ t. t && (int_le (pos 0) y && int_le (y +ℤ rows_of r) (pos h))) (sym first ∙ is))

pub fits_not : (x y : ℤ) (w h : ℕ) (r : Rectangle) (across : Bool) → across ≡ axis_fits x (columns_of r) w
    → across ≡ false → across ≡ portion_fits x y w h r
unfolding portion_fits axis_fits
fits_not x y w h r across first is = is ∙ sym (ap (λ t. t && (int_le (pos 0) y && int_le (y +ℤ rows_of r) (pos h))) (sym first ∙ is))

-- the draft with its portion moved, as the code makes it
pub portion_moved : (d w : LiveDraft) (x y dx dy : ℤ) → w ≡ written_back d → x ≡ d.scroll_x +ℤ dx → y ≡ d.scroll_y +ℤ dy
    → record w { scroll_x = x; scroll_y = y } ≡ scrolled_by d dx dy
portion_moved d w x y dx dy w_is x_is y_is =
    ap (λ (q : LiveDraft). record q { scroll_x = x; scroll_y = y }) w_is
    ∙ (ap (λ z. record (written_back d) { scroll_x = z; scroll_y = y }) x_is ∙ ap (λ z. record (written_back d) { scroll_x = d.scroll_x +ℤ dx; scroll_y = z }) y_is)
