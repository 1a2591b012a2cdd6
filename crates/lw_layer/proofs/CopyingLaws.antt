-- Which bits the pixels of a row of a layer have, by the places of its buffers.
use Rattle.std.proofs.Common.{◌≡◌, ℕ, ◌+◌, ◌<◌, ◌≤◌, Bool, true, false, if◌then◌else◌, List, [], get_or, Option, Some, None, ◌∙◌, sym, refl, ap, subst, arith, ℤ, pos, negsuc, ◌+ℤ◌, ◌-ℤ◌, ◌≤ℤ◌, ◌<ℤ◌, unsigned_abs, ◌⊎◌, inl, inr, ⊎_elim}
use Rattle.std.specs.Int.{bit_at}
use Rattle.std.proofs.lemmas.Bool.{cases_lt, or_parts, or_from, and_left, and_right}
use Rattle.std.proofs.lemmas.Int.{ints}
use Rattle.std.proofs.lemmas.Nat.Bits.{bit_at-zero, bit_at-lt}
use Rattle.lw_region.specs.Rectangle.{Rectangle, within, has_pixel, IsOrdered}
use Rattle.lw_region.specs.Order.{natural}
use Rattle.lw_region.specs.Bands.{covers}
use Rattle.lw_region.proofs.Within.{within_below, within_above}
use Rattle.lw_region.proofs.Canonical.{covers_nil, covers_cons, covers_append}
use Rattle.lw_region.proofs.Disjoint.{has_at}
use Rattle.lw_region.proofs.FindingLaws.{covers_none}
use Rattle.lw_planes.specs.Row.{bit_of}
use Rattle.lw_planes.specs.Bitmap.{pen_at}
use Rattle.lw_planes.proofs.BitmapLaws.{pen_at_bitmap}
use Rattle.lw_buffers.specs.Lookup.{pen_in}
use Rattle.lw_buffers.proofs.LookupLaws.{pen_none, pen_in_first}
use Rattle.lw_calls.specs.declared.make.Kind.{Kind}
use Rattle.lw_calls.specs.declared.make.Kind.TheVariants.{Simple, Smart, SuperBitmap}
use Rattle.lw_cliprects.specs.Parts.{hidden_of, AreDivided}
use Rattle.lw_machine.specs.Kept.{holds_at}
use Rattle.lw_layer.specs.View.{LiveView, keeps, kept_pen}
use Rattle.lw_layer.specs.Pieces.{Layout, buffered, buffer_rectangle, rest_as, rest_of, whole_of, across, down, found_in, buffer_at, column_in, line_in}
use Rattle.lw_layer.specs.Drafts.{IsLiveDraft, layout, buffers_of, no_bitmap, pen_from, live_view}
use Rattle.lw_layer.specs.Copied.{bit_in, kept_bit, IsRowOf, HasPlaces, AreClear, across_at, down_at, pen_over}
use Rattle.lw_layer.specs.declared.draft.LiveDraft.{LiveDraft}
use Rattle.lw_layer.proofs.BufferLaws.{as_many_buffers}
use Rattle.lw_layer.proofs.Positions.{none_passes}
use Rattle.lw_layer.proofs.FoundLaws.{in_bits_found}
use Rattle.lw_layer.proofs.ViewLaws.{has_place}
use Rattle.lw_layer.proofs.KeptLaws.{keeps_found, keeps_missing, column_off, columns_off, rows_off, left_of_pixel, above_pixel}
use Rattle.lw_layer.proofs.ReadLaws.{unkept_unread}

-- a bit of a pen, or of none, is a bit
pub bit_in_lt : (plane : ℕ) (pen : Option ℕ) → bit_in plane pen < 2
bit_in_lt plane None = omega arith
bit_in_lt plane (Some pen) = bit_at-lt pen plane

-- the bit of a pixel that isn't kept
pub kept_no : (c : LiveView) (plane : ℕ) (x y : ℤ) → holds_at (λ u v. keeps c u v) x y ≡ false → kept_bit c plane x y ≡ 0
unfolding kept_bit
kept_no c plane x y off = sym (ap (λ o. bit_in plane o) (unkept_unread c x y off))

-- a column off the bits lies left or right of the bounds
off_bounds : (least greatest : ℤ) (scroll w : ℕ) (x : ℤ) → least ≤ℤ greatest → scroll + unsigned_abs ((greatest +ℤ pos 1) -ℤ least) ≤ w → (x <ℤ pos 0) ⊎ (pos w ≤ℤ x) → within least ((least +ℤ x) -ℤ pos scroll) greatest ≡ false
off_bounds least greatest scroll w x ordered fits off =
    ⊎_elim
    (λ (low : x <ℤ pos 0). within_below least ((least +ℤ x) -ℤ pos scroll) greatest (omega (arith, ints)))
    (λ (high : pos w ≤ℤ x). within_above least ((least +ℤ x) -ℤ pos scroll) greatest (omega (arith, ints)))
    off

-- and of the whole
off_whole : (least : ℤ) (scroll w : ℕ) (x : ℤ) → (x <ℤ pos 0) ⊎ (pos w ≤ℤ x) → within (least -ℤ pos scroll) ((least +ℤ x) -ℤ pos scroll) (((least -ℤ pos scroll) +ℤ pos w) -ℤ pos 1) ≡ false
off_whole least scroll w x off =
    ⊎_elim
    (λ (low : x <ℤ pos 0). within_below (least -ℤ pos scroll) ((least +ℤ x) -ℤ pos scroll) _ (omega (arith, ints)))
    (λ (high : pos w ≤ℤ x). within_above (least -ℤ pos scroll) ((least +ℤ x) -ℤ pos scroll) _ (omega (arith, ints)))
    off

-- what neither the hidden rectangles nor the whole have, the rectangles beside the visible ones haven't
rest_lacks : (kind : Kind) (hidden : List Rectangle) (whole : Rectangle) (x y : ℤ) → covers hidden x y ≡ false → has_pixel whole x y ≡ false → covers (rest_as kind hidden whole) x y ≡ false
rest_lacks Simple hidden whole x y first second = covers_nil x y
rest_lacks Smart hidden whole x y first second = first
rest_lacks SuperBitmap hidden whole x y first second = covers_cons whole [] x y ∙ or_from _ _ second (covers_nil x y)

-- no rectangle with a buffer has a column off the bits
off_buffered : (d : LiveDraft) (x y : ℤ) → IsLiveDraft d → IsOrdered d.bounds → AreDivided d.bounds d.parts.visible (hidden_of d.bounds d.parts.visible) → (x <ℤ pos 0) ⊎ (pos (layout d).width ≤ℤ x) → covers (buffered (layout d)) (across_at (layout d) x) y ≡ false
off_buffered d x y ok ordered divided off =
    let l = layout d in
    let place : ℤ = across_at l x in
    let bounds : has_pixel d.bounds place y ≡ false = and_left _ _ (off_bounds d.bounds.min_x d.bounds.max_x l.scroll_x l.width x ordered.columns ok.place.scrolled.right off) in
    let whole : has_pixel (whole_of l) place y ≡ false = and_left _ _ (off_whole d.bounds.min_x l.scroll_x l.width x off) in
    let parts = or_parts (covers d.parts.visible place y) (covers (hidden_of d.bounds d.parts.visible) place y) (divided.cover place y ∙ bounds) in
    covers_append l.visible (rest_of l) place y ∙ or_from _ _ parts.0 (rest_lacks d.kind (hidden_of d.bounds d.parts.visible) (whole_of l) place y parts.1 whole)

-- nor a row off them
off_buffered_rows : (d : LiveDraft) (x y : ℤ) → IsLiveDraft d → IsOrdered d.bounds → AreDivided d.bounds d.parts.visible (hidden_of d.bounds d.parts.visible) → (y <ℤ pos 0) ⊎ (pos (layout d).height ≤ℤ y) → covers (buffered (layout d)) x (down_at (layout d) y) ≡ false
off_buffered_rows d x y ok ordered divided off =
    let l = layout d in
    let place : ℤ = down_at l y in
    let bounds : has_pixel d.bounds x place ≡ false = and_right _ _ (off_bounds d.bounds.min_y d.bounds.max_y l.scroll_y l.height y ordered.rows ok.place.scrolled.lower off) in
    let whole : has_pixel (whole_of l) x place ≡ false = and_right _ _ (off_whole d.bounds.min_y l.scroll_y l.height y off) in
    let parts = or_parts (covers d.parts.visible x place) (covers (hidden_of d.bounds d.parts.visible) x place) (divided.cover x place ∙ bounds) in
    covers_append l.visible (rest_of l) x place ∙ or_from _ _ parts.0 (rest_lacks d.kind (hidden_of d.bounds d.parts.visible) (whole_of l) x place parts.1 whole)

-- a difference that isn't below 0
pub natural_distance : (z : ℤ) → pos 0 ≤ℤ z → natural z ≡ unsigned_abs z
natural_distance (pos n) h = refl
natural_distance (negsuc n) h = absurd (omega (arith, ints))

pub not_below : (a b : ℤ) → a ≤ℤ b → pos 0 ≤ℤ (b -ℤ a)
not_below a b h = omega (arith, ints)

-- the pen of a pixel that has a buffer
found_pen : (d : LiveDraft) (x y n : ℕ) → IsLiveDraft d → buffer_at (layout d) x y ≡ Some n → pen_in (buffered (layout d)) (buffers_of d) (across (layout d) x) (down (layout d) y) ≡ pen_at (live_view d).layer.bits x y
found_pen d x y n ok found =
    let l = layout d in
    let place = has_place l x y n found in
    let b = get_or (buffers_of d) n no_bitmap in
    let r = buffer_rectangle l n in
    let column : natural (across l x -ℤ r.min_x) ≡ column_in l n x = natural_distance (across l x -ℤ r.min_x) (not_below r.min_x (across l x) (left_of_pixel l x y n place)) in
    let line : natural (down l y -ℤ r.min_y) ≡ line_in l n y = natural_distance (down l y -ℤ r.min_y) (not_below r.min_y (down l y) (above_pixel l x y n place)) in
    let pen : pen_at (live_view d).layer.bits x y ≡ pen_from (buffers_of d) l (buffer_at l x y) x y = pen_at_bitmap l.width l.height d.depth (λ i j. pen_from (buffers_of d) l (buffer_at l i j) i j) x y place.left place.low in
    pen_in_first (buffered l) (buffers_of d) n l.bounds no_bitmap (across l x) (down l y) place.there (as_many_buffers d ok) place.has place.first ∙
    (ap (λ i. pen_at b i (natural (down l y -ℤ r.min_y))) column ∙
    (ap (λ j. pen_at b (column_in l n x) j) line ∙ sym (pen ∙ ap (λ o. pen_from (buffers_of d) l o x y) found)))

-- what the places of the buffers say of a pixel of the layer: its pen where it is kept, and which pixels are
pub record IsPixel (d : LiveDraft) (x y : ℤ) : Type 0 where
  pub pen : (old : ℕ)
      → (if covers (buffered (layout d)) (across_at (layout d) x) (down_at (layout d) y) then pen_in (buffered (layout d)) (buffers_of d) (across_at (layout d) x) (down_at (layout d) y) else old)
      ≡ pen_over old (kept_pen (live_view d) x y)
  pub there : covers (buffered (layout d)) (across_at (layout d) x) (down_at (layout d) y) ≡ holds_at (λ u v. keeps (live_view d) u v) x y

pixel_off : (d : LiveDraft) (x y : ℤ) → covers (buffered (layout d)) (across_at (layout d) x) (down_at (layout d) y) ≡ false → holds_at (λ u v. keeps (live_view d) u v) x y ≡ false → IsPixel d x y
pixel_off d x y free off = record {
  pen =
      λ old.
      ap (λ t. if t then pen_in (buffered (layout d)) (buffers_of d) (across_at (layout d) x) (down_at (layout d) y) else old) free ∙ ap (pen_over old) (unkept_unread (live_view d) x y off);
  there = free ∙ sym off;
}

pixel_in_bits : (d : LiveDraft) (x y : ℕ) (found : Option ℕ) → buffer_at (layout d) x y ≡ found → IsLiveDraft d → IsOrdered d.bounds → AreDivided d.bounds d.parts.visible (hidden_of d.bounds d.parts.visible) → x < (layout d).width → y < (layout d).height → IsPixel d (pos x) (pos y)
pixel_in_bits d x y None is ok ordered divided left low =
    let l = layout d in
    let nowhere : found_in l (buffered l) x y ≡ None = sym (in_bits_found l x y left low) ∙ is in
    let free = covers_none (buffered l) l.bounds (across l x) (down l y) (λ k inside. none_passes (λ r. has_pixel r (across l x) (down l y)) (buffered l) k l.bounds nowhere inside) in
    pixel_off d (pos x) (pos y) free (keeps_missing d x y d.kind refl ok ordered divided left low is)
pixel_in_bits d x y (Some n) is ok ordered divided left low =
    let l = layout d in
    let place = has_place l x y n is in
    let kept = keeps_found d x y n is in
    let here = has_at (buffered l) n l.bounds (across l x) (down l y) place.there place.has in
    record {
      pen =
          λ old.
          ap (λ t. if t then pen_in (buffered l) (buffers_of d) (across l x) (down l y) else old) here ∙
          (found_pen d x y n ok is ∙ ap (λ t. pen_over old (if t then Some (pen_at (live_view d).layer.bits x y) else None)) (sym kept));
      there = here ∙ sym kept;
    }

pixel_in_row : (d : LiveDraft) (x : ℤ) (y : ℕ) → IsLiveDraft d → IsOrdered d.bounds → AreDivided d.bounds d.parts.visible (hidden_of d.bounds d.parts.visible) → y < (layout d).height → IsPixel d x (pos y)
pixel_in_row d (negsuc x) y ok ordered divided low =
    pixel_off d (negsuc x) (pos y) (off_buffered d (negsuc x) (down (layout d) y) ok ordered divided (inl (omega (arith, ints)))) refl
pixel_in_row d (pos x) y ok ordered divided low =
    ⊎_elim
    (λ (left : x < (layout d).width). pixel_in_bits d x y (buffer_at (layout d) x y) refl ok ordered divided left low)
    (λ (past : (layout d).width ≤ x). pixel_off d (pos x) (pos y) (off_buffered d (pos x) (down (layout d) y) ok ordered divided (inr (omega (arith, ints)))) (column_off d x y past))
    (cases_lt x (layout d).width)

pub pixel_is : (d : LiveDraft) (x y : ℤ) → IsLiveDraft d → IsOrdered d.bounds → AreDivided d.bounds d.parts.visible (hidden_of d.bounds d.parts.visible) → IsPixel d x y
pixel_is d x (negsuc y) ok ordered divided =
    pixel_off d x (negsuc y) (off_buffered_rows d (across_at (layout d) x) (negsuc y) ok ordered divided (inl (omega (arith, ints)))) (rows_off d x (negsuc y) (λ v is. absurd (omega (arith, ints))))
pixel_is d x (pos y) ok ordered divided =
    ⊎_elim
    (λ (low : y < (layout d).height). pixel_in_row d x y ok ordered divided low)
    (λ (past : (layout d).height ≤ y). pixel_off d x (pos y) (off_buffered_rows d (across_at (layout d) x) (pos y) ok ordered divided (inr (omega (arith, ints)))) (rows_off d x (pos y) (λ v is. omega (arith, ints))))
    (cases_lt y (layout d).height)

-- the plane's bit of its pen
none_or_zero : (t : Bool) (pen : ℕ) → (t ≡ false → pen ≡ 0) → pen ≡ (if t then pen else 0)
none_or_zero true pen none = refl
none_or_zero false pen none = none refl

bit_over_zero : (plane : ℕ) (pen : Option ℕ) → bit_at (pen_over 0 pen) plane ≡ bit_in plane pen
bit_over_zero plane None = bit_at-zero plane
bit_over_zero plane (Some pen) = refl

pixel_bit : (d : LiveDraft) (plane : ℕ) (x y : ℤ) → IsPixel d x y → bit_at (pen_in (buffered (layout d)) (buffers_of d) (across_at (layout d) x) (down_at (layout d) y)) plane ≡ kept_bit (live_view d) plane x y
unfolding kept_bit
pixel_bit d plane x y is =
    let l = layout d in
    let u : ℤ = across_at l x in
    let v : ℤ = down_at l y in
    ap (λ p. bit_at p plane) (none_or_zero (covers (buffered l) u v) (pen_in (buffered l) (buffers_of d) u v) (pen_none (buffered l) (buffers_of d) u v) ∙ is.pen 0) ∙
    bit_over_zero plane (kept_pen (live_view d) x y)

-- further right along the row
pub further_across : (l : Layout) (x : ℤ) (i : ℕ) → across_at l x +ℤ pos i ≡ across_at l (x +ℤ pos i)
further_across l x i = omega (arith, ints)

-- the places of the buffers are the pixels of the layer
pub row_of_places : (d : LiveDraft) (plane : ℕ) (x y : ℤ) (row n : ℕ) (bits kept : List ℕ) → y ≡ pos row → IsLiveDraft d → IsOrdered d.bounds → AreDivided d.bounds d.parts.visible (hidden_of d.bounds d.parts.visible) → HasPlaces (buffered (layout d)) (buffers_of d) plane (across_at (layout d) x) (down (layout d) row) n bits kept → IsRowOf (live_view d) plane x y n bits kept
row_of_places d plane x y row n bits kept is ok ordered divided has =
    let l = layout d in
    let P : ℤ → Type 0 = λ z. IsRowOf (live_view d) plane x z n bits kept in
    subst P (sym is)
    (record {
      pens =
          λ i below.
          has.pens i below ∙ (ap (λ z. bit_at (pen_in (buffered l) (buffers_of d) z (down l row)) plane) (further_across l x i) ∙ pixel_bit d plane (x +ℤ pos i) (pos row) (pixel_is d (x +ℤ pos i) (pos row) ok ordered divided));
      there =
          λ i below.
          has.there i below ∙ (ap (λ z. bit_of (covers (buffered l) z (down l row))) (further_across l x i) ∙ ap (λ w. bit_of w) (pixel_is d (x +ℤ pos i) (pos row) ok ordered divided).there);
    })

-- a row that the layer hasn't, and one that begins right of it
clear_row : (c : LiveView) (plane : ℕ) (x y : ℤ) (n : ℕ) (bits kept : List ℕ) → ((i : ℕ) → i < n → holds_at (λ u v. keeps c u v) (x +ℤ pos i) y ≡ false) → AreClear bits kept → IsRowOf c plane x y n bits kept
clear_row c plane x y n bits kept off clear = record {
  pens = λ i below. clear.pens i ∙ sym (kept_no c plane (x +ℤ pos i) y (off i below));
  there = λ i below. clear.there i ∙ ap (λ w. bit_of w) (sym (off i below));
}

pub clear_off_rows : (d : LiveDraft) (plane : ℕ) (x y : ℤ) (n : ℕ) (bits kept : List ℕ) → ((v : ℕ) → y ≡ pos v → (layout d).height ≤ v) → AreClear bits kept → IsRowOf (live_view d) plane x y n bits kept
clear_off_rows d plane x y n bits kept off clear = clear_row (live_view d) plane x y n bits kept (λ i below. rows_off d (x +ℤ pos i) y off) clear

past_columns : (x : ℤ) (i u w : ℕ) → pos 2048 ≤ℤ x → w ≤ 2048 → x +ℤ pos i ≡ pos u → w ≤ u
past_columns x i u w past fits is = omega (arith, ints)

pub clear_off_columns : (d : LiveDraft) (plane : ℕ) (x y : ℤ) (n : ℕ) (bits kept : List ℕ) → pos 2048 ≤ℤ x → IsLiveDraft d → AreClear bits kept → IsRowOf (live_view d) plane x y n bits kept
clear_off_columns d plane x y n bits kept past ok clear =
    clear_row (live_view d) plane x y n bits kept (λ i below. columns_off d (x +ℤ pos i) y (λ u is. past_columns x i u (layout d).width past ok.place.sizes.columns.1 is)) clear
