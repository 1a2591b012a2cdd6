-- The buffers of a draft as rows are copied out of them.
use Rattle.std.proofs.Common.{◌≡◌, ℕ, ◌+◌, ◌<◌, List, [], ◌∷◌, ◌++◌, length, get_or, Option, Some, None, ◌∙◌, sym, refl, ap, subst, arith, ℤ, pos, ◌+ℤ◌, ◌-ℤ◌, if◌then◌else◌, length-append, append-nil}
use Rattle.std.specs.Int.{bit_at}
use Rattle.std.specs.List.{All}
use Rattle.std.proofs.lemmas.Nat.Bits.{bit_at-zero}
use Rattle.std.proofs.lemmas.Int.{ints, by_lt_z}
use Rattle.std.proofs.lemmas.List.{get_or_append_left, get_or-append-add, get_or_default, nil_from_length}
use Rattle.lw_region.specs.Rectangle.{Rectangle, within, has_pixel, IsOrdered}
use Rattle.lw_region.specs.Order.{natural}
use Rattle.lw_region.specs.Bands.{covers}
use Rattle.lw_region.specs.Banded.{IsCanonical}
use Rattle.lw_region.proofs.Within.{within_true, within_below, within_above}
use Rattle.lw_region.proofs.Canonical.{covers_nil}
use Rattle.lw_region.proofs.SetOps.{canonical_bands, covers_one}
use Rattle.lw_planes.specs.Row.{bit_of}
use Rattle.lw_planes.specs.Bitmap.{Bitmap, pen_at}
use Rattle.lw_strips.specs.Strips.{StripView}
use Rattle.lw_buffers.specs.Lookup.{IsBufferOf, AreBuffers, pen_from, pen_in}
use Rattle.lw_calls.specs.declared.make.Kind.{Kind}
use Rattle.lw_calls.specs.declared.make.Kind.TheVariants.{Simple, Smart, SuperBitmap}
use Rattle.lw_cliprects.specs.Parts.{hidden_of}
use Rattle.lw_layer.specs.Pieces.{Layout, buffered, rest_as, rest_of, whole_of, down}
use Rattle.lw_layer.specs.Drafts.{IsLiveDraft, IsBuffer, IsRest, layout, width_of, height_of, own_list, no_bitmap}
use Rattle.lw_layer.specs.Copied.{HasPlaces, AreClear, across_at, rest_buffers, area_of}
use Rattle.lw_layer.specs.declared.draft.LiveDraft.{LiveDraft}
use Rattle.lw_layer.proofs.BufferLaws.{planes_many, planes_shown, strip_buffer, covered_buffer}
use Rattle.lw_layer.proofs.OrderedLists.{canonical_ordered}
use Rattle.lw_layer.proofs.CopyingLaws.{further_across}

-- a buffer of a rectangle's size
sized : (depth : ℕ) (r : Rectangle) (b : Bitmap) → IsOrdered r → IsBuffer depth r b → IsBufferOf r b
sized depth r b ordered is = record { columns = omega (arith, ints, is.width, ordered.columns); rows = omega (arith, ints, is.height, ordered.rows) }

-- a buffer of two equal ones
buffer_moved : (depth : ℕ) (r s : Rectangle) (b c : Bitmap) → r ≡ s → b ≡ c → IsBuffer depth r b → IsBuffer depth s c
buffer_moved depth r s b c first second is = subst (λ q. IsBuffer depth s q) second (subst (λ q. IsBuffer depth q b) first is)

-- the strips of the visible rectangles
shown_each : (d : LiveDraft) (k : ℕ) (s : StripView) → IsLiveDraft d → k < length d.strips.items → IsBuffer d.depth (get_or d.parts.visible k d.bounds) (get_or d.strips.items k s).planes
shown_each d k s ok inside =
    let l = layout d in
    let long = length-append l.visible (rest_of l) in
    let shown : k < length l.visible = omega (arith, planes_shown d ok, planes_many d) in
    buffer_moved d.depth _ _ _ _
    (get_or_append_left l.visible (rest_of l) l.bounds k shown)
    (strip_buffer d k s inside)
    (ok.buffers.sized.each k (omega arith))

pub shown_planes : (d : LiveDraft) (plane : ℕ) → IsLiveDraft d → plane < d.depth → All (λ (s : StripView). plane < s.planes.depth) d.strips.items
shown_planes d plane ok deep = λ k s inside. let is = shown_each d k s ok inside in omega (arith, is.planes)

pub shown_deep : (d : LiveDraft) (depth : ℕ) → IsLiveDraft d → depth ≡ d.depth → All (λ (s : StripView). s.planes.depth ≡ depth) d.strips.items
shown_deep d depth ok is = λ k s inside. (shown_each d k s ok inside).planes ∙ sym is

-- what a smart layer has beside its visible rectangles
pub smart_rest : (kind : Kind) (hidden covered : ℕ) (own : Option Bitmap) → kind ≡ Smart → IsRest kind hidden covered own → (covered ≡ hidden) × (own ≡ None)
smart_rest Simple hidden covered own is rest = absurd (cc is)
smart_rest Smart hidden covered own is rest = rest
smart_rest SuperBitmap hidden covered own is rest = absurd (cc is)

-- the buffers of the hidden rectangles
covered_each : (d : LiveDraft) (k : ℕ) (r : Rectangle) (b : Bitmap) → d.kind ≡ Smart → IsLiveDraft d → k < length d.covered.items → IsBuffer d.depth (get_or (hidden_of d.bounds d.parts.visible) k r) (get_or d.covered.items k b)
covered_each d k r b smart ok inside =
    let l = layout d in
    let hidden = hidden_of d.bounds d.parts.visible in
    let rest = smart_rest d.kind (length hidden) (length d.covered.items) d.superbits smart ok.buffers.rest in
    let all : buffered l ≡ l.visible ++ hidden = ap (λ q. l.visible ++ rest_as q hidden (whole_of l)) smart in
    let long : length (buffered l) ≡ length l.visible + length hidden = ap (λ q. length q) all ∙ length-append l.visible hidden in
    let covered : k < length hidden = omega (arith, rest.0) in
    let n : ℕ = length l.visible + k in
    buffer_moved d.depth _ _ _ _
    (ap (λ q. get_or q n l.bounds) all ∙ (get_or-append-add l.visible hidden k l.bounds ∙ get_or_default hidden k l.bounds r covered))
    (covered_buffer d n k (omega (arith, planes_shown d ok, planes_many d)) (omega (arith, planes_shown d ok, planes_many d)) inside ∙ get_or_default d.covered.items k no_bitmap b inside)
    (ok.buffers.sized.each n (omega arith))

hidden_canonical : (d : LiveDraft) → IsCanonical (hidden_of d.bounds d.parts.visible)
unfolding hidden_of
hidden_canonical d = canonical_bands _

pub covered_buffers : (d : LiveDraft) → d.kind ≡ Smart → IsLiveDraft d → AreBuffers (hidden_of d.bounds d.parts.visible) d.covered.items
covered_buffers d smart ok =
    let hidden = hidden_of d.bounds d.parts.visible in
    let rest = smart_rest d.kind (length hidden) (length d.covered.items) d.superbits smart ok.buffers.rest in
    record {
      as_many = rest.0;
      sizes = λ k r b inside. sized d.depth _ _ (canonical_ordered hidden (hidden_canonical d) k r inside) (covered_each d k r b smart ok (omega (arith, rest.0)));
    }

pub covered_planes : (d : LiveDraft) (plane : ℕ) → d.kind ≡ Smart → IsLiveDraft d → plane < d.depth → All (λ (b : Bitmap). plane < b.depth) d.covered.items
covered_planes d plane smart ok deep = λ k b inside. let is = covered_each d k d.bounds b smart ok inside in omega (arith, is.planes)

pub covered_deep : (d : LiveDraft) (depth : ℕ) → d.kind ≡ Smart → IsLiveDraft d → depth ≡ d.depth → All (λ (b : Bitmap). b.depth ≡ depth) d.covered.items
covered_deep d depth smart ok is = λ k b inside. (covered_each d k d.bounds b smart ok inside).planes ∙ sym is

-- places that no rectangle has
places_nowhere : (bs : List Bitmap) (plane : ℕ) (x y : ℤ) (n : ℕ) (bits kept : List ℕ) → AreClear bits kept → HasPlaces [] bs plane x y n bits kept
unfolding pen_in
places_nowhere bs plane x y n bits kept clear = record {
  pens = λ i below. clear.pens i ∙ sym (bit_at-zero plane);
  there = λ i below. clear.there i ∙ ap (λ w. bit_of w) (sym (covers_nil (x +ℤ pos i) y));
}

-- a simple layer has nothing beside its visible rectangles
pub simple_places : (d : LiveDraft) (plane : ℕ) (x y : ℤ) (n : ℕ) (bits kept : List ℕ) → d.kind ≡ Simple → AreClear bits kept → HasPlaces (rest_of (layout d)) (rest_buffers d) plane x y n bits kept
simple_places d plane x y n bits kept simple clear =
    let P : Kind → Type 0 = λ q. HasPlaces (rest_as q (hidden_of d.bounds d.parts.visible) (whole_of (layout d))) (rest_buffers d) plane x y n bits kept in
    subst P (sym simple) (places_nowhere (rest_buffers d) plane x y n bits kept clear)

-- a smart layer has its hidden rectangles
pub smart_places : (d : LiveDraft) (plane : ℕ) (x y : ℤ) (n : ℕ) (bits kept : List ℕ) → d.kind ≡ Smart → IsLiveDraft d → HasPlaces (hidden_of d.bounds d.parts.visible) d.covered.items plane x y n bits kept → HasPlaces (rest_of (layout d)) (rest_buffers d) plane x y n bits kept
smart_places d plane x y n bits kept smart ok has =
    let hidden = hidden_of d.bounds d.parts.visible in
    let rest = smart_rest d.kind (length hidden) (length d.covered.items) d.superbits smart ok.buffers.rest in
    let buffers : rest_buffers d ≡ d.covered.items = ap (λ o. d.covered.items ++ own_list o) rest.1 ∙ append-nil d.covered.items in
    let P : Kind → Type 0 = λ q. HasPlaces (rest_as q hidden (whole_of (layout d))) (rest_buffers d) plane x y n bits kept in
    let Q : List Bitmap → Type 0 = λ bs. HasPlaces hidden bs plane x y n bits kept in
    subst P (sym smart) (subst Q (sym buffers) has)

-- what a super-bitmap layer has beside its visible rectangles
pub super_rest : (kind : Kind) (hidden covered : ℕ) (own : Option Bitmap) → kind ≡ SuperBitmap → IsRest kind hidden covered own → covered ≡ 0
super_rest Simple hidden covered own is rest = absurd (cc is)
super_rest Smart hidden covered own is rest = absurd (cc is)
super_rest SuperBitmap hidden covered own is rest = rest.0

-- a place of a bitmap, and the same place where the bitmap lies elsewhere
within_moved : (least z : ℤ) (scroll w : ℕ) → within (pos 0) z (pos w -ℤ pos 1) ≡ within (least -ℤ pos scroll) ((least +ℤ z) -ℤ pos scroll) (((least -ℤ pos scroll) +ℤ pos w) -ℤ pos 1)
within_moved least z scroll w =
    let low : ℤ = least -ℤ pos scroll in
    let place : ℤ = (least +ℤ z) -ℤ pos scroll in
    let high : ℤ = (low +ℤ pos w) -ℤ pos 1 in
    by_lt_z z (pos 0)
    (λ before. within_below (pos 0) z (pos w -ℤ pos 1) before ∙ sym (within_below low place high (omega (arith, ints))))
    (λ from.
    by_lt_z z (pos w)
    (λ upto. within_true (pos 0) z (pos w -ℤ pos 1) from (omega (arith, ints)) ∙ sym (within_true low place high (omega (arith, ints)) (omega (arith, ints))))
    (λ past. within_above (pos 0) z (pos w -ℤ pos 1) (omega (arith, ints)) ∙ sym (within_above low place high (omega (arith, ints)))))

step_moved : (least z : ℤ) (scroll : ℕ) → natural (z -ℤ pos 0) ≡ natural (((least +ℤ z) -ℤ pos scroll) -ℤ (least -ℤ pos scroll))
step_moved least z scroll = let same : z -ℤ pos 0 ≡ ((least +ℤ z) -ℤ pos scroll) -ℤ (least -ℤ pos scroll) = omega (arith, ints) in ap natural same

-- the pen of one rectangle's bitmap
pen_alone : (r : Rectangle) (b : Bitmap) (x y : ℤ) → pen_in (r ∷ []) (b ∷ []) x y ≡ (if has_pixel r x y then pen_from r b x y else 0)
unfolding pen_in
pen_alone r b x y = refl

area_moved : (l : Layout) (b : Bitmap) (z : ℤ) (y : ℕ) → l.width ≡ b.width → l.height ≡ b.height → has_pixel (area_of b) z (pos y) ≡ has_pixel (whole_of l) (across_at l z) (down l y)
area_moved l b z y wide high = rw (sym wide, sym high, within_moved l.bounds.min_x z l.scroll_x l.width, within_moved l.bounds.min_y (pos y) l.scroll_y l.height) refl

pen_moved : (l : Layout) (b : Bitmap) (z : ℤ) (y : ℕ) → pen_from (area_of b) b z (pos y) ≡ pen_from (whole_of l) b (across_at l z) (down l y)
pen_moved l b z y =
    ap (λ i. pen_at b i (natural (pos y -ℤ pos 0))) (step_moved l.bounds.min_x z l.scroll_x) ∙
    ap (λ j. pen_at b (natural (across_at l z -ℤ (whole_of l).min_x)) j) (step_moved l.bounds.min_y (pos y) l.scroll_y)

places_moved : (l : Layout) (b : Bitmap) (plane : ℕ) (x : ℤ) (y n : ℕ) (bits kept : List ℕ) → l.width ≡ b.width → l.height ≡ b.height → HasPlaces (area_of b ∷ []) (b ∷ []) plane x (pos y) n bits kept → HasPlaces (whole_of l ∷ []) (b ∷ []) plane (across_at l x) (down l y) n bits kept
places_moved l b plane x y n bits kept wide high has = record {
  pens =
      λ i below.
      let z : ℤ = x +ℤ pos i in
      let same : pen_in (area_of b ∷ []) (b ∷ []) z (pos y) ≡ pen_in (whole_of l ∷ []) (b ∷ []) (across_at l z) (down l y) =
      pen_alone (area_of b) b z (pos y) ∙
      (ap (λ w. if w then pen_from (area_of b) b z (pos y) else 0) (area_moved l b z y wide high) ∙
      (ap (λ p. if has_pixel (whole_of l) (across_at l z) (down l y) then p else 0) (pen_moved l b z y) ∙ sym (pen_alone (whole_of l) b (across_at l z) (down l y))))
      in
      has.pens i below ∙ (ap (λ p. bit_at p plane) same ∙ ap (λ q. bit_at (pen_in (whole_of l ∷ []) (b ∷ []) q (down l y)) plane) (sym (further_across l x i)));
  there =
      λ i below.
      let z : ℤ = x +ℤ pos i in
      let same : covers (area_of b ∷ []) z (pos y) ≡ covers (whole_of l ∷ []) (across_at l z) (down l y) =
      covers_one (area_of b) z (pos y) ∙ (area_moved l b z y wide high ∙ sym (covers_one (whole_of l) (across_at l z) (down l y)))
      in
      has.there i below ∙ (ap (λ w. bit_of w) same ∙ ap (λ q. bit_of (covers (whole_of l ∷ []) q (down l y))) (sym (further_across l x i)));
}

-- a super-bitmap layer has its own bitmap
pub own_places : (d : LiveDraft) (own : Bitmap) (plane : ℕ) (x : ℤ) (y n : ℕ) (bits kept : List ℕ) → d.kind ≡ SuperBitmap → d.superbits ≡ Some own → IsLiveDraft d → HasPlaces (area_of own ∷ []) (own ∷ []) plane x (pos y) n bits kept
    → HasPlaces (rest_of (layout d)) (rest_buffers d) plane (across_at (layout d) x) (down (layout d) y) n bits kept
own_places d own plane x y n bits kept super is ok has =
    let l = layout d in
    let hidden = hidden_of d.bounds d.parts.visible in
    let none = nil_from_length d.covered.items (super_rest d.kind (length hidden) (length d.covered.items) d.superbits super ok.buffers.rest) in
    let buffers : rest_buffers d ≡ own ∷ [] = ap (λ q. q ++ own_list d.superbits) none ∙ ap (λ o. own_list o) is in
    let moved = places_moved l own plane x y n bits kept (ap (λ o. width_of o d.bounds) is) (ap (λ o. height_of o d.bounds) is) has in
    let P : Kind → Type 0 = λ q. HasPlaces (rest_as q hidden (whole_of l)) (rest_buffers d) plane (across_at l x) (down l y) n bits kept in
    let Q : List Bitmap → Type 0 = λ bs. HasPlaces (whole_of l ∷ []) bs plane (across_at l x) (down l y) n bits kept in
    subst P (sym super) (subst Q (sym buffers) moved)
