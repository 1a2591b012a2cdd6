-- The bits of a super-bitmap layer are its own bitmap with the pens of its visible rectangles.
use Rattle.std.proofs.Common.{◌≡◌, ℕ, ◌+◌, ◌<◌, ◌≤◌, true, if◌then◌else◌, List, [], ◌∷◌, ◌++◌, length, get_or, Option, Some, None, ◌∙◌, sym, refl, ap, subst, arith, ℤ, pos, negsuc, ◌+ℤ◌, ◌-ℤ◌, ◌≤ℤ◌, unsigned_abs, length-append, FitsSigned, w16, w32, to_z, of_z}
use Rattle.std.specs.List.{All, slice_index_or}
use Rattle.lw_strips.specs.Strips.{StripView, rects_of, planes_of}
use Rattle.std.specs.Int.Signed.{≤ℤ_refl}
use Rattle.std.proofs.lemmas.Int.{ints}
use Rattle.std.proofs.lemmas.List.{get_or_append_left, get_or_default, get_or_at, get_or-map, nil_from_length}
use Rattle.std.proofs.lemmas.Bool.{and_parts, and_from}
use Rattle.lw_region.specs.Rectangle.{Rectangle, has_pixel}
use Rattle.lw_region.specs.Bands.{covers}
use Rattle.lw_region.specs.Banded.{IsCanonical}
use Rattle.lw_region.specs.Order.{natural}
use Rattle.lw_region.proofs.Canonical.{covers_nil, covers_cons}
use Rattle.lw_region.proofs.Within.{within_true, within_low, within_high}
use Rattle.lw_planes.specs.Bitmap.{Bitmap, bitmap, pen_at}
use Rattle.lw_planes.proofs.BitmapLaws.{bitmap_same}
use Rattle.lw_planes.proofs.ChosenLaws.{first_choice}
use Rattle.lw_buffers.specs.Lookup.{pen_from, pen_in, with_buffers}
use Rattle.lw_calls.specs.Kinds.{is_super}
use Rattle.lw_calls.specs.declared.make.Kind.{Kind}
use Rattle.lw_calls.specs.declared.make.Kind.TheVariants.{Simple, Smart, SuperBitmap}
use Rattle.lw_cliprects.specs.Parts.{hidden_of, LieIn, AreDivided}
use Rattle.lw_layer.specs.Pieces.{buffered, buffer_rectangle, rest_as, rest_of, whole_of, across, down, found_in, buffer_at, column_in, line_in}
use Rattle.lw_layer.specs.Drafts as drafts
use Rattle.lw_layer.specs.Drafts.{IsLiveDraft, IsBuffer, IsRest, layout, visible_planes, buffers_of, no_bitmap, live_view}
use Rattle.lw_layer.specs.declared.draft.LiveDraft.{LiveDraft}
use Rattle.lw_layer.proofs.BufferLaws.{planes_many, planes_shown, as_many_buffers, shown_buffer}
use Rattle.lw_layer.proofs.CopyingBuffers.{shown_deep}
use Rattle.lw_buffers.proofs.LookupLaws.{pen_in_first}
use Rattle.lw_layer.proofs.KeptLaws.{left_of_pixel, above_pixel}
use Rattle.lw_layer.proofs.NewLaws.{lies_at}
use Rattle.lw_layer.proofs.OrderedLists.{canonical_ordered}
use Rattle.lw_layer.proofs.FoundLaws.{in_bits_found, whole_has}
use Rattle.lw_layer.proofs.Positions.{none_passes}
use Rattle.lw_layer.proofs.ViewLaws.{has_place}
use Rattle.lw_layer.proofs.CopyingLaws.{natural_distance, not_below}
use Rattle.lw_layer.proofs.SoundLaws.{visible_inside}
use Rattle.lw_super.specs.Shown.{IsShown, AreShown, AreShownStrips, left_of, top_of}

pub super_is : (kind : Kind) → is_super kind ≡ true → kind ≡ SuperBitmap
super_is Simple is = absurd (cc is)
super_is Smart is = absurd (cc is)
super_is SuperBitmap is = refl

-- what a super-bitmap layer has beside its visible rectangles
pub super_rest : (kind : Kind) (hidden covered : ℕ) (own : Option Bitmap) → kind ≡ SuperBitmap → IsRest kind hidden covered own
    → (covered ≡ 0) × (b : Bitmap) × (own ≡ Some b)
super_rest Simple hidden covered own is rest = absurd (cc is)
super_rest Smart hidden covered own is rest = absurd (cc is)
super_rest SuperBitmap hidden covered own is rest = rest

-- a scroll as a number
pub scroll_is : (z : ℤ) → pos 0 ≤ℤ z → z ≡ pos (unsigned_abs z)
scroll_is (pos n) low = refl
scroll_is (negsuc n) low = absurd (omega (arith, ints))

-- the draft of a super-bitmap layer with this own bitmap
abbrev pub with_own : LiveDraft → Bitmap → LiveDraft
with_own d own = record d { superbits = Some own }

-- its buffers and pieces
pub super_buffers : (d : LiveDraft) (own : Bitmap) → d.kind ≡ SuperBitmap → IsLiveDraft (with_own d own)
    → buffers_of (with_own d own) ≡ visible_planes d ++ (own ∷ [])
super_buffers d own super ok =
    let none = nil_from_length d.covered.items (super_rest d.kind _ _ _ super ok.buffers.rest).0 in
    ap (λ q. visible_planes d ++ (q ++ (own ∷ []))) none

pub super_pieces : (d : LiveDraft) (own : Bitmap) → d.kind ≡ SuperBitmap
    → buffered (layout (with_own d own)) ≡ d.parts.visible ++ (whole_of (layout (with_own d own)) ∷ [])
super_pieces d own super = ap (λ q. d.parts.visible ++ rest_as q (hidden_of d.bounds d.parts.visible) (whole_of (layout (with_own d own)))) super

-- the own bitmap has the layer's planes
own_depth : (d : LiveDraft) (own : Bitmap) → d.kind ≡ SuperBitmap → IsLiveDraft (with_own d own)
    → IsBuffer d.depth (whole_of (layout (with_own d own))) own
own_depth d own super ok =
    let q = with_own d own in
    let n : ℕ = length d.parts.visible in
    let whole : buffer_rectangle (layout q) n ≡ whole_of (layout q) = ap (λ rs. get_or rs n d.bounds) (super_pieces d own super) ∙ get_or_at d.parts.visible (whole_of (layout q)) [] d.bounds n refl in
    let bits : slice_index_or (buffers_of q) n no_bitmap ≡ own = ap (λ bs. get_or bs n no_bitmap) (super_buffers d own super ok) ∙ get_or_at (visible_planes d) own [] no_bitmap n (planes_shown q ok) in
    let long : length (buffered (layout q)) ≡ n + 1 = ap (λ rs. length rs) (super_pieces d own super) ∙ length-append d.parts.visible (whole_of (layout q) ∷ []) in
    let P : Rectangle → Type 0 = λ r. IsBuffer d.depth r own in
    let Q : Bitmap → Type 0 = λ b. IsBuffer d.depth (buffer_rectangle (layout q) n) b in
    subst P whole (subst Q bits (ok.buffers.sized.each n (omega arith)))

-- the pens of a list, and where it has none that of one more rectangle
pen_in_last : (rs : List Rectangle) (bs : List Bitmap) (r : Rectangle) (b : Bitmap) (x y : ℤ) → length bs ≡ length rs
    → has_pixel r x y ≡ true
    → pen_in (rs ++ (r ∷ [])) (bs ++ (b ∷ [])) x y ≡ (if covers rs x y then pen_in rs bs x y else pen_from r b x y)
unfolding pen_in
pen_in_last [] [] r b x y many has = ap (λ t. if t then pen_from r b x y else 0) has ∙ sym (ap (λ t. if t then 0 else pen_from r b x y) (covers_nil x y))
pen_in_last [] (c ∷ bs) r b x y many has = absurd (omega arith)
pen_in_last (s ∷ rs) [] r b x y many has = absurd (omega arith)
pen_in_last (s ∷ rs) (c ∷ bs) r b x y many has =
    ap (λ p. if has_pixel s x y then pen_from s c x y else p) (pen_in_last rs bs r b x y (omega arith) has)
    ∙ (first_choice (has_pixel s x y) (covers rs x y) (pen_from s c x y) (pen_in rs bs x y) (pen_from r b x y)
    ∙ sym (ap (λ t. if t then pen_in (s ∷ rs) (c ∷ bs) x y else pen_from r b x y) (covers_cons s rs x y)))

-- the pen of a pixel that a piece has
found_pen : (q : LiveDraft) (x y n : ℕ) → IsLiveDraft q → buffer_at (layout q) x y ≡ Some n
    → drafts.pen_from (buffers_of q) (layout q) (Some n) x y ≡ pen_in (buffered (layout q)) (buffers_of q) (across (layout q) x) (down (layout q) y)
found_pen q x y n ok found =
    let l = layout q in
    let place = has_place l x y n found in
    let b = get_or (buffers_of q) n no_bitmap in
    let r = buffer_rectangle l n in
    let column : natural (across l x -ℤ r.min_x) ≡ column_in l n x = natural_distance (across l x -ℤ r.min_x) (not_below r.min_x (across l x) (left_of_pixel l x y n place)) in
    let line : natural (down l y -ℤ r.min_y) ≡ line_in l n y = natural_distance (down l y -ℤ r.min_y) (not_below r.min_y (down l y) (above_pixel l x y n place)) in
    sym (pen_in_first (buffered l) (buffers_of q) n l.bounds no_bitmap (across l x) (down l y) place.there (as_many_buffers q ok) place.has place.first
    ∙ (ap (λ i. pen_at b i (natural (down l y -ℤ r.min_y))) column ∙ ap (λ j. pen_at b (column_in l n x) j) line))

-- all pixels of the bits have a piece
has_whole : (d : LiveDraft) (own : Bitmap) (x y : ℕ) → d.kind ≡ SuperBitmap → x < own.width → y < own.height
    → buffer_at (layout (with_own d own)) x y ≡ None → ⊥
has_whole d own x y super left low missing =
    let l = layout (with_own d own) in
    let n : ℕ = length d.parts.visible in
    let nowhere : found_in l (buffered l) x y ≡ None = sym (in_bits_found l x y left low) ∙ missing in
    let whole : buffer_rectangle l n ≡ whole_of l = ap (λ rs. get_or rs n d.bounds) (super_pieces d own super) ∙ get_or_at d.parts.visible (whole_of l) [] d.bounds n refl in
    let long : length (buffered l) ≡ n + 1 = ap (λ rs. length rs) (super_pieces d own super) ∙ length-append d.parts.visible (whole_of l ∷ []) in
    let hasnt = none_passes (λ r. has_pixel r (across l x) (down l y)) (buffered l) n l.bounds nowhere (omega arith) in
    let has : has_pixel (buffer_rectangle l n) (across l x) (down l y) ≡ true = ap (λ r. has_pixel r (across l x) (down l y)) whole ∙ whole_has l x y left low in
    absurd (cc (sym has ∙ hasnt))

natural_step : (edge : ℤ) (scroll x : ℕ) → natural (((edge +ℤ pos x) -ℤ pos scroll) -ℤ (edge -ℤ pos scroll)) ≡ x
natural_step edge scroll x = let is : ((edge +ℤ pos x) -ℤ pos scroll) -ℤ (edge -ℤ pos scroll) ≡ pos x = omega (arith, ints) in ap natural is

place_is : (edge scroll : ℤ) (x : ℕ) → pos 0 ≤ℤ scroll → (edge +ℤ pos x) -ℤ pos (unsigned_abs scroll) ≡ (edge -ℤ scroll) +ℤ pos x
place_is edge scroll x low = let is = scroll_is scroll low in omega (arith, ints)

-- the pen of a pixel of the bits: that of the first visible rectangle that has it, and else that of the own bitmap
pixel_pen : (d : LiveDraft) (own : Bitmap) (x y : ℕ) (found : Option ℕ) → d.kind ≡ SuperBitmap → IsLiveDraft (with_own d own)
    → x < own.width → y < own.height → buffer_at (layout (with_own d own)) x y ≡ found
    → drafts.pen_from (buffers_of (with_own d own)) (layout (with_own d own)) found x y
    ≡ (if covers d.parts.visible (left_of d +ℤ pos x) (top_of d +ℤ pos y) then pen_in d.parts.visible (visible_planes d) (left_of d +ℤ pos x) (top_of d +ℤ pos y) else pen_at own x y)
pixel_pen d own x y None super ok left low is = absurd (has_whole d own x y super left low is)
pixel_pen d own x y (Some n) super ok left low is =
    let l = layout (with_own d own) in
    let u = across l x in
    let v = down l y in
    let F : ℤ → ℤ → ℕ = λ a b. if covers d.parts.visible a b then pen_in d.parts.visible (visible_planes d) a b else pen_at own x y in
    found_pen (with_own d own) x y n ok is
    ∙ (ap (λ rs. pen_in rs (buffers_of (with_own d own)) u v) (super_pieces d own super)
    ∙ (ap (λ bs. pen_in (d.parts.visible ++ (whole_of l ∷ [])) bs u v) (super_buffers d own super ok)
    ∙ (pen_in_last d.parts.visible (visible_planes d) (whole_of l) own u v (planes_shown (with_own d own) ok) (whole_has l x y left low)
    ∙ (ap (λ i. if covers d.parts.visible u v then pen_in d.parts.visible (visible_planes d) u v else pen_at own i (natural (v -ℤ (whole_of l).min_y))) (natural_step d.bounds.min_x l.scroll_x x)
    ∙ (ap (λ j. if covers d.parts.visible u v then pen_in d.parts.visible (visible_planes d) u v else pen_at own x j) (natural_step d.bounds.min_y l.scroll_y y)
    ∙ (ap (λ a. F a v) (place_is d.bounds.min_x d.scroll_x x ok.place.scroll_x) ∙ ap (λ b. F (left_of d +ℤ pos x) b) (place_is d.bounds.min_y d.scroll_y y ok.place.scroll_y)))))))

-- the bits of a super-bitmap layer
pub super_bits : (d : LiveDraft) (own : Bitmap) → d.kind ≡ SuperBitmap → IsLiveDraft (with_own d own)
    → (live_view (with_own d own)).layer.bits ≡ with_buffers d.parts.visible (visible_planes d) (left_of d) (top_of d) own
super_bits d own super ok =
    bitmap_same own.width own.height d.depth _ _ (λ x y left low. pixel_pen d own x y (buffer_at (layout (with_own d own)) x y) super ok left low refl)
    ∙ ap (λ n. bitmap own.width own.height n (λ x y. if covers d.parts.visible (left_of d +ℤ pos x) (top_of d +ℤ pos y) then pen_in d.parts.visible (visible_planes d) (left_of d +ℤ pos x) (top_of d +ℤ pos y) else pen_at own x y)) (sym (own_depth d own super ok).planes)

-- the edges of a rectangle in the bounds lie on the bitmap
edge_low : (bound scroll r : ℤ) → pos 0 ≤ℤ scroll → bound ≤ℤ r → (bound -ℤ scroll) ≤ℤ r
edge_low bound scroll r low inside = omega (arith, ints)

edge_high : (low high scroll r : ℤ) (w : ℕ) → pos 0 ≤ℤ scroll → unsigned_abs scroll + unsigned_abs ((high +ℤ pos 1) -ℤ low) ≤ w
    → r ≤ℤ high → low ≤ℤ r → (r +ℤ pos 1) ≤ℤ ((low -ℤ scroll) +ℤ pos w)
edge_high low high scroll r w start fits inside ordered = omega (arith, ints)

-- a buffer of two equal ones
pub buffer_moved : (depth other : ℕ) (r s : Rectangle) (b c : Bitmap) → depth ≡ other → r ≡ s → b ≡ c → IsBuffer depth r b
    → IsBuffer other s c
buffer_moved depth other r s b c zeroth first second is = subst (λ q. IsBuffer q s c) zeroth (subst (λ q. IsBuffer depth s q) second (subst (λ q. IsBuffer depth q b) first is))

pub shown_each : (d : LiveDraft) (own : Bitmap) (n : ℕ) (r : Rectangle) (b : Bitmap) → d.kind ≡ SuperBitmap
    → IsLiveDraft (with_own d own) → IsCanonical d.parts.visible → LieIn d.bounds d.parts.visible → n < length d.parts.visible
    → IsShown own (left_of d) (top_of d) (get_or d.parts.visible n r) (get_or (visible_planes d) n b)
shown_each d own n r b super ok canonical inside below =
    let q = with_own d own in
    let l = layout q in
    let s = get_or d.parts.visible n r in
    let ordered = canonical_ordered d.parts.visible canonical n r below in
    let lies = lies_at d.bounds d.parts.visible n r inside below in
    let first = and_parts _ _ (lies s.min_x s.min_y (and_from _ _ (within_true s.min_x s.min_x s.max_x (≤ℤ_refl s.min_x) ordered.columns) (within_true s.min_y s.min_y s.max_y (≤ℤ_refl s.min_y) ordered.rows))) in
    let last = and_parts _ _ (lies s.max_x s.max_y (and_from _ _ (within_true s.min_x s.max_x s.max_x ordered.columns (≤ℤ_refl s.max_x)) (within_true s.min_y s.max_y s.max_y ordered.rows (≤ℤ_refl s.max_y)))) in
    let long = length-append l.visible (rest_of l) in
    record {
      ordered = ordered;
      left_edge = edge_low d.bounds.min_x d.scroll_x s.min_x ok.place.scroll_x (within_low _ _ _ first.0);
      top_edge = edge_low d.bounds.min_y d.scroll_y s.min_y ok.place.scroll_y (within_low _ _ _ first.1);
      right_edge = edge_high d.bounds.min_x d.bounds.max_x d.scroll_x s.max_x own.width ok.place.scroll_x ok.place.scrolled.right (within_high _ _ _ last.0) (within_low _ _ _ last.0);
      bottom_edge = edge_high d.bounds.min_y d.bounds.max_y d.scroll_y s.max_y own.height ok.place.scroll_y ok.place.scrolled.lower (within_high _ _ _ last.1) (within_low _ _ _ last.1);
      buffer =
          buffer_moved d.depth own.depth _ _ _ _ (sym (own_depth d own super ok).planes)
          (get_or_append_left l.visible (rest_of l) l.bounds n below ∙ get_or_default l.visible n l.bounds r below)
          (shown_buffer q n (omega (arith, planes_many q, planes_shown q ok)) ∙ get_or_default (visible_planes d) n no_bitmap b (omega (arith, planes_shown q ok)))
          (ok.buffers.sized.each n (omega arith));
    }

pub are_shown : (d : LiveDraft) (own : Bitmap) (hidden : List Rectangle) → d.kind ≡ SuperBitmap → IsLiveDraft (with_own d own)
    → IsCanonical d.parts.visible → AreDivided d.parts.bounds d.parts.visible hidden
    → AreShown own (left_of d) (top_of d) d.parts.visible (visible_planes d)
are_shown d own hidden super ok canonical divided =
    let P : Rectangle → Type 0 = λ r. LieIn r d.parts.visible in
    let inside : LieIn d.bounds d.parts.visible = subst P ok.place.bounds (visible_inside d.parts.bounds d.parts.visible hidden divided) in
    record { many = planes_shown (with_own d own) ok; each = λ n r b below. shown_each d own n r b super ok canonical inside below }

-- a scroll lies in the bits
pub scroll_x_told : (d : LiveDraft) → IsLiveDraft d → (pos 0 ≤ℤ d.scroll_x) × (d.scroll_x ≤ℤ pos 2048)
scroll_x_told d ok = (ok.place.scroll_x, let fits = ok.place.scrolled.right in let small = ok.place.sizes.columns.1 in omega (arith, ints))

pub scroll_y_told : (d : LiveDraft) → IsLiveDraft d → (pos 0 ≤ℤ d.scroll_y) × (d.scroll_y ≤ℤ pos 2048)
scroll_y_told d ok = (ok.place.scroll_y, let fits = ok.place.scrolled.lower in let small = ok.place.sizes.rows.1 in omega (arith, ints))

-- where the bits begin, as the code has it
corner_told : (edge got scroll result : ℤ) → FitsSigned w16 got → got ≡ edge → (pos 0 ≤ℤ scroll) × (scroll ≤ℤ pos 2048)
    → result ≡ to_z w16 (of_z w16 got) -ℤ to_z w32 (of_z w32 scroll) → to_z w32 (of_z w32 result) ≡ edge -ℤ scroll
corner_told edge got scroll result fits is range result_is = let low = range.0 in let high = range.1 in omega (arith, ints)

pub left_told : (d : LiveDraft) (got result : ℤ) → IsLiveDraft d → FitsSigned w16 got → got ≡ d.bounds.min_x
    → result ≡ to_z w16 (of_z w16 got) -ℤ to_z w32 (of_z w32 d.scroll_x) → to_z w32 (of_z w32 result) ≡ left_of d
left_told d got result ok fits is result_is = corner_told d.bounds.min_x got d.scroll_x result fits is (scroll_x_told d ok) result_is

pub top_told : (d : LiveDraft) (got result : ℤ) → IsLiveDraft d → FitsSigned w16 got → got ≡ d.bounds.min_y
    → result ≡ to_z w16 (of_z w16 got) -ℤ to_z w32 (of_z w32 d.scroll_y) → to_z w32 (of_z w32 result) ≡ top_of d
top_told d got result ok fits is result_is = corner_told d.bounds.min_y got d.scroll_y result fits is (scroll_y_told d ok) result_is

-- the draft with its own bitmap told
pub own_told : (d : LiveDraft) (own : Bitmap) → d.superbits ≡ Some own → IsLiveDraft d → IsLiveDraft (with_own d own)
own_told d own is ok = let P : Option Bitmap → Type 0 = λ o. IsLiveDraft (record d { superbits = o }) in subst P is ok

-- the strips of a super-bitmap layer lie on its own bitmap
pub strips_shown : (d : LiveDraft) (own : Bitmap) (hidden : List Rectangle) (strips : List StripView) (left top : ℤ)
    → is_super d.kind ≡ true → d.superbits ≡ Some own → IsLiveDraft d → IsCanonical d.parts.visible
    → AreDivided d.parts.bounds d.parts.visible hidden → left ≡ left_of d → top ≡ top_of d → strips ≡ d.strips.items
    → AreShownStrips own left top strips
strips_shown d own hidden strips left top super is ok canonical divided is_left is_top is_strips =
    let all = are_shown d own hidden (super_is d.kind super) (own_told d own is ok) canonical divided in
    rw (is_left, is_top, is_strips)
    (λ k s inside.
    let below : k < length d.parts.visible = omega (arith, planes_many d, planes_shown d ok) in
    let rect : get_or d.parts.visible k s.rect ≡ (get_or d.strips.items k s).rect = sym (ap (λ rs. get_or rs k s.rect) ok.buffers.shown) ∙ get_or-map (λ (q : StripView). q.rect) d.strips.items k s s.rect inside in
    let planes : get_or (visible_planes d) k s.planes ≡ (get_or d.strips.items k s).planes = get_or-map (λ (q : StripView). q.planes) d.strips.items k s s.planes inside in
    let P : Rectangle → Type 0 = λ r. IsShown own (left_of d) (top_of d) r (get_or (visible_planes d) k s.planes) in
    let Q : Bitmap → Type 0 = λ b. IsShown own (left_of d) (top_of d) (get_or d.strips.items k s).rect b in
    (ok.buffers.solid k s inside, subst Q planes (subst P rect (all.each k s.rect s.planes below))))

-- its strips have its planes
pub strips_deep : (d : LiveDraft) (own : Bitmap) (strips : List StripView) → is_super d.kind ≡ true → d.superbits ≡ Some own → IsLiveDraft d → strips ≡ d.strips.items
    → All (λ (s : StripView). s.planes.depth ≡ own.depth) strips
strips_deep d own strips super is ok is_strips =
    let deep = (own_depth d own (super_is d.kind super) (own_told d own is ok)).planes in
    rw is_strips (shown_deep d own.depth ok deep)

pub strips_all_solid : (d : LiveDraft) (strips : List StripView) → IsLiveDraft d → strips ≡ d.strips.items → All (λ (s : StripView). s.solid ≡ true) strips
strips_all_solid d strips ok is = rw is ok.buffers.solid

-- what writing back gives, where the places and the strips are told by equations, as the code has them
pub write_gives : (d : LiveDraft) (own new : Bitmap) (strips : List StripView) (left top : ℤ)
    → is_super d.kind ≡ true → d.superbits ≡ Some own → IsLiveDraft d → left ≡ left_of d → top ≡ top_of d
    → strips ≡ d.strips.items → new ≡ with_buffers (rects_of strips) (planes_of strips) left top own
    → new ≡ (live_view d).layer.bits
write_gives d own new strips left top super is ok is_left is_top is_strips new_is =
    let P : Option Bitmap → Type 0 = λ o. (live_view (record d { superbits = o })).layer.bits ≡ with_buffers d.parts.visible (visible_planes d) (left_of d) (top_of d) own in
    let bits : P d.superbits = subst P (sym is) (super_bits d own (super_is d.kind super) (own_told d own is ok)) in
    new_is
    ∙ (ap (λ ss. with_buffers (rects_of ss) (planes_of ss) left top own) is_strips
    ∙ (ap (λ rs. with_buffers rs (visible_planes d) left top own) ok.buffers.shown
    ∙ (ap (λ z. with_buffers d.parts.visible (visible_planes d) z top own) is_left
    ∙ (ap (λ z. with_buffers d.parts.visible (visible_planes d) (left_of d) z own) is_top ∙ sym bits))))
