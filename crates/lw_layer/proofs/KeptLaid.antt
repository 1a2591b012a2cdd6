-- The pens that a layer keeps, laid on a bitmap.
use Rattle.std.proofs.Common.{◌≡◌, ℕ, ◌+◌, ◌<◌, ◌≤◌, true, ◌||◌, if◌then◌else◌, List, [], ◌∷◌, ◌++◌, length, refl, Some, None, ◌∙◌, sym, ap, subst, arith, ℤ, pos, negsuc, ◌+ℤ◌, ◌-ℤ◌, ◌≤ℤ◌, unsigned_abs, append-nil, length-append}
use Rattle.std.proofs.lemmas.Int.{ints}
use Rattle.std.proofs.lemmas.List.{nil_from_length}
use Rattle.lw_region.specs.Rectangle.{Rectangle, IsOrdered}
use Rattle.lw_region.specs.Bands.{covers}
use Rattle.lw_planes.specs.Bitmap.{Bitmap, IsBitmap, pen_at}
use Rattle.lw_planes.proofs.BitmapLaws.{bitmap_same}
use Rattle.lw_strips.specs.Strips.{rects_of}
use Rattle.lw_strips.specs.Blocks.{with_bitmap}
use Rattle.lw_buffers.specs.Lookup.{IsBufferOf, pen_in, with_buffers}
use Rattle.lw_buffers.proofs.LaidLaws.{buffer_laid, laid_nothing, laid_one, laid_over}
use Rattle.lw_calls.specs.declared.make.Kind.{Kind}
use Rattle.lw_calls.specs.declared.make.Kind.TheVariants.{Simple, Smart, SuperBitmap}
use Rattle.lw_cliprects.specs.Parts.{hidden_of, AreDivided}
use Rattle.lw_layer.specs.Pieces.{buffered, rest_as, rest_of, whole_of}
use Rattle.lw_layer.specs.Drafts.{IsLiveDraft, layout, visible_planes, buffers_of, own_list, live_view, width_of, height_of}
use Rattle.lw_layer.specs.Copied.{across_at, down_at, rest_buffers, pen_over, pen_shown, with_kept, HaveShown}
use Rattle.lw_layer.specs.declared.draft.LiveDraft.{LiveDraft}
use Rattle.lw_layer.proofs.BufferLaws.{planes_many, planes_shown, own_buffer, buffer_is}
use Rattle.lw_layer.proofs.CopyingLaws.{pixel_is}
use Rattle.lw_layer.proofs.SoundLaws.{visible_inside}
use Rattle.lw_layer.specs.View.{keeps}
use Rattle.lw_machine.specs.Screen.{distance}
use Rattle.lw_region.proofs.Canonical.{covers_append}
use Rattle.lw_region.proofs.Within.{within_low}
use Rattle.lw_buffers.proofs.LookupLaws.{pen_in_append}
use Rattle.lw_buffers.proofs.StripsLaws.{strip_pens}
use Rattle.std.proofs.lemmas.Bool.{and_parts}
use Rattle.lw_layer.proofs.CopyingBuffers.{shown_deep, smart_rest, super_rest}

-- further along a row or a column
further : (low place : ℤ) (scroll i : ℕ) → ((low +ℤ place) -ℤ pos scroll) +ℤ pos i ≡ (low +ℤ (place +ℤ pos i)) -ℤ pos scroll
further low place scroll i = omega (arith, ints)

-- All buffers laid on a bitmap are the pens that the layer keeps.
pub kept_laid : (d : LiveDraft) (x y : ℤ) (to : Bitmap) → IsLiveDraft d → IsOrdered d.bounds → AreDivided d.bounds d.parts.visible (hidden_of d.bounds d.parts.visible)
    → with_buffers (buffered (layout d)) (buffers_of d) (across_at (layout d) x) (down_at (layout d) y) to ≡ with_kept (live_view d) x y to
kept_laid d x y to ok ordered divided =
    let l = layout d in
    bitmap_same to.width to.height to.depth _ _
    (λ i j _ _.
    let pen : ℤ → ℤ → ℕ = λ u v. if covers (buffered l) u v then pen_in (buffered l) (buffers_of d) u v else pen_at to i j in
    ap (λ u. pen u (down_at l y +ℤ pos j)) (further d.bounds.min_x x l.scroll_x i) ∙
    (ap (λ v. pen (across_at l (x +ℤ pos i)) v) (further d.bounds.min_y y l.scroll_y j) ∙
    (pixel_is d (x +ℤ pos i) (y +ℤ pos j) ok ordered divided).pen (pen_at to i j)))

-- what a layer has beside its visible rectangles: nothing
pub simple_laid : (d : LiveDraft) (left top : ℤ) (to : Bitmap) → d.kind ≡ Simple → IsBitmap to → to ≡ with_buffers (rest_of (layout d)) (rest_buffers d) left top to
simple_laid d left top to simple ok =
    let P : Kind → Type 0 = λ q. to ≡ with_buffers (rest_as q (hidden_of d.bounds d.parts.visible) (whole_of (layout d))) (rest_buffers d) left top to in
    subst P (sym simple) (laid_nothing (rest_buffers d) left top to ok)

-- its hidden rectangles
pub smart_laid : (d : LiveDraft) (left top : ℤ) (to new : Bitmap) → d.kind ≡ Smart → IsLiveDraft d → new ≡ with_buffers (hidden_of d.bounds d.parts.visible) d.covered.items left top to → new ≡ with_buffers (rest_of (layout d)) (rest_buffers d) left top to
smart_laid d left top to new smart ok is =
    let hidden = hidden_of d.bounds d.parts.visible in
    let rest = smart_rest d.kind (length hidden) (length d.covered.items) d.superbits smart ok.buffers.rest in
    let buffers : rest_buffers d ≡ d.covered.items = ap (λ o. d.covered.items ++ own_list o) rest.1 ∙ append-nil d.covered.items in
    let P : Kind → Type 0 = λ q. new ≡ with_buffers (rest_as q hidden (whole_of (layout d))) (rest_buffers d) left top to in
    let Q : List Bitmap → Type 0 = λ bs. new ≡ with_buffers hidden bs left top to in
    subst P (sym smart) (subst Q (sym buffers) is)

-- its own bitmap
whole_ordered : (least : ℤ) (scroll n : ℕ) → 1 ≤ n → (least -ℤ pos scroll) ≤ℤ (((least -ℤ pos scroll) +ℤ pos n) -ℤ pos 1)
whole_ordered least scroll n some = omega (arith, ints)

whole_size : (low : ℤ) (n m : ℕ) → n ≡ m → low +ℤ pos m ≡ ((low +ℤ pos n) -ℤ pos 1) +ℤ pos 1
whole_size low n m is = omega (arith, ints)

pub own_laid : (d : LiveDraft) (own : Bitmap) (left top x y : ℤ) (to new : Bitmap) → d.kind ≡ SuperBitmap → d.superbits ≡ Some own → IsLiveDraft d → IsBitmap to → x ≡ (whole_of (layout d)).min_x -ℤ left → y ≡ (whole_of (layout d)).min_y -ℤ top → new ≡ with_bitmap x y own to
    → new ≡ with_buffers (rest_of (layout d)) (rest_buffers d) left top to
own_laid d own left top x y to new super is ok sound across down made =
    let l = layout d in
    let hidden = hidden_of d.bounds d.parts.visible in
    let none = nil_from_length d.covered.items (super_rest d.kind (length hidden) (length d.covered.items) d.superbits super ok.buffers.rest) in
    let buffers : rest_buffers d ≡ own ∷ [] = ap (λ q. q ++ own_list d.superbits) none ∙ ap (λ o. own_list o) is in
    let wide : l.width ≡ own.width = ap (λ o. width_of o d.bounds) is in
    let high : l.height ≡ own.height = ap (λ o. height_of o d.bounds) is in
    let ordered : IsOrdered (whole_of l) = record { columns = whole_ordered d.bounds.min_x l.scroll_x l.width ok.place.sizes.columns.0; rows = whole_ordered d.bounds.min_y l.scroll_y l.height ok.place.sizes.rows.0 } in
    let size : IsBufferOf (whole_of l) own = record { columns = whole_size (whole_of l).min_x l.width own.width wide; rows = whole_size (whole_of l).min_y l.height own.height high } in
    let one : new ≡ with_buffers (whole_of l ∷ []) (own ∷ []) left top to = made ∙ (buffer_laid (whole_of l) left top x y to own across down ordered size ∙ laid_one (whole_of l) own left top to sound) in
    let P : Kind → Type 0 = λ q. new ≡ with_buffers (rest_as q hidden (whole_of l)) (rest_buffers d) left top to in
    let Q : List Bitmap → Type 0 = λ bs. new ≡ with_buffers (whole_of l ∷ []) bs left top to in
    subst P (sym super) (subst Q (sym buffers) one)

-- the visible rectangles laid over the others are all of them
pub all_laid : (d : LiveDraft) (left top : ℤ) (to was new : Bitmap) → IsLiveDraft d → was ≡ with_buffers (rest_of (layout d)) (rest_buffers d) left top to → new ≡ with_buffers (rects_of d.strips.items) (visible_planes d) left top was
    → new ≡ with_buffers (buffered (layout d)) (buffers_of d) left top to
all_laid d left top to was new ok before is =
    is ∙ (ap (λ rs. with_buffers rs (visible_planes d) left top was) ok.buffers.shown ∙ (ap (with_buffers d.parts.visible (visible_planes d) left top) before ∙ laid_over d.parts.visible (rest_of (layout d)) (visible_planes d) (rest_buffers d) left top to (planes_shown d ok)))

-- the bitmap keeps its planes
pub laid_planes : (rects : List Rectangle) (bs : List Bitmap) (left top : ℤ) (to was : Bitmap) → was ≡ with_buffers rects bs left top to → was.depth ≡ to.depth
laid_planes rects bs left top to was is = ap (λ (q : Bitmap). q.depth) is

-- the layer's places
start_is : (z low place : ℤ) (scroll : ℤ) → pos 0 ≤ℤ scroll → z ≡ (low +ℤ place) -ℤ scroll → z ≡ (low +ℤ place) -ℤ pos (unsigned_abs scroll)
start_is z low place (pos n) from is = is
start_is z low place (negsuc n) from is = absurd (omega (arith, ints))

pub left_is : (d : LiveDraft) (z x : ℤ) → IsLiveDraft d → z ≡ (d.bounds.min_x +ℤ x) -ℤ d.scroll_x → z ≡ across_at (layout d) x
left_is d z x ok is = start_is z d.bounds.min_x x d.scroll_x ok.place.scroll_x is

pub top_is : (d : LiveDraft) (z y : ℤ) → IsLiveDraft d → z ≡ (d.bounds.min_y +ℤ y) -ℤ d.scroll_y → z ≡ down_at (layout d) y
top_is d z y ok is = start_is z d.bounds.min_y y d.scroll_y ok.place.scroll_y is

pub corner_is : (low z by : ℤ) (scroll : ℤ) → pos 0 ≤ℤ scroll → z ≡ (low +ℤ pos 0) -ℤ scroll → z -ℤ by ≡ (low -ℤ pos (unsigned_abs scroll)) -ℤ by
corner_is low z by (pos n) from is = omega (arith, ints)
corner_is low z by (negsuc n) from is = absurd (omega (arith, ints))

-- an own bitmap has the layer's planes
pub own_deep : (d : LiveDraft) (own : Bitmap) → d.kind ≡ SuperBitmap → d.superbits ≡ Some own → IsLiveDraft d → own.depth ≡ d.depth
own_deep d own super is ok =
    let hidden = hidden_of d.bounds d.parts.visible in
    let n : ℕ = length d.parts.visible in
    let none = super_rest d.kind (length hidden) (length d.covered.items) d.superbits super ok.buffers.rest in
    let list : buffered (layout d) ≡ d.parts.visible ++ (whole_of (layout d) ∷ []) = ap (λ q. d.parts.visible ++ rest_as q hidden (whole_of (layout d))) super in
    let long : length (buffered (layout d)) ≡ n + 1 = ap (λ rs. length rs) list ∙ length-append d.parts.visible (whole_of (layout d) ∷ []) in
    let inside : n < length (buffered (layout d)) = omega arith in
    let last = own_buffer d n ok inside (omega (arith, planes_shown d ok, planes_many d)) (omega (arith, none)) in
    let same : Some last.own ≡ Some own = sym last.is ∙ is in
    let bitmap_is : last.own ≡ own = cc same in
    ap (λ (b : Bitmap). b.depth) (sym bitmap_is) ∙ (buffer_is d n last.own ok inside last.at).planes

-- the layer's pixel that lies on a place of the screen
shown_place : (low : ℤ) (scroll x : ℕ) → low ≤ℤ pos x → (low +ℤ pos (distance low (pos x) + scroll)) -ℤ pos scroll ≡ pos x
shown_place low scroll x from = omega (arith, ints)

-- the pen that the first visible rectangle has there is its pen
visible_pen : (d : LiveDraft) (x y : ℕ) → IsLiveDraft d → IsOrdered d.bounds → AreDivided d.bounds d.parts.visible (hidden_of d.bounds d.parts.visible) → covers d.parts.visible (pos x) (pos y) ≡ true
    → pen_in d.parts.visible (visible_planes d) (pos x) (pos y) ≡ pen_shown (live_view d) x y
visible_pen d x y ok ordered divided shown =
    let l = layout d in
    let c = live_view d in
    let inside = and_parts _ _ (visible_inside d.bounds d.parts.visible (hidden_of d.bounds d.parts.visible) divided (pos x) (pos y) shown) in
    let i : ℕ = distance d.bounds.min_x (pos x) + l.scroll_x in
    let j : ℕ = distance d.bounds.min_y (pos y) + l.scroll_y in
    let column : across_at l (pos i) ≡ pos x = shown_place d.bounds.min_x l.scroll_x x (within_low _ _ _ inside.0) in
    let line : down_at l (pos j) ≡ pos y = shown_place d.bounds.min_y l.scroll_y y (within_low _ _ _ inside.1) in
    let pixel = pixel_is d (pos i) (pos j) ok ordered divided in
    let all : covers (buffered l) (pos x) (pos y) ≡ true = covers_append l.visible (rest_of l) (pos x) (pos y) ∙ ap (λ t. t || covers (rest_of l) (pos x) (pos y)) shown in
    let here : covers (buffered l) (across_at l (pos i)) (down_at l (pos j)) ≡ true = rw (column, line) all in
    let kept : keeps c i j ≡ true = sym pixel.there ∙ here in
    let pen : pen_in (buffered l) (buffers_of d) (pos x) (pos y) ≡ pen_in d.parts.visible (visible_planes d) (pos x) (pos y) =
    pen_in_append d.parts.visible (rest_of l) (visible_planes d) (rest_buffers d) (pos x) (pos y) (planes_shown d ok) ∙
    ap (λ t. if t then pen_in d.parts.visible (visible_planes d) (pos x) (pos y) else pen_in (rest_of l) (rest_buffers d) (pos x) (pos y)) shown
    in
    let there = pen_in (buffered l) (buffers_of d) (across_at l (pos i)) (down_at l (pos j)) in
    sym pen ∙
    (ap (λ u. pen_in (buffered l) (buffers_of d) u (pos y)) (sym column) ∙
    (ap (λ v. pen_in (buffered l) (buffers_of d) (across_at l (pos i)) v) (sym line) ∙
    (ap (λ t. if t then there else 0) (sym here) ∙
    (pixel.pen 0 ∙ ap (λ t. pen_over 0 (if t then Some (pen_at c.layer.bits i j) else None)) kept))))

-- The strips have the pens that the layer shows.
pub shown_pens : (d : LiveDraft) → IsLiveDraft d → IsOrdered d.bounds → AreDivided d.bounds d.parts.visible (hidden_of d.bounds d.parts.visible) → HaveShown (live_view d) d.strips.items
shown_pens d ok ordered divided = record {
  solid = ok.buffers.solid;
  planes = shown_deep d d.depth ok refl;
  pens =
      λ x y shown.
      strip_pens d.strips.items (pos x) (pos y) ∙ (ap (λ rs. pen_in rs (visible_planes d) (pos x) (pos y)) ok.buffers.shown ∙ visible_pen d x y ok ordered divided shown);
}
