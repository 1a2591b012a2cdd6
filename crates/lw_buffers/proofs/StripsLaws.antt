-- Strips that are laid or copied one after the other, from the last to the first.
use Rattle.std.proofs.Common.{◌≡◌, ℕ, ◌<◌, ◌≤◌, true, if◌then◌else◌, List, ◌∷◌, [], length, drop, get_or, ℤ, ap, sym, subst, ◌∙◌, arith}
use Rattle.std.specs.Int.{bit_at}
use Rattle.std.specs.List.{All}
use Rattle.std.proofs.lemmas.Int.{ints}
use Rattle.std.proofs.lemmas.List.Elements.{All-get_or}
use Rattle.std.proofs.lemmas.List.{drop_all}
use Rattle.lw_region.specs.Rectangle.{Rectangle, has_pixel}
use Rattle.lw_region.specs.Bands.{covers}
use Rattle.lw_region.proofs.Canonical.{covers_nil, covers_cons}
use Rattle.lw_planes.specs.Bitmap.{Bitmap, IsBitmap}
use Rattle.lw_strips.specs.Strips.{StripView, IsStrip, rects_of, planes_of}
use Rattle.lw_strips.specs.Strips as strips
use Rattle.lw_strips.proofs.LayingLaws.{pen_in_nil, pen_in_cons}
use Rattle.lw_strips.specs.Laying.{laid}
use Rattle.lw_buffers.specs.Lookup.{IsBufferOf, pen_from, pen_in, with_buffers}
use Rattle.lw_buffers.proofs.LookupLaws.{bit_over, kept_over, over_cons, kept_step}
use Rattle.lw_buffers.proofs.LaidLaws.{laid_nothing, laid_cons}

-- a strip's bitmap is of its rectangle's size
pub strip_sized : (s : StripView) → IsStrip s → IsBufferOf s.rect s.planes
strip_sized s ok = record { columns = omega (arith, ints, ok.size.columns, ok.ordered.columns); rows = omega (arith, ints, ok.size.rows, ok.ordered.rows) }

-- what holds of all strips holds of one that is read out of the list
pub strip_solid : (strips : List StripView) (k : ℕ) (s : StripView) → All (λ (q : StripView). q.solid ≡ true) strips → k < length strips → s ≡ get_or strips k s → s.solid ≡ true
strip_solid strips k s all inside at =
    let P : StripView → Type 0 = λ q. q.solid ≡ true in
    subst P (sym at) (All-get_or P strips k s inside all)

pub strip_has : (strips : List StripView) (plane k : ℕ) (s : StripView) → All (λ (q : StripView). plane < q.planes.depth) strips → k < length strips → s ≡ get_or strips k s → plane < s.planes.depth
strip_has strips plane k s all inside at =
    let P : StripView → Type 0 = λ q. plane < q.planes.depth in
    subst P (sym at) (All-get_or P strips k s inside all)

pub strip_deep : (strips : List StripView) (rects : List Rectangle) (bs : List Bitmap) (left top : ℤ) (to was : Bitmap) (k : ℕ) (s : StripView) → was ≡ with_buffers rects bs left top to
    → All (λ (q : StripView). q.planes.depth ≡ to.depth) strips → k < length strips → s ≡ get_or strips k s → s.planes.depth ≡ was.depth
strip_deep strips rects bs left top to was k s is all inside at =
    let P : StripView → Type 0 = λ q. q.planes.depth ≡ to.depth in
    subst P (sym at) (All-get_or P strips k s inside all) ∙ sym (ap (λ (q : Bitmap). q.depth) is)

-- no strip is laid
pub strips_none : (strips : List StripView) (n : ℕ) (left top : ℤ) (to : Bitmap) → IsBitmap to → length strips ≤ n
    → to ≡ with_buffers (rects_of (drop n strips)) (planes_of (drop n strips)) left top to
strips_none strips n left top to ok past =
    laid_nothing [] left top to ok ∙ ap (λ q. with_buffers (rects_of q) (planes_of q) left top to) (sym (drop_all n strips past))

-- one strip more, in front of the others
pub strips_more : (strips : List StripView) (k next : ℕ) (s : StripView) (left top : ℤ) (to was new : Bitmap) → drop k strips ≡ s ∷ drop next strips
    → was ≡ with_buffers (rects_of (drop next strips)) (planes_of (drop next strips)) left top to
    → new ≡ laid (λ x y. has_pixel s.rect x y) (λ x y. pen_from s.rect s.planes x y) left top was
    → new ≡ with_buffers (rects_of (drop k strips)) (planes_of (drop k strips)) left top to
strips_more strips k next s left top to was new first before is =
    is ∙ (ap (laid (λ x y. has_pixel s.rect x y) (λ x y. pen_from s.rect s.planes x y) left top) before
    ∙ (laid_cons s.rect (rects_of (drop next strips)) s.planes (planes_of (drop next strips)) left top to
    ∙ ap (λ q. with_buffers (rects_of q) (planes_of q) left top to) (sym first)))

-- the same of the bits of a row
pub over_no_strip : (strips : List StripView) (x y : ℤ) (new old n : ℕ) → length strips ≤ n → old ≡ (if covers (rects_of (drop n strips)) x y then new else old)
over_no_strip strips x y new old n past =
    sym (ap (λ q. if covers (rects_of q) x y then new else old) (drop_all n strips past) ∙ ap (λ w. if w then new else old) (covers_nil x y))

pub over_strips : (strips : List StripView) (k next plane : ℕ) (x y : ℤ) (s : StripView) (new mid old : ℕ) → drop k strips ≡ s ∷ drop next strips
    → new ≡ (if has_pixel s.rect x y then bit_at (pen_from s.rect s.planes x y) plane else mid)
    → mid ≡ bit_over (rects_of (drop next strips)) (planes_of (drop next strips)) plane x y old
    → new ≡ bit_over (rects_of (drop k strips)) (planes_of (drop k strips)) plane x y old
over_strips strips k next plane x y s new mid old first is before =
    is ∙ (ap (λ w. if has_pixel s.rect x y then bit_at (pen_from s.rect s.planes x y) plane else w) before
    ∙ (sym (over_cons s.rect (rects_of (drop next strips)) s.planes (planes_of (drop next strips)) plane x y old)
    ∙ ap (λ q. bit_over (rects_of q) (planes_of q) plane x y old) (sym first)))

-- and of the places
pub kept_strips : (strips : List StripView) (k next : ℕ) (x y : ℤ) (s : StripView) (new mid old : ℕ) → drop k strips ≡ s ∷ drop next strips
    → new ≡ (if has_pixel s.rect x y then 1 else mid) → mid ≡ kept_over (rects_of (drop next strips)) x y old
    → new ≡ kept_over (rects_of (drop k strips)) x y old
kept_strips strips k next x y s new mid old first is before =
    let rest = rects_of (drop next strips) in
    is ∙ (ap (λ w. if has_pixel s.rect x y then 1 else w) before
    ∙ (sym (ap (λ w. if w then 1 else old) (covers_cons s.rect rest x y) ∙ kept_step (has_pixel s.rect x y) (covers rest x y) old)
    ∙ ap (λ q. kept_over (rects_of q) x y old) (sym first)))

-- the pen of a place among strips is that among their rectangles and bitmaps
pub strip_pens : (all : List StripView) (x y : ℤ) → strips.pen_in all x y ≡ pen_in (rects_of all) (planes_of all) x y
unfolding pen_in
strip_pens [] x y = pen_in_nil x y
strip_pens (s ∷ rest) x y = pen_in_cons s rest x y ∙ ap (λ p. if has_pixel s.rect x y then pen_from s.rect s.planes x y else p) (strip_pens rest x y)
