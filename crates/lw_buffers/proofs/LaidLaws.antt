-- The pixels of a list of rectangles with a bitmap each, laid on another bitmap.
use Rattle.std.proofs.Common.{◌≡◌, ℕ, ◌<◌, ◌≤◌, false, if◌then◌else◌, List, [], ◌∷◌, ◌++◌, length, drop, get_or, ◌∙◌, sym, ap, subst, arith, ℤ, pos, ◌+ℤ◌, ◌-ℤ◌}
use Rattle.std.specs.List.{All}
use Rattle.std.proofs.lemmas.Int.{ints}
use Rattle.std.proofs.lemmas.List.{drop_all}
use Rattle.std.proofs.lemmas.List.Elements.{All-get_or}
use Rattle.lw_region.specs.Rectangle.{Rectangle, has_pixel, IsOrdered}
use Rattle.lw_region.specs.Bands.{covers}
use Rattle.lw_region.proofs.Canonical.{covers_nil, covers_cons, covers_append}
use Rattle.lw_planes.specs.Bitmap.{Bitmap, IsBitmap, pen_at}
use Rattle.lw_planes.proofs.BitmapLaws.{pen_at_bitmap, bitmap_from_pens, bitmap_same}
use Rattle.lw_planes.proofs.ChosenLaws.{first_choice}
use Rattle.lw_strips.specs.Blocks.{with_bitmap}
use Rattle.lw_strips.specs.Strips.{IsSizeOf}
use Rattle.lw_strips.proofs.OverlapLaws.{bitmap_laid}
use Rattle.lw_strips.specs.Laying.{laid}
use Rattle.lw_buffers.specs.Lookup.{IsBufferOf, AreBuffers, pen_from, pen_in, with_buffers}
use Rattle.lw_buffers.proofs.LookupLaws.{pen_in_append}

-- a rectangle's bitmap laid on one that begins at a place
size_of : (r : Rectangle) (b : Bitmap) → IsBufferOf r b → IsSizeOf r b
size_of r b size = record { columns = omega (arith, ints, size.columns); rows = omega (arith, ints, size.rows) }

pub buffer_laid : (r : Rectangle) (left top x y : ℤ) (to b : Bitmap) → x ≡ r.min_x -ℤ left → y ≡ r.min_y -ℤ top → IsOrdered r → IsBufferOf r b
    → with_bitmap x y b to ≡ laid (λ u v. has_pixel r u v) (λ u v. pen_from r b u v) left top to
buffer_laid r left top x y to b across down ordered size =
    let window : Rectangle = record { min_x = left; min_y = top; max_x = left; max_y = top } in
    bitmap_laid window r x y to b across down ordered (size_of r b size)

-- nothing is laid where there is no rectangle
pub laid_none : (rects : List Rectangle) (buffers : List Bitmap) (n : ℕ) (left top : ℤ) (to : Bitmap) → IsBitmap to
    → length rects ≤ n → to ≡ with_buffers (drop n rects) (drop n buffers) left top to
laid_none rects buffers n left top to ok past =
    bitmap_from_pens to _ ok
    (λ x y _ _.
    let u : ℤ = left +ℤ pos x in
    let v : ℤ = top +ℤ pos y in
    let free : covers (drop n rects) u v ≡ false = ap (λ rs. covers rs u v) (drop_all n rects past) ∙ covers_nil u v in
    sym (ap (λ t. if t then pen_in (drop n rects) (drop n buffers) u v else pen_at to x y) free))

pub laid_nothing : (buffers : List Bitmap) (left top : ℤ) (to : Bitmap) → IsBitmap to → to ≡ with_buffers [] buffers left top to
laid_nothing buffers left top to ok =
    bitmap_from_pens to _ ok
    (λ x y _ _.
    let u : ℤ = left +ℤ pos x in
    let v : ℤ = top +ℤ pos y in
    sym (ap (λ t. if t then pen_in [] buffers u v else pen_at to x y) (covers_nil u v)))

-- one rectangle more, in front of the others
pub laid_cons : (r : Rectangle) (rs : List Rectangle) (b : Bitmap) (bs : List Bitmap) (left top : ℤ) (to : Bitmap)
    → laid (λ x y. has_pixel r x y) (λ x y. pen_from r b x y) left top (with_buffers rs bs left top to) ≡ with_buffers (r ∷ rs) (b ∷ bs) left top to
unfolding pen_in
laid_cons r rs b bs left top to =
    bitmap_same to.width to.height to.depth _ _
    (λ x y in_width in_height.
    let u : ℤ = left +ℤ pos x in
    let v : ℤ = top +ℤ pos y in
    ap (λ p. if has_pixel r u v then pen_from r b u v else p) (pen_at_bitmap to.width to.height to.depth _ x y in_width in_height)
    ∙ (first_choice (has_pixel r u v) (covers rs u v) (pen_from r b u v) (pen_in rs bs u v) (pen_at to x y)
    ∙ sym (ap (λ t. if t then pen_in (r ∷ rs) (b ∷ bs) u v else pen_at to x y) (covers_cons r rs u v))))

pub laid_more : (rects : List Rectangle) (buffers : List Bitmap) (k next : ℕ) (r : Rectangle) (b : Bitmap) (left top : ℤ) (to was new : Bitmap)
    → drop k rects ≡ r ∷ drop next rects → drop k buffers ≡ b ∷ drop next buffers
    → was ≡ with_buffers (drop next rects) (drop next buffers) left top to
    → new ≡ laid (λ x y. has_pixel r x y) (λ x y. pen_from r b x y) left top was
    → new ≡ with_buffers (drop k rects) (drop k buffers) left top to
laid_more rects buffers k next r b left top to was new first second before is =
    is ∙ (ap (laid (λ x y. has_pixel r x y) (λ x y. pen_from r b x y) left top) before
    ∙ (laid_cons r (drop next rects) b (drop next buffers) left top to
    ∙ (ap (λ rs. with_buffers rs (b ∷ drop next buffers) left top to) (sym first) ∙ ap (λ bs. with_buffers (drop k rects) bs left top to) (sym second))))

-- one rectangle alone
pub laid_one : (r : Rectangle) (b : Bitmap) (left top : ℤ) (to : Bitmap) → IsBitmap to
    → laid (λ x y. has_pixel r x y) (λ x y. pen_from r b x y) left top to ≡ with_buffers (r ∷ []) (b ∷ []) left top to
laid_one r b left top to ok = ap (laid (λ x y. has_pixel r x y) (λ x y. pen_from r b x y) left top) (laid_nothing [] left top to ok) ∙ laid_cons r [] b [] left top to

-- the rectangles of one list laid over those of another
pub laid_over : (rs ss : List Rectangle) (bs cs : List Bitmap) (left top : ℤ) (to : Bitmap) → length bs ≡ length rs
    → with_buffers rs bs left top (with_buffers ss cs left top to) ≡ with_buffers (rs ++ ss) (bs ++ cs) left top to
laid_over rs ss bs cs left top to many =
    bitmap_same to.width to.height to.depth _ _
    (λ x y in_width in_height.
    let u : ℤ = left +ℤ pos x in
    let v : ℤ = top +ℤ pos y in
    ap (λ p. if covers rs u v then pen_in rs bs u v else p) (pen_at_bitmap to.width to.height to.depth _ x y in_width in_height)
    ∙ (first_choice (covers rs u v) (covers ss u v) (pen_in rs bs u v) (pen_in ss cs u v) (pen_at to x y)
    ∙ (ap (λ t. if t then (if covers rs u v then pen_in rs bs u v else pen_in ss cs u v) else pen_at to x y) (sym (covers_append rs ss u v))
    ∙ ap (λ p. if covers (rs ++ ss) u v then p else pen_at to x y) (sym (pen_in_append rs ss bs cs u v many)))))

-- the bitmap keeps its planes
pub laid_deep : (rects : List Rectangle) (bs buffers : List Bitmap) (left top : ℤ) (to was b : Bitmap) (k : ℕ) → was ≡ with_buffers rects bs left top to
    → All (λ (q : Bitmap). q.depth ≡ to.depth) buffers → k < length buffers → b ≡ get_or buffers k b → b.depth ≡ was.depth
laid_deep rects bs buffers left top to was b k is all inside at =
    let P : Bitmap → Type 0 = λ q. q.depth ≡ to.depth in
    subst P (sym at) (All-get_or P buffers k b inside all) ∙ sym (ap (λ (q : Bitmap). q.depth) is)

-- a rectangle and its buffer, read out of the lists
pub sized_at : (rects : List Rectangle) (buffers : List Bitmap) (k : ℕ) (r : Rectangle) (b : Bitmap) → AreBuffers rects buffers → k < length rects → r ≡ get_or rects k r → b ≡ get_or buffers k b → IsBufferOf r b
sized_at rects buffers k r b are inside first second =
    let P : Rectangle → Type 0 = λ q. IsBufferOf q (get_or buffers k b) in
    let Q : Bitmap → Type 0 = λ q. IsBufferOf r q in
    subst Q (sym second) (subst P (sym first) (are.sizes k r b inside))
