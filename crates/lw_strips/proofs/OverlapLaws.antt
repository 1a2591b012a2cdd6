-- What a bitmap has of an area of columns and rows, as a block of the bitmap.
use Rattle.std.proofs.Common.{◌≡◌, ℕ, ◌+◌, ◌-◌, ◌<◌, ◌≤◌, Bool, true, false, ◌&&◌, if◌then◌else◌, inl, inr, ◌∙◌, sym, refl, ap, arith, ℤ, pos, ◌+ℤ◌, ◌-ℤ◌, ◌≤ℤ◌, ◌<ℤ◌, unsigned_abs}
use Rattle.std.specs.Prelude.{int_le}
use Rattle.std.specs.Int.{int_max, int_min}
use Rattle.std.proofs.lemmas.Bool.{and_parts, and_left, and_right, cases_lt}
use Rattle.std.proofs.lemmas.Bool.Decides.{nat_tests}
use Rattle.std.proofs.lemmas.Int.{ints, clamps}
use Rattle.lw_region.specs.Rectangle.{Rectangle, within, has_pixel, IsOrdered, width, height}
use Rattle.lw_region.specs.Order.{natural}
use Rattle.lw_region.proofs.Within.{within_true, within_below}
use Rattle.lw_planes.specs.Bitmap.{Bitmap, IsBitmap, bitmap, pen_at}
use Rattle.lw_planes.proofs.BitmapLaws.{pen_at_bitmap, bitmap_from_pens, bitmap_same}
use Rattle.lw_planes.proofs.GridLaws.{grid_past_column, grid_past_row}
use Rattle.lw_kernels.specs.Kernel.{is_named}
use Rattle.lw_strips.specs.Blocks.{IsBlockOf, IsBlockIn, in_block, block_pen, with_block, without_block, area_at, with_bitmap, without_area}
use Rattle.lw_strips.specs.Overlap.{AreCommon, IsOff, IsOverlap, AreOff}
use Rattle.lw_strips.specs.Strips.{StripView, IsSizeOf, IsStrip, blank_planes}
use Rattle.lw_strips.specs.Laying.{with_planes, with_strip}
use Rattle.lw_strips.specs.declared.block.Block.{Block}

-- along one axis, places that begin behind the end
pub off_behind : (place : ℤ) (m n : ℕ) → pos n ≤ℤ place → IsOff place m n
off_behind place m n behind i below = within_below place (pos i) _ (omega (arith, ints))

-- and places that end before they begin
pub off_before : (place begin end : ℤ) (m n : ℕ) → begin ≡ int_max place (pos 0) → end ≡ int_min (place +ℤ pos m) (pos n) → end ≤ℤ begin → place <ℤ pos n → IsOff place m n
unfolding within
off_before place begin end m n is_begin is_end none before i below = grind (arith, ints, clamps)

-- the places that both have
named_common : (place begin end : ℤ) (m n at count i : ℕ) → begin ≡ int_max place (pos 0) → end ≡ int_min (place +ℤ pos m) (pos n) → begin <ℤ end → pos at ≡ begin → pos count ≡ end -ℤ begin → i < n
    → is_named at count i ≡ within place (pos i) ((place +ℤ pos m) -ℤ pos 1)
unfolding within
named_common place begin end m n at count i is_begin is_end some is_at is_count below = grind (arith, nat_tests, ints, clamps)

ends_inside : (begin end last : ℤ) (n at count : ℕ) → end ≡ int_min last (pos n) → pos at ≡ begin → pos count ≡ end -ℤ begin → at + count ≤ n
ends_inside begin end last n at count is_end is_at is_count = let most : end ≤ℤ pos n = grind (arith, ints, clamps) in omega (arith, ints)

ends_source : (place begin end other : ℤ) (m source count : ℕ) → end ≡ int_min (place +ℤ pos m) other → pos source ≡ begin -ℤ place → pos count ≡ end -ℤ begin → source + count ≤ m
ends_source place begin end other m source count is_end is_source is_count = let most : end ≤ℤ (place +ℤ pos m) = grind (arith, ints, clamps) in omega (arith, ints)

pub common_part_is : (place begin end : ℤ) (m n at source count : ℕ) → begin ≡ int_max place (pos 0) → end ≡ int_min (place +ℤ pos m) (pos n) → begin <ℤ end → pos at ≡ begin → pos source ≡ begin -ℤ place → pos count ≡ end -ℤ begin
    → AreCommon place m n at source count
common_part_is place begin end m n at source count is_begin is_end some is_at is_source is_count = record {
  same = omega (arith, ints);
  inside = ends_inside begin end (place +ℤ pos m) n at count is_end is_at is_count;
  source_inside = ends_source place begin end (pos n) m source count is_end is_source is_count;
  named = λ i below. named_common place begin end m n at count i is_begin is_end some is_at is_count below;
}

-- a bitmap has nothing of an area with whose columns or rows it has none in common
pub off_columns : (x y : ℤ) (w h : ℕ) (to : Bitmap) → IsOff x w to.width → AreOff (area_at x y w h) to
off_columns x y w h to off i j left low = and_left _ _ (off i left)

pub off_rows : (x y : ℤ) (w h : ℕ) (to : Bitmap) → IsOff y h to.height → AreOff (area_at x y w h) to
off_rows x y w h to off i j left low = and_right _ _ (off j low)

-- the block lies in the bitmap, and its source in one of the area's size
pub overlap_in : (x y : ℤ) (w h : ℕ) (to : Bitmap) (k : Block) → IsOverlap x y w h to k → IsBlockIn k to
overlap_in x y w h to k is = record { right = is.columns.inside; lower = is.rows.inside }

pub overlap_of : (x y : ℤ) (w h : ℕ) (to source : Bitmap) (k : Block) → w ≡ source.width → h ≡ source.height → source.depth ≡ to.depth → IsOverlap x y w h to k → IsBlockOf k to source
overlap_of x y w h to source k wide high deep is = record {
  right = is.columns.inside;
  lower = is.rows.inside;
  source_right = rw (sym wide) is.columns.source_inside;
  source_lower = rw (sym high) is.rows.source_inside;
  planes = deep;
}

-- the block has the bitmap's pixels in the area
overlap_named : (x y : ℤ) (w h : ℕ) (to : Bitmap) (k : Block) (i j : ℕ) → IsOverlap x y w h to k → i < to.width → j < to.height → in_block k i j ≡ has_pixel (area_at x y w h) (pos i) (pos j)
overlap_named x y w h to k i j is left low =
    ap (λ t. t && is_named k.y k.height j) (is.columns.named i left) ∙ ap (λ t. within x (pos i) ((x +ℤ pos w) -ℤ pos 1) && t) (is.rows.named j low)

-- where the source has a place of the block
source_place : (place : ℤ) (at source count i : ℕ) → pos at ≡ place +ℤ pos source → is_named at count i ≡ true → source + (i - at) ≡ natural (pos i -ℤ place)
source_place place at source count i same named =
    let late : at ≤ i = grind (arith, nat_tests) in
    let is : pos i -ℤ place ≡ pos (source + (i - at)) = omega (arith, ints) in
    sym (ap natural is)

-- a choice that differs only where it isn't made
chosen_same : (t u : Bool) (a b old : ℕ) → t ≡ u → (t ≡ true → a ≡ b) → (if t then a else old) ≡ (if u then b else old)
chosen_same true u a b old is same = same refl ∙ ap (λ v. if v then b else old) is
chosen_same false u a b old is same = ap (λ v. if v then b else old) is

-- the block copied is the bitmap laid on the other one
pub overlap_laid : (x y : ℤ) (w h : ℕ) (to source : Bitmap) (k : Block) → w ≡ source.width → h ≡ source.height → IsOverlap x y w h to k → with_block k source to ≡ with_bitmap x y source to
overlap_laid x y w h to source k wide high is =
    bitmap_same to.width to.height to.depth _ _
    (λ i j left low.
    chosen_same (in_block k i j) (has_pixel (area_at x y source.width source.height) (pos i) (pos j)) (block_pen k source i j) (pen_at source (natural (pos i -ℤ x)) (natural (pos j -ℤ y))) (pen_at to i j)
    (overlap_named x y w h to k i j is left low ∙ (ap (λ n. has_pixel (area_at x y n h) (pos i) (pos j)) wide ∙ ap (λ n. has_pixel (area_at x y source.width n) (pos i) (pos j)) high))
    (λ inside.
    let halves = and_parts _ _ inside in
    let column = source_place x k.x k.source_x k.width i is.columns.same halves.0 in
    let row = source_place y k.y k.source_y k.height j is.rows.same halves.1 in
    ap (λ u. pen_at source u (k.source_y + (j - k.y))) column ∙ ap (λ v. pen_at source (natural (pos i -ℤ x)) v) row))

-- the block cleared is the bitmap without the area
pub overlap_cleared : (x y : ℤ) (w h : ℕ) (to : Bitmap) (k : Block) → IsOverlap x y w h to k → without_block k to ≡ without_area (area_at x y w h) to
overlap_cleared x y w h to k is =
    bitmap_same to.width to.height to.depth _ _
    (λ i j left low. chosen_same (in_block k i j) (has_pixel (area_at x y w h) (pos i) (pos j)) 0 0 (pen_at to i j) (overlap_named x y w h to k i j is left low) (λ _. refl))

-- where there is no block, the bitmap stays as it was
pub off_same : (area : Rectangle) (pen : ℕ → ℕ → ℕ) (to : Bitmap) → IsBitmap to → AreOff area to
    → to ≡ bitmap to.width to.height to.depth (λ i j. if has_pixel area (pos i) (pos j) then pen i j else pen_at to i j)
off_same area pen to ok off = bitmap_from_pens to _ ok (λ i j left low. sym (ap (λ t. if t then pen i j else pen_at to i j) (off i j left low)))

-- along one axis, a place of a window is in the rectangle where it is in the area that begins as far behind the window's edge
from_area : (from low by : ℤ) (i : ℕ) → by ≡ low -ℤ from → int_le by (pos i) ≡ int_le low (from +ℤ pos i)
from_area from low by i is = grind (arith, ints)

upto_moved : (from high z : ℤ) → int_le z (high -ℤ from) ≡ int_le (from +ℤ z) high
upto_moved from high z = grind (arith, ints)

upto_area : (from low high by : ℤ) (n i : ℕ) → by ≡ low -ℤ from → low ≤ℤ high → n ≡ unsigned_abs ((high +ℤ pos 1) -ℤ low) → int_le (pos i) ((by +ℤ pos n) -ℤ pos 1) ≡ int_le (from +ℤ pos i) high
upto_area from low high by n i is ordered long =
    let last : (by +ℤ pos n) -ℤ pos 1 ≡ high -ℤ from = omega (arith, ints) in
    ap (λ z. int_le (pos i) z) last ∙ upto_moved from high (pos i)

within_area : (from low high by : ℤ) (n i : ℕ) → by ≡ low -ℤ from → low ≤ℤ high → n ≡ unsigned_abs ((high +ℤ pos 1) -ℤ low) → within by (pos i) ((by +ℤ pos n) -ℤ pos 1) ≡ within low (from +ℤ pos i) high
unfolding within
within_area from low high by n i is ordered long =
    ap (λ t. t && int_le (pos i) ((by +ℤ pos n) -ℤ pos 1)) (from_area from low by i is) ∙ ap (λ t. int_le low (from +ℤ pos i) && t) (upto_area from low high by n i is ordered long)

-- so the area is the rectangle
area_is : (window r : Rectangle) (x y : ℤ) (w h i j : ℕ) → x ≡ r.min_x -ℤ window.min_x → y ≡ r.min_y -ℤ window.min_y → IsOrdered r → w ≡ width r → h ≡ height r
    → has_pixel (area_at x y w h) (pos i) (pos j) ≡ has_pixel r (window.min_x +ℤ pos i) (window.min_y +ℤ pos j)
area_is window r x y w h i j across down ordered wide high =
    ap (λ t. t && within y (pos j) ((y +ℤ pos h) -ℤ pos 1)) (within_area window.min_x r.min_x r.max_x x w i across ordered.columns wide)
    ∙ ap (λ t. within r.min_x (window.min_x +ℤ pos i) r.max_x && t) (within_area window.min_y r.min_y r.max_y y h j down ordered.rows high)

natural_moved : (from low by : ℤ) (i : ℕ) → by ≡ low -ℤ from → natural (pos i -ℤ by) ≡ natural ((from +ℤ pos i) -ℤ low)
natural_moved from low by i is = let same : pos i -ℤ by ≡ (from +ℤ pos i) -ℤ low = omega (arith, ints) in ap natural same

-- a rectangle's bitmap laid on that of a window
pub bitmap_laid : (window r : Rectangle) (x y : ℤ) (b source : Bitmap) → x ≡ r.min_x -ℤ window.min_x → y ≡ r.min_y -ℤ window.min_y → IsOrdered r → IsSizeOf r source
    → with_bitmap x y source b ≡ with_planes window r source b
bitmap_laid window r x y b source across down ordered size =
    bitmap_same b.width b.height b.depth _ _
    (λ i j _ _.
    chosen_same (has_pixel (area_at x y source.width source.height) (pos i) (pos j)) (has_pixel r (window.min_x +ℤ pos i) (window.min_y +ℤ pos j))
    (pen_at source (natural (pos i -ℤ x)) (natural (pos j -ℤ y))) (pen_at source (natural ((window.min_x +ℤ pos i) -ℤ r.min_x)) (natural ((window.min_y +ℤ pos j) -ℤ r.min_y))) (pen_at b i j)
    (area_is window r x y source.width source.height i j across down ordered size.columns size.rows)
    (λ _.
    ap (λ u. pen_at source u (natural (pos j -ℤ y))) (natural_moved window.min_x r.min_x x i across)
    ∙ ap (λ v. pen_at source (natural ((window.min_x +ℤ pos i) -ℤ r.min_x)) v) (natural_moved window.min_y r.min_y y j down)))

-- pen 0 is everywhere on a blank bitmap and off it
pub blank_pen : (r : Rectangle) (depth i j : ℕ) → pen_at (blank_planes r depth) i j ≡ 0
blank_pen r depth i j =
    elim (cases_lt j (height r)) [
      | inl low ↦ elim (cases_lt i (width r)) [
        | inl left ↦ pen_at_bitmap (width r) (height r) depth (λ _ _. 0) i j left low
        | inr past ↦ grid_past_column (width r) (height r) (λ _ _. 0) 0 i j past low
      ]
      | inr past ↦ grid_past_row (width r) (height r) (λ _ _. 0) 0 i j past
    ]

-- a blank strip laid on the bitmap of a window takes its rectangle's pens away
pub blank_laid : (window : Rectangle) (s : StripView) (x y : ℤ) (w h : ℕ) (b : Bitmap) → x ≡ s.rect.min_x -ℤ window.min_x → y ≡ s.rect.min_y -ℤ window.min_y → w ≡ width s.rect → h ≡ height s.rect → IsStrip s → s.solid ≡ false
    → without_area (area_at x y w h) b ≡ with_strip window s b
blank_laid window s x y w h b across down wide high strip none =
    bitmap_same b.width b.height b.depth _ _
    (λ i j _ _.
    let u : ℤ = window.min_x +ℤ pos i in
    let v : ℤ = window.min_y +ℤ pos j in
    chosen_same (has_pixel (area_at x y w h) (pos i) (pos j)) (has_pixel s.rect u v) 0 (pen_at s.planes (natural (u -ℤ s.rect.min_x)) (natural (v -ℤ s.rect.min_y))) (pen_at b i j)
    (area_is window s.rect x y w h i j across down strip.ordered wide high)
    (λ _. sym (ap (λ q. pen_at q (natural (u -ℤ s.rect.min_x)) (natural (v -ℤ s.rect.min_y))) (strip.blank none) ∙ blank_pen s.rect s.planes.depth _ _)))

-- a solid strip is its rectangle with its bitmap
pub solid_laid : (window : Rectangle) (s : StripView) (b source : Bitmap) → source ≡ s.planes → with_planes window s.rect source b ≡ with_strip window s b
solid_laid window s b source is = ap (λ q. with_planes window s.rect q b) is

-- a place of a bitmap is a place of its rectangle
pub in_rectangle : (x n : ℕ) (low high : ℤ) → low ≤ℤ high → n ≡ unsigned_abs ((high +ℤ pos 1) -ℤ low) → x < n → within low (low +ℤ pos x) high ≡ true
in_rectangle x n low high ordered long below = within_true low (low +ℤ pos x) high (omega (arith, ints)) (omega (arith, ints))
