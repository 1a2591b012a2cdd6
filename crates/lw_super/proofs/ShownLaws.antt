-- Portions of a bitmap on rectangles of the screen's plane.
use Rattle.std.proofs.Common.{◌≡◌, ℕ, ◌+◌, ◌-◌, ◌<◌, ◌≤◌, true, ◌&&◌, if◌then◌else◌, List, ◌++◌, length, get_or, map, take, drop, ◌∙◌, sym, ap, subst, arith, ℤ, pos, ◌+ℤ◌, ◌-ℤ◌, ◌≤ℤ◌, unsigned_abs}
use Rattle.std.proofs.lemmas.Bool.Decides.{nat_tests}
use Rattle.std.proofs.lemmas.Int.{ints}
use Rattle.std.proofs.lemmas.List.{get_or-append_right, length-map, length-take-le, drop_more}
use Rattle.lw_region.specs.Rectangle.{Rectangle, width, height}
use Rattle.lw_region.specs.Order.{natural}
use Rattle.lw_planes.specs.Bitmap.{Bitmap, bitmap, pen_at}
use Rattle.lw_planes.proofs.BitmapLaws.{bitmap_same}
use Rattle.lw_kernels.specs.Kernel.{is_named}
use Rattle.lw_layer.specs.Drafts.{IsBuffer}
use Rattle.lw_strips.specs.Blocks.{IsBlockOf, block_pen, with_block}
use Rattle.lw_strips.specs.Strips.{StripView}
use Rattle.lw_super.specs.Shown.{IsShown, AreShownStrips, portion, refilled}
use Rattle.lw_strips.specs.declared.block.Block.{Block}

natural_is : (z : ℤ) (n : ℕ) → z ≡ pos n → n ≡ natural z
natural_is z n e = sym (ap natural e)

-- a whole buffer copied out of the bitmap is the portion on its rectangle
all_named : (x n : ℕ) → x < n → is_named 0 n x ≡ true
all_named x n below = grind (arith, nat_tests)

pub block_portion : (k : Block) (own b : Bitmap) (r : Rectangle) (left top : ℤ) → IsBuffer own.depth r b → k.x ≡ 0 → k.y ≡ 0
    → pos k.source_x ≡ r.min_x -ℤ left → pos k.source_y ≡ r.min_y -ℤ top → k.width ≡ b.width → k.height ≡ b.height
    → with_block k own b ≡ portion own left top r
unfolding portion
block_portion k own b r left top buffer zero_x zero_y across down wide high =
    bitmap_same b.width b.height b.depth _ (λ x y. pen_at own (natural (r.min_x -ℤ left) + x) (natural (r.min_y -ℤ top) + y))
    (λ x y in_width in_height.
    let in_columns : is_named k.x k.width x ≡ true = rw (zero_x, wide) (all_named x b.width in_width) in
    let in_lines : is_named k.y k.height y ≡ true = rw (zero_y, high) (all_named y b.height in_height) in
    let column : k.source_x + (x - k.x) ≡ natural (r.min_x -ℤ left) + x = omega (arith, zero_x, natural_is _ k.source_x (sym across)) in
    let line : k.source_y + (y - k.y) ≡ natural (r.min_y -ℤ top) + y = omega (arith, zero_y, natural_is _ k.source_y (sym down)) in
    ap (λ t. if (t && is_named k.y k.height y) then block_pen k own x y else pen_at b x y) in_columns
    ∙ (ap (λ t. if t then block_pen k own x y else pen_at b x y) in_lines
    ∙ (ap (λ i. pen_at own i (k.source_y + (y - k.y))) column ∙ ap (λ j. pen_at own (natural (r.min_x -ℤ left) + x) j) line)))
    ∙ (ap (λ n. bitmap n b.height b.depth (λ x y. pen_at own (natural (r.min_x -ℤ left) + x) (natural (r.min_y -ℤ top) + y))) buffer.width
    ∙ (ap (λ n. bitmap (width r) n b.depth (λ x y. pen_at own (natural (r.min_x -ℤ left) + x) (natural (r.min_y -ℤ top) + y))) buffer.height
    ∙ ap (λ n. bitmap (width r) (height r) n (λ x y. pen_at own (natural (r.min_x -ℤ left) + x) (natural (r.min_y -ℤ top) + y))) buffer.planes))

-- and it lies in both
block_fits : (low high left : ℤ) (at wide n : ℕ) → low ≤ℤ high → (high +ℤ pos 1) ≤ℤ (left +ℤ pos n) → pos at ≡ low -ℤ left
    → wide ≡ unsigned_abs ((high +ℤ pos 1) -ℤ low) → at + wide ≤ n
block_fits low high left at wide n ordered edge across is = omega (arith, ints)

pub block_of : (k : Block) (own b : Bitmap) (r : Rectangle) (left top : ℤ) → IsShown own left top r b → k.x ≡ 0 → k.y ≡ 0
    → pos k.source_x ≡ r.min_x -ℤ left → pos k.source_y ≡ r.min_y -ℤ top → k.width ≡ b.width → k.height ≡ b.height → IsBlockOf k b own
block_of k own b r left top shown zero_x zero_y across down wide high = record {
  right = omega (arith, zero_x, wide);
  lower = omega (arith, zero_y, high);
  source_right = block_fits r.min_x r.max_x left k.source_x k.width own.width shown.ordered.columns shown.right_edge across (wide ∙ shown.buffer.width);
  source_lower = block_fits r.min_y r.max_y top k.source_y k.height own.height shown.ordered.rows shown.bottom_edge down (high ∙ shown.buffer.height);
  planes = sym shown.buffer.planes;
}

-- a strip that isn't reached so far is as it was
pub not_reached : (f : StripView → StripView) (xs ys : List StripView) (i : ℕ) (d : StripView) → i < length xs → ys ≡ map f (take i xs) ++ drop i xs → get_or ys i d ≡ get_or xs i d
not_reached f xs ys i d inside is =
    let long : length (map f (take i xs)) ≡ i = length-map (take i xs) f ∙ length-take-le i xs (omega arith) in
    let zero : i - i ≡ 0 = omega arith in
    ap (λ q. get_or q i d) is
    ∙ (get_or-append_right (map f (take i xs)) (drop i xs) i i d long (omega arith)
    ∙ (ap (λ n. get_or (drop i xs) n d) zero ∙ ap (λ q. get_or q 0 d) (drop_more xs i d inside)))

-- so it may be filled
pub still_shown : (own : Bitmap) (left top : ℤ) (xs ys : List StripView) (i : ℕ) (s : StripView) → AreShownStrips own left top xs → i < length xs
    → ys ≡ map (λ q. refilled own left top q) (take i xs) ++ drop i xs → s ≡ get_or ys i s → (s.solid ≡ true) × IsShown own left top s.rect s.planes
still_shown own left top xs ys i s all inside is at =
    let P : StripView → Type 0 = λ q. (q.solid ≡ true) × IsShown own left top q.rect q.planes in
    subst P (sym (at ∙ not_reached (λ q. refilled own left top q) xs ys i s inside is)) (all i s inside)
