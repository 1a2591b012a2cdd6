-- Laws of blits from a bitmap, block by block.
use Rattle.std.proofs.Common.{◌≡◌, ℕ, ◌+◌, ◌-◌, ◌*◌, ◌%◌, ◌==◌, ◌<◌, ◌≤◌, ◌^◌, Bool, true, ◌&&◌, if◌then◌else◌, List, bit_and, bit_or, ◌∙◌, sym, ap, arith, ℤ, pos, ◌+ℤ◌, ◌-ℤ◌, ◌≤ℤ◌, unsigned_abs}
use Rattle.std.specs.Int.{bit_at}
use Rattle.std.proofs.lemmas.Bool.{and_from, and_parts}
use Rattle.std.proofs.lemmas.Bool.Decides.{nat_tests}
use Rattle.std.proofs.lemmas.Int.{ints}
use Rattle.std.proofs.lemmas.Nat.Bits.{bit_at-lt, bit_at_and, bit_at_or, bit_at_above}
use Rattle.lw_region.specs.Rectangle.{within}
use Rattle.lw_planes.specs.Row.{row_bit}
use Rattle.lw_planes.specs.Bitmap.{Bitmap, pen_at, row_bytes}
use Rattle.lw_planes.specs.Minterm.{minterm_bit}
use Rattle.lw_planes.specs.Sizes.{IsPlanes}
use Rattle.lw_kernels.specs.Kernel.{is_between, is_named, place_in}
use Rattle.lw_calls.specs.declared.area.Area.{Area}
use Rattle.lw_machine.specs.Blits.{source_column, source_row}
use Rattle.lw_layer.specs.View.{LiveView}
use Rattle.lw_layer.specs.Pieces.{layout_of}
use Rattle.lw_layer.proofs.StateLaws.{pen_in_line}
use Rattle.lw_layer.proofs.ViewLaws.{has_place}
use Rattle.lw_draw.specs.Blocks.{IsBlock, in_block, block_bit}
use Rattle.lw_draw.specs.Drawn.{drawn}
use Rattle.lw_draw.specs.declared.blocks.Block.{Block}
use Rattle.lw_draw.proofs.PaintLaws.{layer_alike}
use Rattle.lw_blit.specs.Blitting.{has_place as is_place, from_bits, is_source}
use Rattle.lw_blit.proofs.ShapeLaws.{AreReached}

-- The sources of the rows and columns that are reached lie in the bitmap.
pub reached_sources : (b : Bitmap) (a : Area) (width height top bottom from end : ℕ) → AreReached a b.width b.height width height top bottom from end → end ≤ width → bottom ≤ height → (i j : ℕ) → is_between top bottom j ≡ true → is_between from end i ≡ true → is_source b a i j ≡ true
reached_sources b a width height top bottom from end are wide high i j row column =
    let left : i < width = grind (arith, nat_tests) in
    let low : j < height = grind (arith, nat_tests) in
    let across = and_parts (within a.x (pos i) ((a.x +ℤ a.w) -ℤ pos 1)) (is_place b.width (source_column a i)) (are.columns i left ∙ column) in
    let down = and_parts (within a.y (pos j) ((a.y +ℤ a.h) -ℤ pos 1)) (is_place b.height (source_row a j)) (are.rows j low ∙ row) in
    and_from (is_place b.width (source_column a i)) (is_place b.height (source_row a j)) across.1 down.1

-- the sources of a block, by those of its corners
pub record AreInBitmap (b : Bitmap) (a : Area) (s : Block) : Type 0 where
  pub left : pos 0 ≤ℤ source_column a s.x
  pub right : source_column a (s.x + s.run.len) ≤ℤ pos b.width
  pub upper : pos 0 ≤ℤ source_row a s.y
  pub lower : source_row a (s.y + s.rows) ≤ℤ pos b.height

pub place_low : (n : ℕ) (z : ℤ) → is_place n z ≡ true → pos 0 ≤ℤ z
place_low n z is = grind (arith, ints)

pub place_high : (n : ℕ) (z : ℤ) → is_place n z ≡ true → (z +ℤ pos 1) ≤ℤ pos n
place_high n z is = grind (arith, ints)

pub next_column : (a : Area) (x len n : ℕ) → 0 < len → (source_column a (x + (len - 1)) +ℤ pos 1) ≤ℤ pos n → source_column a (x + len) ≤ℤ pos n
next_column a x len n some is = omega (arith, ints, some, is)

pub next_row : (a : Area) (y rows n : ℕ) → 0 < rows → (source_row a (y + (rows - 1)) +ℤ pos 1) ≤ℤ pos n → source_row a (y + rows) ≤ℤ pos n
next_row a y rows n some is = omega (arith, ints, some, is)

pub in_block_at : (s : Block) (du dv : ℕ) → du < s.run.len → dv < s.rows → in_block s (s.x + du) (s.y + dv) ≡ true
in_block_at s du dv across down =
    let row : is_named s.y s.rows (s.y + dv) ≡ true = grind (arith, nat_tests) in
    let column : is_named s.x s.run.len (s.x + du) ≡ true = grind (arith, nat_tests) in
    and_from _ _ row column

pub block_sources : (c : LiveView) (test : ℕ → ℕ → Bool) (b : Bitmap) (a : Area) (s : Block) → IsBlock c test s → ((i j : ℕ) → in_block s i j ≡ true → is_source b a i j ≡ true) → AreInBitmap b a s
block_sources c test b a s block sources =
    let wide : 0 < s.run.len = (block.runs 0 block.some).some in
    let high : 0 < s.rows = block.some in
    let first = and_parts (is_place b.width (source_column a (s.x + 0))) (is_place b.height (source_row a (s.y + 0))) (sources (s.x + 0) (s.y + 0) (in_block_at s 0 0 wide high)) in
    let last = and_parts (is_place b.width (source_column a (s.x + (s.run.len - 1)))) (is_place b.height (source_row a (s.y + (s.rows - 1)))) (sources (s.x + (s.run.len - 1)) (s.y + (s.rows - 1)) (in_block_at s (s.run.len - 1) (s.rows - 1) (omega (arith, wide)) (omega (arith, high)))) in
    let left = place_low b.width (source_column a (s.x + 0)) first.0 in
    let upper = place_low b.height (source_row a (s.y + 0)) first.1 in
    record {
      left = omega (arith, ints, left);
      right = next_column a s.x s.run.len b.width wide (place_high b.width (source_column a (s.x + (s.run.len - 1))) last.0);
      upper = omega (arith, ints, upper);
      lower = next_row a s.y s.rows b.height high (place_high b.height (source_row a (s.y + (s.rows - 1))) last.1);
    }

-- no column and no row of a layer is far off
pub block_near : (c : LiveView) (test : ℕ → ℕ → Bool) (s : Block) → IsPlanes c.layer.bits → IsBlock c test s → (s.x ≤ 65536) × (s.y ≤ 65536)
block_near c test s ok block =
    let run = block.runs 0 block.some in
    let at = pen_in_line (layout_of c) s.run.buffer (s.run.line + 0) s.x (s.y + 0) (run.inside s.x (omega arith) (omega (arith, run.some))) in
    let place = has_place (layout_of c) s.x (s.y + 0) s.run.buffer at.1 in
    let wide = ok.sizes.columns.1 in
    let high = ok.sizes.rows.1 in
    (omega (arith, place.left, wide), omega (arith, place.low, high))

-- where the sources lie in the bitmap
pub column_at : (a : Area) (x bit i : ℕ) → source_column a x ≡ pos bit → x ≤ i → unsigned_abs (source_column a i) ≡ bit + (i - x)
column_at a x bit i is late = omega (arith, ints, is, late)

pub row_at : (a : Area) (y line j : ℕ) → source_row a y ≡ pos line → y ≤ j → unsigned_abs (source_row a j) ≡ line + (j - y)
row_at a y line j is late = omega (arith, ints, is, late)

column_inside : (a : Area) (x len bit i n : ℕ) → source_column a x ≡ pos bit → source_column a (x + len) ≤ℤ pos n → x ≤ i → i < x + len → bit + (i - x) < n
column_inside a x len bit i n is inside first last = omega (arith, ints, is, inside, first, last)

row_inside : (a : Area) (y rows line j n : ℕ) → source_row a y ≡ pos line → source_row a (y + rows) ≤ℤ pos n → y ≤ j → j < y + rows → line + (j - y) < n
row_inside a y rows line j n is inside first last = omega (arith, ints, is, inside, first, last)

pub bits_inside : (a : Area) (x len bit n : ℕ) → source_column a x ≡ pos bit → source_column a (x + len) ≤ℤ pos n → bit + len ≤ n
bits_inside a x len bit n is inside = omega (arith, ints, is, inside)

pub lines_inside : (a : Area) (y rows line n : ℕ) → source_row a y ≡ pos line → source_row a (y + rows) ≤ℤ pos n → line + rows ≤ n
lines_inside a y rows line n is inside = omega (arith, ints, is, inside)

-- what is told of a pixel of a block in one plane
pub record IsAt (k : ℕ) (s : Block) (p i j : ℕ) : Type 0 where
  pub deep : p ≡ k
  pub first : s.x ≤ i
  pub last : i < s.x + s.run.len
  pub top : s.y ≤ j
  pub bottom : j < s.y + s.rows

pub pixel_of : (k : ℕ) (s : Block) (p i j : ℕ) → (p == k && in_block s i j) ≡ true → IsAt k s p i j
pixel_of k s p i j on = record { deep = grind (arith, nat_tests); first = grind (arith, nat_tests); last = grind (arith, nat_tests); top = grind (arith, nat_tests); bottom = grind (arith, nat_tests) }

-- A plane of a block that is painted with rows of a bitmap is painted with the bitmap.
pub block_as_bitmap : (v w : LiveView) (b : Bitmap) (a : Area) (k plane m step bit line : ℕ) (s : Block) (bytes : List ℕ) → AreInBitmap b a s → source_column a s.x ≡ pos bit → source_row a s.y ≡ pos line → step ≡ row_bytes b.width → ((x j : ℕ) → x < b.width → j < s.rows → row_bit bytes (8 * (j * row_bytes b.width) + x) ≡ bit_at (pen_at b x (line + j)) plane) → ((x y old : ℕ) → x < b.width → y < b.height → old < 2 → minterm_bit m (bit_at (pen_at b x y) plane) old ≡ minterm_bit a.minterm (bit_at (pen_at b x y) k) old) → w ≡ drawn (λ p i j. p == k && in_block s i j) (block_bit m bytes step bit s) v → w ≡ drawn (λ p i j. p == k && in_block s i j) (from_bits b a) v
block_as_bitmap v w b a k plane m step bit line s bytes lies column row wide are same is =
    layer_alike v w (λ p i j. p == k && in_block s i j) (block_bit m bytes step bit s) (from_bits b a) is
    (λ p i j old _ _ _ on small.
    let at = pixel_of k s p i j on in
    let x : ℕ = bit + (i - s.x) in
    let y : ℕ = line + (j - s.y) in
    let in_x : x < b.width = column_inside a s.x s.run.len bit i b.width column lies.right at.first at.last in
    let in_y : y < b.height = row_inside a s.y s.rows line j b.height row lies.lower at.top at.bottom in
    let value : ℕ → ℕ → ℕ → ℕ = λ d u z. minterm_bit a.minterm (bit_at (pen_at b u z) d) old in
    ap (λ n. minterm_bit m (row_bit bytes (place_in n (j - s.y) x)) old) wide ∙
    (ap (λ n. minterm_bit m n old) (are x (j - s.y) in_x (omega (arith, at.top, at.bottom))) ∙
    (same x y old in_x in_y small ∙
    (ap (λ u. value k u y) (sym (column_at a s.x bit i column at.first)) ∙
    (ap (λ z. value k (unsigned_abs (source_column a i)) z) (sym (row_at a s.y line j row at.top)) ∙
    ap (λ d. value d (unsigned_abs (source_column a i)) (unsigned_abs (source_row a j))) (sym at.deep))))))

-- a plane that a source lacks has no bit, so a minterm that doesn't look at B does there
pub lacked_value : (m given depth k pen old : ℕ) → pen < 2 ^ depth → depth ≤ k → old < 2 → ((q c : ℕ) → q < 2 → c < 2 → minterm_bit m q c ≡ minterm_bit given 0 c) → (plane : ℕ) → minterm_bit m (bit_at pen plane) old ≡ minterm_bit given (bit_at pen k) old
lacked_value m given depth k pen old deep past small same plane =
    same (bit_at pen plane) old (bit_at-lt pen plane) small ∙ ap (λ q. minterm_bit given q old) (sym (bit_at_above pen depth k deep past))

-- the values of a minterm that doesn't look at B
pub free_values : (m b c : ℕ) → b < 2 → c < 2 → minterm_bit (bit_or (bit_and m 48) (bit_and m 48 * 4 % 256)) b c ≡ (if c == 1 then bit_at m 5 else bit_at m 4)
free_values m b c one small =
    let z : ℕ = bit_and m 48 in
    let up : ℕ = z * 4 % 256 in
    let five : bit_at z 5 ≡ bit_at m 5 = let some = bit_at-lt m 5 in bit_at_and m 48 5 ∙ omega (arith, some) in
    let four : bit_at z 4 ≡ bit_at m 4 = let some = bit_at-lt m 4 in bit_at_and m 48 4 ∙ omega (arith, some) in
    let seven_off : bit_at z 7 ≡ 0 = bit_at_and m 48 7 ∙ omega arith in
    let six_off : bit_at z 6 ≡ 0 = bit_at_and m 48 6 ∙ omega arith in
    let three_off : bit_at z 3 ≡ 0 = bit_at_and m 48 3 ∙ omega arith in
    let two_off : bit_at z 2 ≡ 0 = bit_at_and m 48 2 ∙ omega arith in
    let up_seven : bit_at up 7 ≡ bit_at z 5 = omega arith in
    let up_six : bit_at up 6 ≡ bit_at z 4 = omega arith in
    let up_five : bit_at up 5 ≡ bit_at z 3 = omega arith in
    let up_four : bit_at up 4 ≡ bit_at z 2 = omega arith in
    let at_seven : bit_at (bit_or z up) 7 ≡ bit_at m 5 = bit_at_or z up 7 ∙ omega (arith, seven_off, up_seven, five) in
    let at_six : bit_at (bit_or z up) 6 ≡ bit_at m 4 = bit_at_or z up 6 ∙ omega (arith, six_off, up_six, four) in
    let at_five : bit_at (bit_or z up) 5 ≡ bit_at m 5 = bit_at_or z up 5 ∙ omega (arith, five, up_five, three_off) in
    let at_four : bit_at (bit_or z up) 4 ≡ bit_at m 4 = bit_at_or z up 4 ∙ omega (arith, four, up_four, two_off) in
    grind (arith, nat_tests)
