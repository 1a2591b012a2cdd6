-- Laws of blocks that are painted with a block of kept pixels of a layer.
use Rattle.std.proofs.Common.{◌≡◌, ℕ, ◌+◌, ◌-◌, ◌*◌, ◌==◌, ◌<◌, ◌≤◌, ◌^◌, nat_le, nat_lt, Bool, true, not, ◌&&◌, List, ◌∙◌, sym, ap, arith, ℤ, pos, ◌+ℤ◌, ◌≤ℤ◌, int_le, unsigned_abs}
use Rattle.std.specs.Int.{bit_at}
use Rattle.std.proofs.lemmas.Bool.{and_from, and_parts}
use Rattle.std.proofs.lemmas.Bool.Decides.{nat_tests}
use Rattle.std.proofs.lemmas.Int.{ints}
use Rattle.lw_region.specs.Rectangle.{width}
use Rattle.lw_planes.specs.Row.{row_bit}
use Rattle.lw_planes.specs.Bitmap.{IsBitmap, pen_at}
use Rattle.lw_planes.specs.Minterm.{minterm_bit}
use Rattle.lw_planes.proofs.BitmapLaws.{row_bytes_wide}
use Rattle.lw_kernels.specs.Kernel.{place_in}
use Rattle.lw_calls.specs.declared.area.Area.{Area}
use Rattle.lw_machine.specs.Desk.{is_the}
use Rattle.lw_machine.specs.Blits.{source_column, source_row}
use Rattle.lw_layer.specs.View.{LiveView}
use Rattle.lw_layer.specs.Pieces.{Layout, layout_of, buffer_rectangle, buffer_at, column_in, line_in, in_line, HaveLines, in_lines, HaveLinesBits}
use Rattle.lw_layer.proofs.StateLaws.{pen_in_line}
use Rattle.lw_layer.proofs.ViewLaws.{has_place}
use Rattle.lw_draw.specs.Blocks.{IsBlock, in_block, block_bit}
use Rattle.lw_draw.specs.Drawn.{drawn}
use Rattle.lw_draw.specs.declared.blocks.Block.{Block}
use Rattle.lw_draw.proofs.BlockLaws.{block_lines}
use Rattle.lw_draw.proofs.PaintLaws.{layer_alike}
use Rattle.lw_draw.proofs.WrittenLaws.{line_bytes}
use Rattle.lw_blit.specs.Blitting.{from_bits, leads_to}
use Rattle.lw_blit.proofs.BitmapLaws.{pixel_of, in_block_at, next_column, next_row, column_at, row_at}

-- the sources of a block, by those of its corners
pub record AreInKept (b : Block) (a : Area) (s : Block) : Type 0 where
  pub left : pos b.x ≤ℤ source_column a s.x
  pub right : source_column a (s.x + s.run.len) ≤ℤ pos (b.x + b.run.len)
  pub upper : pos b.y ≤ℤ source_row a s.y
  pub lower : source_row a (s.y + s.rows) ≤ℤ pos (b.y + b.rows)

test_low : (low high : ℕ) (z : ℤ) → (int_le (pos low) z && not (int_le (pos high) z)) ≡ true → pos low ≤ℤ z
test_low low high z is = grind (arith, ints)

test_high : (low high : ℕ) (z : ℤ) → (int_le (pos low) z && not (int_le (pos high) z)) ≡ true → (z +ℤ pos 1) ≤ℤ pos high
test_high low high z is = grind (arith, ints)

abbrev in_columns : Block → Area → ℕ → Bool
in_columns b a x = int_le (pos b.x) (source_column a x) && not (int_le (pos (b.x + b.run.len)) (source_column a x))

abbrev in_rows_of : Block → Area → ℕ → Bool
in_rows_of b a y = int_le (pos b.y) (source_row a y) && not (int_le (pos (b.y + b.rows)) (source_row a y))

pub kept_sources : (c : LiveView) (test : ℕ → ℕ → Bool) (b : Block) (a : Area) (s : Block) → IsBlock c test s → ((i j : ℕ) → in_block s i j ≡ true → leads_to b a i j ≡ true) → AreInKept b a s
kept_sources c test b a s block sources =
    let wide : 0 < s.run.len = (block.runs 0 block.some).some in
    let high : 0 < s.rows = block.some in
    let u : ℕ = s.x + (s.run.len - 1) in
    let v : ℕ = s.y + (s.rows - 1) in
    let first = and_parts (in_columns b a (s.x + 0)) (in_rows_of b a (s.y + 0)) (sources (s.x + 0) (s.y + 0) (in_block_at s 0 0 wide high)) in
    let last = and_parts (in_columns b a u) (in_rows_of b a v) (sources u v (in_block_at s (s.run.len - 1) (s.rows - 1) (omega (arith, wide)) (omega (arith, high)))) in
    let left = test_low b.x (b.x + b.run.len) (source_column a (s.x + 0)) first.0 in
    let upper = test_low b.y (b.y + b.rows) (source_row a (s.y + 0)) first.1 in
    record {
      left = omega (arith, ints, left);
      right = next_column a s.x s.run.len (b.x + b.run.len) wide (test_high b.x (b.x + b.run.len) (source_column a u) last.0);
      upper = omega (arith, ints, upper);
      lower = next_row a s.y s.rows (b.y + b.rows) high (test_high b.y (b.y + b.rows) (source_row a v) last.1);
    }

-- the numbers of the first source, and of what lies over the block
pub record ArePlaced (b s : Block) (column row : ℕ) : Type 0 where
  pub left : b.x ≤ column
  pub right : column + s.run.len ≤ b.x + b.run.len
  pub upper : b.y ≤ row
  pub lower : row + s.rows ≤ b.y + b.rows

pub are_placed : (b : Block) (a : Area) (s : Block) (column row : ℕ) → AreInKept b a s → pos column ≡ source_column a s.x → pos row ≡ source_row a s.y → ArePlaced b s column row
are_placed b a s column row are across down = record {
  left = let e = are.left in omega (arith, ints, e, across);
  right = let e = are.right in omega (arith, ints, e, across);
  upper = let e = are.upper in omega (arith, ints, e, down);
  lower = let e = are.lower in omega (arith, ints, e, down);
}

-- the lines that have these pixels
pub record AreLentOf (c : LiveView) (b s : Block) (line bit : ℕ) : Type 0 where
  pub lines : HaveLines (layout_of c) b.run.buffer line s.rows
  pub bits : bit + s.run.len ≤ 8 * line_bytes c b

pub lent_of : (c : LiveView) (test : ℕ → ℕ → Bool) (b s : Block) (column row line bit : ℕ) → IsBlock c test b → ArePlaced b s column row → line ≡ b.run.line + (row - b.y) → bit ≡ b.run.bit + (column - b.x) → AreLentOf c b s line bit
lent_of c test b s column row line bit block are down across =
    let lines = block_lines c test b block in
    let fits : b.run.bit + b.run.len ≤ width (buffer_rectangle (layout_of c) b.run.buffer) = (block.runs 0 block.some).fits in
    let wide : width (buffer_rectangle (layout_of c) b.run.buffer) ≤ 8 * line_bytes c b = row_bytes_wide (width (buffer_rectangle (layout_of c) b.run.buffer)) in
    record {
      lines = record { buffer = lines.buffer; below = omega (arith, lines.below, down, are.upper, are.lower) };
      bits = omega (arith, fits, wide, across, are.left, are.right);
    }

-- a pen in a line is in lines that have it
in_lines_of : (l : Layout) (n line top count x y : ℕ) → in_line l n line x y ≡ true → top ≤ line → line < top + count → in_lines l n top count x y ≡ true
unfolding in_lines
in_lines_of l n line top count x y is low high =
    let at = pen_in_line l n line x y is in
    let same : line_in l n y ≡ line = at.0 in
    let number : (n == n) ≡ true = grind (arith, nat_tests) in
    let here : is_the (buffer_at l x y) n ≡ true = ap (λ o. is_the o n) at.1 ∙ number in
    let from : nat_le top (line_in l n y) ≡ true = grind (arith, nat_tests) in
    let upto : nat_lt (line_in l n y) (top + count) ≡ true = grind (arith, nat_tests) in
    and_from _ _ here (and_from _ _ from upto)

-- a bit of the lines is that of the source's pen
lent_bit : (c : LiveView) (test : ℕ → ℕ → Bool) (b s : Block) (column row line bit plane : ℕ) (bytes : List ℕ) (du dv : ℕ) → IsBlock c test b → ArePlaced b s column row → line ≡ b.run.line + (row - b.y) → bit ≡ b.run.bit + (column - b.x) → HaveLinesBits c plane b.run.buffer line s.rows bytes → du < s.run.len → dv < s.rows → row_bit bytes (place_in (line_bytes c b) dv (bit + du)) ≡ bit_at (pen_at c.layer.bits (column + du) (row + dv)) plane
lent_bit c test b s column row line bit plane bytes du dv block are down across has inside low =
    let l = layout_of c in
    let n = b.run.buffer in
    let u : ℕ = column + du in
    let k : ℕ = row + dv - b.y in
    let v : ℕ = b.y + k in
    let v_is : v ≡ row + dv = omega (arith, are.upper) in
    let run = block.runs k (omega (arith, are.upper, are.lower, low)) in
    let late : b.x ≤ u = omega (arith, are.left) in
    let before : u < b.x + b.run.len = omega (arith, are.right, inside) in
    let at = run.inside u late before in
    let line_at : line_in l n v ≡ b.run.line + k = (pen_in_line l n (b.run.line + k) u v at).0 in
    let column_at : column_in l n u + b.x ≡ b.run.bit + u = run.bits u late before in
    let lent = in_lines_of l n (b.run.line + k) line s.rows u v at (omega (arith, down, are.upper)) (omega (arith, down, are.upper, low)) in
    let there : dv ≡ line_in l n v - line = omega (arith, line_at, down, are.upper) in
    let along : bit + du ≡ column_in l n u = omega (arith, column_at, across, are.left) in
    ap (λ z. row_bit bytes (place_in (line_bytes c b) z (bit + du))) there ∙
    (ap (λ z. row_bit bytes (place_in (line_bytes c b) (line_in l n v - line) z)) along ∙
    (has u v lent ∙ ap (λ z. bit_at (pen_at c.layer.bits u z) plane) v_is))

-- A plane of a block that is painted with lines of a layer is painted with the layer's bits.
pub block_as_layer : (v w c : LiveView) (test : ℕ → ℕ → Bool) (a : Area) (k plane m step line bit column row : ℕ) (b s : Block) (bytes : List ℕ) → IsBitmap c.layer.bits → IsBlock c test b → ArePlaced b s column row → source_column a s.x ≡ pos column → source_row a s.y ≡ pos row → ((k : ℕ) → k < b.rows → (u : ℕ) → b.x ≤ u → u < b.x + b.run.len → pen_at c.layer.bits u (b.y + k) < 2 ^ c.layer.bits.depth) → line ≡ b.run.line + (row - b.y) → bit ≡ b.run.bit + (column - b.x) → step ≡ line_bytes c b → HaveLinesBits c plane b.run.buffer line s.rows bytes → ((pen old : ℕ) → pen < 2 ^ c.layer.bits.depth → old < 2 → minterm_bit m (bit_at pen plane) old ≡ minterm_bit a.minterm (bit_at pen k) old) → w ≡ drawn (λ p i j. p == k && in_block s i j) (block_bit m bytes step bit s) v → w ≡ drawn (λ p i j. p == k && in_block s i j) (from_bits c.layer.bits a) v
block_as_layer v w c test a k plane m step line bit column row b s bytes ok block are across along small down over wide has same is =
    layer_alike v w (λ p i j. p == k && in_block s i j) (block_bit m bytes step bit s) (from_bits c.layer.bits a) is
    (λ p i j old _ _ _ on bit_small.
    let at = pixel_of k s p i j on in
    let du : ℕ = i - s.x in
    let dv : ℕ = j - s.y in
    let inside : du < s.run.len = omega (arith, at.first, at.last) in
    let low : dv < s.rows = omega (arith, at.top, at.bottom) in
    let n : ℕ = row + dv - b.y in
    let n_is : b.y + n ≡ row + dv = omega (arith, are.upper) in
    let pen = small n (omega (arith, are.upper, are.lower, low)) (column + du) (omega (arith, are.left)) (omega (arith, are.right, inside)) in
    let deep : pen_at c.layer.bits (column + du) (row + dv) < 2 ^ c.layer.bits.depth = rw n_is at pen in
    let value : ℕ → ℕ → ℕ → ℕ = λ d x z. minterm_bit a.minterm (bit_at (pen_at c.layer.bits x z) d) old in
    ap (λ z. minterm_bit m (row_bit bytes (place_in z dv (bit + du))) old) wide ∙
    (ap (λ z. minterm_bit m z old) (lent_bit c test b s column row line bit plane bytes du dv block are down over has inside low) ∙
    (same (pen_at c.layer.bits (column + du) (row + dv)) old deep bit_small ∙
    (ap (λ x. value k x (row + dv)) (sym (column_at a s.x column i across at.first)) ∙
    (ap (λ z. value k (unsigned_abs (source_column a i)) z) (sym (row_at a s.y row j along at.top)) ∙
    ap (λ d. value d (unsigned_abs (source_column a i)) (unsigned_abs (source_row a j))) (sym at.deep))))))

-- the pens of a block are in the layer's planes
pub block_pens : (c : LiveView) (test : ℕ → ℕ → Bool) (b : Block) → IsBitmap c.layer.bits → IsBlock c test b → (k : ℕ) → k < b.rows → (u : ℕ) → b.x ≤ u → u < b.x + b.run.len → pen_at c.layer.bits u (b.y + k) < 2 ^ c.layer.bits.depth
block_pens c test b ok block k low u late before =
    let run = block.runs k low in
    let at = pen_in_line (layout_of c) b.run.buffer (b.run.line + k) u (b.y + k) (run.inside u late before) in
    let place = has_place (layout_of c) u (b.y + k) b.run.buffer at.1 in
    ok.pens u (b.y + k) place.left place.low
