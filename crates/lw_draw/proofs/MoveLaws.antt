-- Laws of a block that is moved onto another one of its buffer.
use Rattle.std.proofs.Common.{◌≡◌, ℕ, ◌+◌, ◌-◌, ◌*◌, ◌==◌, ◌<◌, ◌≤◌, Bool, true, ◌&&◌, if◌then◌else◌, min, max, List, length, ◌∙◌, sym, refl, ap, subst, arith}
use Rattle.std.proofs.lemmas.Bool.Decides.{nat_tests}
use Rattle.lw_planes.specs.Row.{row_bit}
use Rattle.lw_planes.specs.Minterm.{minterm_bit}
use Rattle.lw_region.specs.Rectangle.{width, height}
use Rattle.lw_planes.specs.Bitmap.{IsBitmap, row_bytes}
use Rattle.lw_planes.proofs.BitmapLaws.{row_bytes_wide}
use Rattle.lw_kernels.specs.Kernel.{is_named, place_in}
use Rattle.lw_layer.specs.View.{LiveView, keeps, draws}
use Rattle.lw_layer.specs.Pieces.{layout_of, buffer_rectangle, column_in, line_in, place_from, HaveLines, HaveLinesBits, with_bytes}
use Rattle.lw_layer.proofs.StateLaws.{pen_in_line}
use Rattle.lw_draw.specs.Drawn.{drawn}
use Rattle.lw_draw.specs.Blocks.{IsBlock, HaveOneShape, in_block, moved_bit}
use Rattle.lw_draw.specs.declared.blocks.Block.{Block}
use Rattle.lw_draw.proofs.BlockLaws.{block_lines}
use Rattle.lw_draw.proofs.DrawnLaws.{bit_of_layer}
use Rattle.lw_draw.proofs.WrittenLaws.{line_bytes, block_inside, block_written}

-- blocks of one shape have lines of one length
same_bytes : (c : LiveView) (to from : Block) → HaveOneShape to from → line_bytes c from ≡ line_bytes c to
same_bytes c to from shape = ap (λ n. row_bytes (width (buffer_rectangle (layout_of c) n))) (sym shape.buffer)

-- a block's bits are in its lines
block_fits : (c : LiveView) (test : ℕ → ℕ → Bool) (b : Block) → IsBlock c test b → b.run.bit + b.run.len ≤ 8 * line_bytes c b
block_fits c test b block =
    let wide : width (buffer_rectangle (layout_of c) b.run.buffer) ≤ 8 * line_bytes c b = row_bytes_wide (width (buffer_rectangle (layout_of c) b.run.buffer)) in
    omega (arith, wide, (block.runs 0 block.some).fits)

-- What is told of two blocks of one shape, and of lines that hold both.
pub record AreMoved (c : LiveView) (to from : Block) (top upto : ℕ) : Type 0 where
  pub there : HaveLines (layout_of c) to.run.buffer top (upto - top)
  pub low : upto ≤ height (buffer_rectangle (layout_of c) to.run.buffer)
  pub fits : to.run.bit + to.run.len ≤ 8 * line_bytes c to
  pub source_fits : from.run.bit + to.run.len ≤ 8 * line_bytes c to

pub are_moved : (c : LiveView) (to from : Block) (top upto : ℕ) → IsBlock c (λ i j. draws c i j) to → IsBlock c (λ i j. keeps c i j) from → HaveOneShape to from → top ≡ min to.run.line from.run.line → upto ≡ max to.run.line from.run.line + to.rows → AreMoved c to from top upto
are_moved c to from top upto onto whence shape least greatest =
    let l = layout_of c in
    let own = block_lines c (λ i j. draws c i j) to onto in
    let other = block_lines c (λ i j. keeps c i j) from whence in
    let high : ℕ = height (buffer_rectangle l to.run.buffer) in
    let own_low : to.run.line + to.rows ≤ high = own.below in
    let N : ℕ → Type 0 = λ n. from.run.line + from.rows ≤ height (buffer_rectangle l n) in
    let other_low : from.run.line + from.rows ≤ high = subst N (sym shape.buffer) other.below in
    let rows : to.rows ≡ from.rows = shape.rows in
    let len : to.run.len ≡ from.run.len = shape.len in
    let low : upto ≤ high = omega (arith, greatest, own_low, other_low, rows) in
    let wide : line_bytes c from ≡ line_bytes c to = same_bytes c to from shape in
    let fits = block_fits c (λ i j. keeps c i j) from whence in
    record {
      there = record { buffer = own.buffer; below = omega (arith, low, least, greatest) };
      low = low;
      fits = block_fits c (λ i j. draws c i j) to onto;
      source_fits = omega (arith, fits, wide, len);
    }

-- the pixel of a block that is so far from its first one, by numbers
named_there : (x y rows len du dv : ℕ) → dv < rows → du < len → (is_named y rows (y + dv) && is_named x len (x + du)) ≡ true
named_there x y rows len du dv low left = grind (arith, nat_tests)

-- where its bit is in lines that hold those of the block
place_there : (c : LiveView) (test : ℕ → ℕ → Bool) (top first : ℕ) (b : Block) (dv du : ℕ) → IsBlock c test b → top + first ≡ b.run.line → dv < b.rows → du < b.run.len → place_from (layout_of c) b.run.buffer top (b.x + du) (b.y + dv) ≡ place_in (line_bytes c b) (first + dv) (b.run.bit + du)
place_there c test top first b dv du block begins low left =
    let l = layout_of c in
    let n = b.run.buffer in
    let run = block.runs dv low in
    let late : b.x ≤ b.x + du = omega arith in
    let before : b.x + du < b.x + b.run.len = omega arith in
    let line : line_in l n (b.y + dv) ≡ b.run.line + dv = (pen_in_line l n (b.run.line + dv) (b.x + du) (b.y + dv) (run.inside (b.x + du) late before)).0 in
    let along : column_in l n (b.x + du) + b.x ≡ b.run.bit + (b.x + du) = run.bits (b.x + du) late before in
    let column : column_in l n (b.x + du) ≡ b.run.bit + du = omega (arith, along) in
    let row : line_in l n (b.y + dv) - top ≡ first + dv = omega (arith, line, begins) in
    ap (λ r. 8 * (r * line_bytes c b) + column_in l n (b.x + du)) row ∙ ap (λ u. place_in (line_bytes c b) (first + dv) u) column

-- the lent lines have the bits of a block in them
lent_bit : (c : LiveView) (test : ℕ → ℕ → Bool) (k top count first : ℕ) (b : Block) (old : List ℕ) (dv du : ℕ) → IsBlock c test b → HaveLinesBits c k b.run.buffer top count old → top + first ≡ b.run.line → first + b.rows ≤ count → dv < b.rows → du < b.run.len → row_bit old (place_in (line_bytes c b) (first + dv) (b.run.bit + du)) ≡ bit_of_layer c k (b.x + du) (b.y + dv)
lent_bit c test k top count first b old dv du block has begins ends low left =
    ap (λ z. row_bit old z) (sym (place_there c test top first b dv du block begins low left)) ∙
    has (b.x + du) (b.y + dv) (block_inside c test top count first b (b.x + du) (b.y + dv) block begins ends (named_there b.x b.y b.rows b.run.len du dv low left))

-- Once a kernel moved the bits of a block onto those of another one in lines that hold both, the layer is drawn on there.
pub block_moved : (c : LiveView) (k m top count step row source : ℕ) (to from : Block) (old bytes : List ℕ) → IsBitmap c.layer.bits → step ≡ line_bytes c to → length bytes ≡ count * line_bytes c to → HaveLines (layout_of c) to.run.buffer top count → HaveLinesBits c k to.run.buffer top count old → IsBlock c (λ i j. draws c i j) to → IsBlock c (λ i j. keeps c i j) from → HaveOneShape to from → top + row ≡ to.run.line → row + to.rows ≤ count → top + source ≡ from.run.line → source + to.rows ≤ count → ((v u : ℕ) → u < 8 * step → row_bit bytes (place_in step v u) ≡ (if is_named row to.rows v && is_named to.run.bit to.run.len u then minterm_bit m (row_bit old (place_in step (source + (v - row)) (from.run.bit + (u - to.run.bit)))) (row_bit old (place_in step v u)) else row_bit old (place_in step v u))) → with_bytes c k to.run.buffer top bytes ≡ drawn (λ p i j. p == k && in_block to i j) (moved_bit m c to from) c
block_moved c k m top count step row source to from old bytes ok wide long there has onto whence shape begins ends starts stops each =
    let w : ℕ = line_bytes c to in
    let P : ℕ → Type 0 = λ n. (v u : ℕ) → u < 8 * n → row_bit bytes (place_in n v u) ≡ (if is_named row to.rows v && is_named to.run.bit to.run.len u then minterm_bit m (row_bit old (place_in n (source + (v - row)) (from.run.bit + (u - to.run.bit)))) (row_bit old (place_in n v u)) else row_bit old (place_in n v u)) in
    let N : ℕ → Type 0 = λ n. HaveLinesBits c k n top count old in
    let same_rows : to.rows ≡ from.rows = shape.rows in
    let same_len : to.run.len ≡ from.run.len = shape.len in
    block_written c (λ i j. draws c i j) k top count to old bytes (moved_bit m c to from) ok long onto there has
    (record {
      first = row;
      has = λ v. is_named row to.rows v;
      value = λ v u q. minterm_bit m (row_bit old (place_in w (source + (v - row)) (from.run.bit + (u - to.run.bit)))) q;
      begins = begins;
      ends = ends;
      rows = λ v _. refl;
      each = subst P wide each;
      same =
          λ dv du q low left.
          let down : source + (row + dv - row) ≡ source + dv = omega arith in
          let across : from.run.bit + (to.run.bit + du - to.run.bit) ≡ from.run.bit + du = omega arith in
          let i : du ≡ to.x + du - to.x = omega arith in
          let j : dv ≡ to.y + dv - to.y = omega arith in
          ap (λ z. minterm_bit m (row_bit old (place_in w z (from.run.bit + (to.run.bit + du - to.run.bit)))) q) down ∙
          ap (λ z. minterm_bit m (row_bit old (place_in w (source + dv) z)) q) across ∙
          ap (λ n. minterm_bit m (row_bit old (place_in n (source + dv) (from.run.bit + du))) q) (sym (same_bytes c to from shape)) ∙
          ap (λ b. minterm_bit m b q) (lent_bit c (λ i j. keeps c i j) k top count source from old dv du whence (subst N shape.buffer has) starts (omega (arith, same_rows, stops)) (omega (arith, same_rows, low)) (omega (arith, same_len, left))) ∙
          ap (λ z. minterm_bit m (bit_of_layer c k (from.x + z) (from.y + dv)) q) i ∙
          ap (λ z. minterm_bit m (bit_of_layer c k (from.x + (to.x + du - to.x)) (from.y + z)) q) j;
    })
