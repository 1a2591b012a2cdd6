-- Laws of lines of a buffer that were lent: what a block of their bits makes of the layer.
use Rattle.std.proofs.Common.{◌≡◌, ℕ, ◌+◌, ◌-◌, ◌*◌, ◌==◌, ◌<◌, ◌≤◌, Bool, true, false, ◌&&◌, nat_le, nat_lt, if◌then◌else◌, List, length, Some, ◌∙◌, sym, refl, ap, subst, arith, ⊎_elim}
use Rattle.std.proofs.lemmas.Bool.{true≢false, cases_Bool}
use Rattle.std.proofs.lemmas.Bool.Decides.{nat_tests}
use Rattle.lw_region.specs.Rectangle.{width}
use Rattle.lw_planes.specs.Row.{row_bit}
use Rattle.lw_planes.specs.Bitmap.{IsBitmap, row_bytes}
use Rattle.lw_planes.proofs.BitmapLaws.{row_bytes_wide}
use Rattle.lw_kernels.specs.Kernel.{is_named, place_in}
use Rattle.lw_machine.specs.Desk.{is_the}
use Rattle.lw_layer.specs.View.{LiveView}
use Rattle.lw_layer.specs.Pieces.{layout_of, buffer_rectangle, buffer_at, column_in, line_in, in_lines, place_from, HaveLines, HaveLinesBits, with_bytes}
use Rattle.lw_layer.proofs.ViewLaws.{has_place}
use Rattle.lw_layer.proofs.StateLaws.{pen_in_line, pen_in_lines}
use Rattle.lw_layer.proofs.LinesLaws.{bytes_in_lines}
use Rattle.lw_draw.specs.Drawn.{drawn}
use Rattle.lw_draw.specs.Blocks.{IsBlock, in_block}
use Rattle.lw_draw.specs.declared.blocks.Block.{Block}
use Rattle.lw_draw.proofs.DrawnLaws.{bits_same, bit_of_layer}
use Rattle.lw_draw.proofs.BlockLaws.{beside}

-- how many bytes a line of the block's buffer has
abbrev pub line_bytes : LiveView → Block → ℕ
line_bytes c b = row_bytes (width (buffer_rectangle (layout_of c) b.run.buffer))

-- Lines from `top` on, `count` of them, were lent for plane k, and in them the bits of a block were changed, whose first line is
-- `first` lines further down: each to what v makes of it, which at its pixel is what new makes.
pub record AreChanged (c : LiveView) (k top count : ℕ) (b : Block) (old bytes : List ℕ) (new : ℕ → ℕ → ℕ → ℕ → ℕ) : Type 0 where
  pub first : ℕ
  pub has : ℕ → Bool
  pub value : ℕ → ℕ → ℕ → ℕ
  pub begins : top + first ≡ b.run.line
  pub ends : first + b.rows ≤ count
  pub rows : (v : ℕ) → v < count → has v ≡ is_named first b.rows v
  pub each : (v u : ℕ) → u < 8 * line_bytes c b → row_bit bytes (place_in (line_bytes c b) v u) ≡ (if has v && is_named b.run.bit b.run.len u then value v u (row_bit old (place_in (line_bytes c b) v u)) else row_bit old (place_in (line_bytes c b) v u))
  pub same : (dv du bit : ℕ) → dv < b.rows → du < b.run.len → value (first + dv) (b.run.bit + du) bit ≡ new k (b.x + du) (b.y + dv) bit

-- a bit of a row whose bits were changed in some places, by those of the layer
value_in_block : (written old bit : ℕ) (named inside : Bool) (f g : ℕ → ℕ) → written ≡ (if named then f old else old) → named ≡ inside → old ≡ bit → (inside ≡ true → (b : ℕ) → f b ≡ g b) → written ≡ (if inside then g bit else bit)
value_in_block written old bit named true f g is same_place same_bit same = is ∙ (ap (λ t. if t then f old else old) same_place ∙ (ap f same_bit ∙ same refl bit))
value_in_block written old bit named false f g is same_place same_bit same = is ∙ (ap (λ t. if t then f old else old) same_place ∙ same_bit)

-- a bit of a plane, in lines and in a block in them
chosen_in_block : (is_plane in_them inside : Bool) (written new old : ℕ) → (is_plane ≡ true → in_them ≡ true → written ≡ (if inside then new else old)) → (in_them ≡ false → inside ≡ false) → (if is_plane && in_them then written else old) ≡ (if is_plane && inside then new else old)
chosen_in_block true true inside written new old here outside = here refl refl
chosen_in_block true false inside written new old here outside = sym (ap (λ t. if t then new else old) (outside refl))
chosen_in_block false in_them inside written new old here outside = refl

-- what is told of a pixel in a block
record IsInBlock (b : Block) (i j : ℕ) : Type 0 where
  down : b.y ≤ j
  up : j < b.y + b.rows
  from : b.x ≤ i
  upto : i < b.x + b.run.len

pixel_in_block : (b : Block) (i j : ℕ) → in_block b i j ≡ true → IsInBlock b i j
pixel_in_block b i j has = record { down = grind (arith, nat_tests); up = grind (arith, nat_tests); from = grind (arith, nat_tests); upto = grind (arith, nat_tests) }

-- a bit of the lent lines is in the block as its pixel is
named_alike : (x y rows len bit line first top i j column at : ℕ) → top + first ≡ line → top ≤ at → column + x ≡ bit + i → at + y ≡ line + j → (is_named first rows (at - top) && is_named bit len column) ≡ (is_named y rows j && is_named x len i)
named_alike x y rows len bit line first top i j column at begins low across down = grind (arith, nat_tests)

-- a pixel with its pen in the lent lines has the bit there that it has in the layer then
bit_changed : (c : LiveView) (test : ℕ → ℕ → Bool) (k top count : ℕ) (b : Block) (old bytes : List ℕ) (new : ℕ → ℕ → ℕ → ℕ → ℕ) (p i j : ℕ) → IsBlock c test b → HaveLinesBits c k b.run.buffer top count old → AreChanged c k top count b old bytes new → p ≡ k → in_lines (layout_of c) b.run.buffer top count i j ≡ true → row_bit bytes (place_from (layout_of c) b.run.buffer top i j) ≡ (if in_block b i j then new p i j (bit_of_layer c p i j) else bit_of_layer c p i j)
bit_changed c test k top count b old bytes new p i j block has are plane inside =
    let l = layout_of c in
    let n = b.run.buffer in
    let first = block.runs 0 block.some in
    let some : b.x < b.x + b.run.len = omega (arith, first.some) in
    let here = pen_in_lines l n top count i j inside in
    let corner = pen_in_line l n (b.run.line + 0) b.x (b.y + 0) (first.inside b.x (omega arith) some) in
    let are_beside = beside l n b.x (b.y + 0) i j corner.1 here.2 in
    let corner_line : line_in l n (b.y + 0) ≡ b.run.line + 0 = corner.0 in
    let corner_column : column_in l n b.x + b.x ≡ b.run.bit + b.x = first.bits b.x (omega arith) some in
    let columns : column_in l n i + b.x ≡ column_in l n b.x + i = are_beside.columns in
    let lines : line_in l n j + (b.y + 0) ≡ line_in l n (b.y + 0) + j = are_beside.lines in
    let across : column_in l n i + b.x ≡ b.run.bit + i = omega (arith, columns, corner_column) in
    let down : line_in l n j + b.y ≡ b.run.line + j = omega (arith, lines, corner_line) in
    let low : top ≤ line_in l n j = here.0 in
    let high : line_in l n j < top + count = here.1 in
    let wide : width (buffer_rectangle l n) ≤ 8 * line_bytes c b = row_bytes_wide (width (buffer_rectangle l n)) in
    let column : column_in l n i < width (buffer_rectangle l n) = (has_place l i j n here.2).column in
    let row : ℕ = line_in l n j - top in
    let named : (are.has row && is_named b.run.bit b.run.len (column_in l n i)) ≡ in_block b i j =
    ap (λ t. t && is_named b.run.bit b.run.len (column_in l n i)) (are.rows row (omega (arith, low, high))) ∙
    named_alike b.x b.y b.rows b.run.len b.run.bit b.run.line are.first top i j (column_in l n i) (line_in l n j) are.begins low across down
    in
    value_in_block (row_bit bytes (place_from l n top i j)) (row_bit old (place_from l n top i j)) (bit_of_layer c p i j) (are.has row && is_named b.run.bit b.run.len (column_in l n i)) (in_block b i j) (are.value row (column_in l n i)) (new p i j)
    (are.each row (column_in l n i) (omega (arith, column, wide)))
    named
    (has i j inside ∙ ap (λ q. bit_of_layer c q i j) (sym plane))
    (λ in_it bit.
    let at = pixel_in_block b i j in_it in
    let du : ℕ = i - b.x in
    let dv : ℕ = j - b.y in
    let left : b.x ≤ i = at.from in
    let upper : b.y ≤ j = at.down in
    let i_is : b.x + du ≡ i = omega arith in
    let j_is : b.y + dv ≡ j = omega arith in
    let begins : top + are.first ≡ b.run.line = are.begins in
    let row_is : row ≡ are.first + dv = omega (arith, down, low, begins) in
    let column_is : column_in l n i ≡ b.run.bit + du = omega (arith, across) in
    ap (λ z. are.value z (column_in l n i) bit) row_is ∙
    (ap (λ z. are.value (are.first + dv) z bit) column_is ∙
    (are.same dv du bit (omega (arith, at.up)) (omega (arith, at.upto)) ∙
    (ap (λ z. new k z (b.y + dv) bit) i_is ∙
    (ap (λ z. new k i z bit) j_is ∙
    ap (λ q. new q i j bit) (sym plane))))))

-- a pixel of a block has its pen in lines that hold those of the block
pub block_inside : (c : LiveView) (test : ℕ → ℕ → Bool) (top count first : ℕ) (b : Block) (i j : ℕ) → IsBlock c test b → top + first ≡ b.run.line → first + b.rows ≤ count → in_block b i j ≡ true → in_lines (layout_of c) b.run.buffer top count i j ≡ true
unfolding in_lines
block_inside c test top count first b i j block begins ends in_it =
    let l = layout_of c in
    let n = b.run.buffer in
    let at = pixel_in_block b i j in_it in
    let dv : ℕ = j - b.y in
    let upper : b.y ≤ j = at.down in
    let lower : j < b.y + b.rows = at.up in
    let j_is : b.y + dv ≡ j = omega arith in
    let pen = pen_in_line l n (b.run.line + dv) i (b.y + dv) ((block.runs dv (omega arith)).inside i at.from at.upto) in
    let found : buffer_at l i j ≡ Some n = ap (λ v. buffer_at l i v) (sym j_is) ∙ pen.1 in
    let line : line_in l n j ≡ b.run.line + dv = ap (λ v. line_in l n v) (sym j_is) ∙ pen.0 in
    let here : (n == n) ≡ true = grind (arith, nat_tests) in
    let after : nat_le top (line_in l n j) ≡ true = grind (arith, nat_tests) in
    let before : nat_lt (line_in l n j) (top + count) ≡ true = grind (arith, nat_tests) in
    ap (λ o. is_the o n && (nat_le top (line_in l n j) && nat_lt (line_in l n j) (top + count))) found ∙
    (ap (λ t. t && (nat_le top (line_in l n j) && nat_lt (line_in l n j) (top + count))) here ∙
    (ap (λ t. t && nat_lt (line_in l n j) (top + count)) after ∙ before))

outside_block : (c : LiveView) (test : ℕ → ℕ → Bool) (top count first : ℕ) (b : Block) (i j : ℕ) → IsBlock c test b → top + first ≡ b.run.line → first + b.rows ≤ count → in_lines (layout_of c) b.run.buffer top count i j ≡ false → in_block b i j ≡ false
outside_block c test top count first b i j block begins ends out =
    ⊎_elim
    (λ (in_it : in_block b i j ≡ true). absurd (true≢false (sym (block_inside c test top count first b i j block begins ends in_it) ∙ out)))
    (λ (off : in_block b i j ≡ false). off)
    (cases_Bool (in_block b i j))

-- Once the bits of a block were changed in lines that were lent for a plane, the layer is drawn on there.
pub block_written : (c : LiveView) (test : ℕ → ℕ → Bool) (k top count : ℕ) (b : Block) (old bytes : List ℕ) (new : ℕ → ℕ → ℕ → ℕ → ℕ) → IsBitmap c.layer.bits → length bytes ≡ count * line_bytes c b → IsBlock c test b → HaveLines (layout_of c) b.run.buffer top count → HaveLinesBits c k b.run.buffer top count old → AreChanged c k top count b old bytes new → with_bytes c k b.run.buffer top bytes ≡ drawn (λ p i j. p == k && in_block b i j) new c
unfolding drawn
block_written c test k top count b old bytes new ok long block there has are =
    let l = layout_of c in
    let n = b.run.buffer in
    bytes_in_lines c k n top count bytes ok there long ∙
    bits_same c (λ p i j. if p == k && in_lines l n top count i j then row_bit bytes (place_from l n top i j) else bit_of_layer c p i j) (λ p i j. if p == k && in_block b i j then new p i j (bit_of_layer c p i j) else bit_of_layer c p i j)
    (λ p i j _ _ _.
    chosen_in_block (p == k) (in_lines l n top count i j) (in_block b i j) _ _ _
    (λ plane inside. let same : p ≡ k = grind (arith, nat_tests) in bit_changed c test k top count b old bytes new p i j block has are same inside)
    (λ out. outside_block c test top count are.first b i j block are.begins are.ends out))

-- Lines that are a block's own were lent, and its bits changed as a kernel over rows says.
pub own_lines_changed : (c : LiveView) (k step : ℕ) (b : Block) (old bytes : List ℕ) (new : ℕ → ℕ → ℕ → ℕ → ℕ) (value : ℕ → ℕ → ℕ → ℕ) → step ≡ line_bytes c b → ((v u : ℕ) → u < 8 * step → row_bit bytes (place_in step v u) ≡ (if nat_lt v b.rows && is_named b.run.bit b.run.len u then value v u (row_bit old (place_in step v u)) else row_bit old (place_in step v u))) → ((dv du bit : ℕ) → dv < b.rows → du < b.run.len → value dv (b.run.bit + du) bit ≡ new k (b.x + du) (b.y + dv) bit) → AreChanged c k b.run.line b.rows b old bytes new
own_lines_changed c k step b old bytes new value wide each same =
    let P : ℕ → Type 0 = λ n. (v u : ℕ) → u < 8 * n → row_bit bytes (place_in n v u) ≡ (if nat_lt v b.rows && is_named b.run.bit b.run.len u then value v u (row_bit old (place_in n v u)) else row_bit old (place_in n v u)) in
    record {
      first = 0;
      has = λ v. nat_lt v b.rows;
      value = value;
      begins = omega arith;
      ends = omega arith;
      rows = λ v low. grind (arith, nat_tests);
      each = subst P wide each;
      same = λ dv du bit low inside. let row : 0 + dv ≡ dv = omega arith in ap (λ z. value z (b.run.bit + du) bit) row ∙ same dv du bit low inside;
    }
