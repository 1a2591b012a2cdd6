-- Blocks of pixels that are written into a bitmap, plane by plane.
use Rattle.std.proofs.Common.{◌≡◌, ℕ, ◌+◌, ◌-◌, ◌*◌, ◌==◌, ◌<◌, ◌≤◌, ◌^◌, Bool, true, false, ◌&&◌, ◌||◌, nat_le, nat_lt, if◌then◌else◌, List, length, ◌∙◌, sym, refl, ap, subst, arith}
use Rattle.std.specs.Int.{bit_at}
use Rattle.std.proofs.lemmas.Bool.{and_parts}
use Rattle.std.proofs.lemmas.Bool.Decides.{nat_tests}
use Rattle.std.proofs.lemmas.Nat.{pow_pos}
use Rattle.std.proofs.lemmas.Nat.Bits.{bit_at-zero}
use Rattle.lw_planes.specs.Row.{row_bit}
use Rattle.lw_planes.specs.Bitmap.{Bitmap, IsBitmap, bitmap, pen_at, row_bytes}
use Rattle.lw_planes.specs.Change.{written_rows, with_row}
use Rattle.lw_planes.proofs.PenLaws.{pen_of_same}
use Rattle.lw_planes.proofs.RowLaws.{row_bit_lt}
use Rattle.lw_planes.proofs.BitmapLaws.{bitmap_from_pens, bitmap_same, row_bytes_wide}
use Rattle.lw_planes.proofs.ChosenLaws.{chosen_nowhere, chosen_more, chosen_whole}
use Rattle.lw_planes.specs.Minterm.{minterm_bit}
use Rattle.lw_kernels.specs.Kernel.{is_named, place_in}
use Rattle.lw_kernels.proofs.ByteLaws.{minterm_copies}
use Rattle.lw_strips.specs.Blocks.{IsBlockOf, IsBlockIn, in_block, block_pen, with_block, without_block}
use Rattle.lw_strips.specs.Bits.{with_bits}
use Rattle.lw_strips.specs.declared.block.Block.{Block}
use Rattle.lw_strips.proofs.RowsLaws.{bit_in_rows}

pub bits_depth : (on : ℕ → ℕ → ℕ → Bool) (pens : ℕ → ℕ → ℕ) (b c : Bitmap) → c ≡ with_bits on pens b → c.depth ≡ b.depth
unfolding with_bits
bits_depth on pens b c is = ap (λ (q : Bitmap). q.depth) is

-- no bit written
pub bits_nowhere : (on : ℕ → ℕ → ℕ → Bool) (pens : ℕ → ℕ → ℕ) (b : Bitmap) → IsBitmap b → ((p x y : ℕ) → on p x y ≡ false) → b ≡ with_bits on pens b
unfolding with_bits
bits_nowhere on pens b ok none = chosen_nowhere on pens b ok none

-- more bits written
pub bits_more : (on more both : ℕ → ℕ → ℕ → Bool) (pens : ℕ → ℕ → ℕ) (b c d : Bitmap) → c ≡ with_bits on pens b → d ≡ with_bits more pens c
    → ((p x y : ℕ) → p < b.depth → both p x y ≡ (more p x y || on p x y)) → d ≡ with_bits both pens b
unfolding with_bits
bits_more on more both pens b c d was is whole = chosen_more on more both pens b c d was is whole

-- the block lies in the bitmap still
pub block_stays : (on : ℕ → ℕ → ℕ → Bool) (pens : ℕ → ℕ → ℕ) (k : Block) (s b c : Bitmap) → c ≡ with_bits on pens b → IsBlockOf k b s → IsBlockOf k c s
unfolding with_bits
block_stays on pens k s b c is ok =
    let P : Bitmap → Type 0 = λ q. IsBlockOf k q s in
    subst P (sym is) (record {
      right = ok.right;
      lower = ok.lower;
      source_right = ok.source_right;
      source_lower = ok.source_lower;
      planes = ok.planes;
    })

pub block_stays_in : (on : ℕ → ℕ → ℕ → Bool) (pens : ℕ → ℕ → ℕ) (k : Block) (b c : Bitmap) → c ≡ with_bits on pens b → IsBlockIn k b → IsBlockIn k c
unfolding with_bits
block_stays_in on pens k b c is ok =
    let P : Bitmap → Type 0 = λ q. IsBlockIn k q in
    subst P (sym is) (record {
      right = ok.right;
      lower = ok.lower;
    })

-- where the source has a pixel of the block
source_inside : (x from count column width : ℕ) → is_named from count x ≡ true → column + count ≤ width
    → column + (x - from) < width
source_inside x from count column width named fits = grind (arith, nat_tests)

-- a block of no row has no pixel
no_row : (from count y : ℕ) → count ≡ 0 → is_named from count y ≡ false
no_row from count y none = grind (arith, nat_tests)

off_rows : (t u : Bool) → u ≡ false → (t && u) ≡ false
off_rows true u is = is
off_rows false u is = refl

pub block_nowhere : (k : Block) (pens : ℕ → ℕ → ℕ) (b : Bitmap) → IsBitmap b → k.height ≡ 0 → b ≡ bitmap b.width b.height b.depth (λ x y. if in_block k x y then pens x y else pen_at b x y)
block_nowhere k pens b ok none =
    bitmap_from_pens b _ ok
    (λ x y _ _.
    let off : in_block k x y ≡ false = off_rows (is_named k.x k.width x) (is_named k.y k.height y) (no_row k.y k.height y none) in
    sym (ap (λ t. if t then pens x y else pen_at b x y) off))

-- all planes of the block written
pub block_whole : (on : ℕ → ℕ → ℕ → Bool) (k : Block) (s b c : Bitmap) → IsBlockOf k b s → IsBitmap b → IsBitmap s → c ≡ with_bits on (block_pen k s) b
    → ((p x y : ℕ) → p < b.depth → on p x y ≡ in_block k x y) → c ≡ with_block k s b
unfolding with_bits
block_whole on k s b c ok to_ok source_ok is all =
    chosen_whole on (in_block k) (block_pen k s) b c to_ok is all
    (λ x y inside.
    let halves = and_parts _ _ inside in
    let P : ℕ → Type 0 = λ n. block_pen k s x y < 2 ^ n in
    subst P ok.planes (source_ok.pens _ _
    (source_inside x k.x k.width k.source_x s.width halves.0 ok.source_right)
    (source_inside y k.y k.height k.source_y s.height halves.1 ok.source_lower)))

-- all planes of the block cleared
pub block_cleared : (on : ℕ → ℕ → ℕ → Bool) (k : Block) (b c : Bitmap) → IsBitmap b → c ≡ with_bits on (λ _ _. 0) b
    → ((p x y : ℕ) → p < b.depth → on p x y ≡ in_block k x y) → c ≡ without_block k b
unfolding with_bits
block_cleared on k b c ok is all = chosen_whole on (in_block k) (λ _ _. 0) b c ok is all (λ x y inside. pow_pos b.depth)

-- a bit of a block's line that `combine_rows` copied
copied_bit : (t : Bool) (source old : ℕ) → source < 2 → (if t then minterm_bit 192 source old else old) ≡ (if t then source else old)
copied_bit true source old small = minterm_copies 192 source old small refl
copied_bit false source old small = refl

pub line_combined : (k : Block) (to_step source_step columns : ℕ) (new source old : List ℕ) → columns ≤ 8 * to_step
    → ((y x : ℕ) → x < 8 * to_step → row_bit new (place_in to_step y x) ≡ (if nat_lt y k.height && is_named k.x k.width x then minterm_bit 192 (row_bit source (place_in source_step y (k.source_x + (x - k.x)))) (row_bit old (place_in to_step y x)) else row_bit old (place_in to_step y x)))
    → (x j : ℕ) → x < columns → j < k.height
    → row_bit new (place_in to_step j x) ≡ (if is_named k.x k.width x then row_bit source (place_in source_step j (k.source_x + (x - k.x))) else row_bit old (place_in to_step j x))
line_combined k to_step source_step columns new source old wide each x j left low =
    let now : ℕ = row_bit source (place_in source_step j (k.source_x + (x - k.x))) in
    let was : ℕ = row_bit old (place_in to_step j x) in
    let below : nat_lt j k.height ≡ true = grind (arith, nat_tests) in
    each j x (omega arith)
    ∙ (ap (λ t. if t && is_named k.x k.width x then minterm_bit 192 now was else was) below
    ∙ copied_bit (is_named k.x k.width x) now was (row_bit_lt source (place_in source_step j (k.source_x + (x - k.x)))))

-- a bit of one of the lines that were written, read as one of the whole bitmap
line_chosen : (p plane y top rows : ℕ) (t : Bool) (v a old here : ℕ)
    → (p ≡ plane → top ≤ y → y < top + rows → v ≡ (if t then a else here)) → (p ≡ plane → top ≤ y → y < top + rows → here ≡ old)
    → (if p == plane && (nat_le top y && nat_lt y (top + rows)) then v else old) ≡ (if p == plane && (t && is_named top rows y) then a else old)
line_chosen p plane y top rows true v a old here new same = grind (arith, nat_tests)
line_chosen p plane y top rows false v a old here new same = grind (arith, nat_tests)

-- One plane of the lines of a block once they were written: the bits of these pens in the block.
pub lines_written : (k : Block) (pens : ℕ → ℕ → ℕ) (b : Bitmap) (plane : ℕ) (old new : List ℕ) → IsBitmap b → k.y + k.height ≤ b.height
    → length new ≡ k.height * row_bytes b.width
    → ((x j : ℕ) → x < b.width → j < k.height → row_bit old (8 * (j * row_bytes b.width) + x) ≡ bit_at (pen_at b x (k.y + j)) plane)
    → ((x j : ℕ) → x < b.width → j < k.height → row_bit new (place_in (row_bytes b.width) j x) ≡ (if is_named k.x k.width x then bit_at (pens x (k.y + j)) plane else row_bit old (place_in (row_bytes b.width) j x)))
    → with_row b plane k.y new ≡ with_bits (λ p x y. p == plane && in_block k x y) pens b
unfolding with_bits written_rows
lines_written k pens b plane old new ok low long was each =
    bitmap_same b.width b.height b.depth _ _
    (λ x y left inside. pen_of_same b.depth _ _
    (λ p deep.
    let m : ℕ = row_bytes b.width in
    let line : (top : k.y ≤ y) → k.y + (y - k.y) ≡ y = λ top. omega arith in
    bit_in_rows b.width b.height plane k.y k.height new x y p (bit_at (pen_at b x y) p) low long left inside
    ∙ line_chosen p plane y k.y k.height (is_named k.x k.width x) (row_bit new (8 * ((y - k.y) * m) + x)) (bit_at (pens x y) p) (bit_at (pen_at b x y) p) (row_bit old (8 * ((y - k.y) * m) + x))
    (λ same top below.
    each x (y - k.y) left (omega arith)
    ∙ (ap (λ j. if is_named k.x k.width x then bit_at (pens x j) plane else row_bit old (8 * ((y - k.y) * m) + x)) (line top)
    ∙ ap (λ q. if is_named k.x k.width x then bit_at (pens x y) q else row_bit old (8 * ((y - k.y) * m) + x)) (sym same)))
    (λ same top below.
    was x (y - k.y) left (omega arith) ∙ (ap (λ j. bit_at (pen_at b x j) plane) (line top) ∙ ap (λ q. bit_at (pen_at b x y) q) (sym same)))))

-- a bit of a line, read from the source's line
line_read : (t : Bool) (k : Block) (s b : Bitmap) (plane x j : ℕ) (lines : List ℕ) (old : ℕ) → IsBlockOf k b s → is_named k.x k.width x ≡ t → j < k.height
    → ((u i : ℕ) → u < s.width → i < k.height → row_bit lines (8 * (i * row_bytes s.width) + u) ≡ bit_at (pen_at s u (k.source_y + i)) plane)
    → (if t then row_bit lines (place_in (row_bytes s.width) j (k.source_x + (x - k.x))) else old) ≡ (if t then bit_at (block_pen k s x (k.y + j)) plane else old)
line_read true k s b plane x j lines old ok named low bits =
    let column : ℕ = k.source_x + (x - k.x) in
    let at : j ≡ (k.y + j) - k.y = omega arith in
    bits column j (source_inside x k.x k.width k.source_x s.width named ok.source_right) low ∙ ap (λ i. bit_at (pen_at s column (k.source_y + i)) plane) at
line_read false k s b plane x j lines old ok named low bits = refl

-- one plane of the block once its lines were copied
pub plane_copied : (k : Block) (s b : Bitmap) (plane to_step source_step columns : ℕ) (lines old new : List ℕ) → IsBlockOf k b s → IsBitmap b → columns ≡ b.width → to_step ≡ row_bytes b.width → source_step ≡ row_bytes s.width
    → length new ≡ k.height * row_bytes b.width
    → ((x j : ℕ) → x < s.width → j < k.height → row_bit lines (8 * (j * row_bytes s.width) + x) ≡ bit_at (pen_at s x (k.source_y + j)) plane)
    → ((x j : ℕ) → x < b.width → j < k.height → row_bit old (8 * (j * row_bytes b.width) + x) ≡ bit_at (pen_at b x (k.y + j)) plane)
    → ((x j : ℕ) → x < columns → j < k.height → row_bit new (place_in to_step j x) ≡ (if is_named k.x k.width x then row_bit lines (place_in source_step j (k.source_x + (x - k.x))) else row_bit old (place_in to_step j x)))
    → with_row b plane k.y new ≡ with_bits (λ p x y. p == plane && in_block k x y) (block_pen k s) b
plane_copied k s b plane to_step source_step columns lines old new ok to_ok is_columns is_to is_source long from was each =
    lines_written k (block_pen k s) b plane old new to_ok ok.lower long was
    (λ x j left low.
    (rw (is_to, is_source) at (each x j (omega (arith, is_columns)) low))
    ∙ line_read (is_named k.x k.width x) k s b plane x j lines (row_bit old (place_in (row_bytes b.width) j x)) ok refl low from)

-- one plane of the block once its lines were filled with zeros
pub plane_cleared : (k : Block) (b : Bitmap) (plane step : ℕ) (old new : List ℕ) → IsBlockIn k b → IsBitmap b → step ≡ row_bytes b.width
    → length new ≡ k.height * row_bytes b.width
    → ((x j : ℕ) → x < b.width → j < k.height → row_bit old (8 * (j * row_bytes b.width) + x) ≡ bit_at (pen_at b x (k.y + j)) plane)
    → ((y x : ℕ) → x < 8 * step → row_bit new (place_in step y x) ≡ (if nat_lt y k.height && is_named k.x k.width x then 0 else row_bit old (place_in step y x)))
    → with_row b plane k.y new ≡ with_bits (λ p x y. p == plane && in_block k x y) (λ _ _. 0) b
plane_cleared k b plane step old new ok to_ok is_step long was each =
    lines_written k (λ _ _. 0) b plane old new to_ok ok.lower long was
    (λ x j left low.
    let wide = row_bytes_wide b.width in
    let below : nat_lt j k.height ≡ true = grind (arith, nat_tests) in
    let past : ℕ = row_bit old (place_in (row_bytes b.width) j x) in
    (rw is_step at (each j x (omega (arith, is_step))))
    ∙ (ap (λ t. if t && is_named k.x k.width x then 0 else past) below ∙ ap (λ n. if is_named k.x k.width x then n else past) (sym (bit_at-zero plane))))
