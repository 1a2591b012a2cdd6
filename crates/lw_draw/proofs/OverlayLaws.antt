-- Laws of rows of bits that lie over a block.
use Rattle.std.proofs.Common.{◌≡◌, ℕ, ◌+◌, ◌-◌, ◌*◌, ◌/◌, ◌%◌, ◌==◌, ◌<◌, ◌≤◌, Bool, true, ◌&&◌, List, get_or, length, drop, slice_index, ◌∙◌, sym, ap, arith}
use Rattle.std.specs.Int.{bit_at}
use Rattle.std.proofs.lemmas.Bool.Decides.{nat_tests}
use Rattle.std.proofs.lemmas.List.{get_or-drop}
use Rattle.lw_planes.specs.Row.{row_bit}
use Rattle.lw_planes.specs.Minterm.{minterm_bit}
use Rattle.lw_kernels.specs.Kernel.{place_in}
use Rattle.lw_layer.specs.View.{LiveView}
use Rattle.lw_draw.specs.Drawn.{drawn}
use Rattle.lw_draw.specs.Blocks.{IsBlock, in_block, block_bit}
use Rattle.lw_draw.specs.Combined.{is_over, combined_over}
use Rattle.lw_draw.specs.declared.blocks.Block.{Block}
use Rattle.lw_draw.specs.declared.overlay.Overlay.{Overlay}
use Rattle.lw_draw.proofs.DrawnLaws.{drawn_alike}

-- the bits of rows of bytes without the first ones
row_bit_drop : (n : ℕ) (bytes : List ℕ) (p : ℕ) → row_bit (drop n bytes) p ≡ row_bit bytes (8 * n + p)
unfolding row_bit
row_bit_drop n bytes p =
    let place : (8 * n + p) / 8 ≡ n + p / 8 = omega arith in
    let rest : (8 * n + p) % 8 ≡ p % 8 = omega arith in
    ap (λ v. bit_at v (7 - p % 8)) (get_or-drop n bytes (p / 8) 0 ∙ ap (λ i. get_or bytes i 0) (sym place)) ∙
    ap (λ r. bit_at (slice_index bytes ((8 * n + p) / 8)) (7 - r)) (sym rest)

-- what is told of rows of bits that lie over a block
pub record AreOver (o : Overlay) (count : ℕ) (b : Block) : Type 0 where
  pub column : o.column ≤ b.x
  pub inside : o.bit + (b.x - o.column) + b.run.len ≤ 8 * o.step
  pub row : o.row ≤ b.y
  pub all : (b.y - o.row) * o.step + b.rows * o.step ≤ count

-- a sum of rows
rows_sum : (a b n : ℕ) → (a + b) * n ≡ a * n + b * n
rows_sum a b n = omega arith

pub are_over : (c : LiveView) (test : ℕ → ℕ → Bool) (o : Overlay) (count : ℕ) (b : Block) → IsBlock c test b → ((i j : ℕ) → in_block b i j ≡ true → is_over o count i j ≡ true) → AreOver o count b
are_over c test o count b block over =
    let some : 0 < b.rows = block.some in
    let long : 0 < b.run.len = (block.runs 0 some).some in
    let i : ℕ = b.x + (b.run.len - 1) in
    let j : ℕ = b.y + (b.rows - 1) in
    let first : in_block b b.x b.y ≡ true = grind (arith, nat_tests) in
    let last : in_block b i j ≡ true = grind (arith, nat_tests) in
    let begins = over b.x b.y first in
    let ends = over i j last in
    let column : o.column ≤ b.x = grind (arith, nat_tests) in
    let row : o.row ≤ b.y = grind (arith, nat_tests) in
    let right : o.bit + (i - o.column) < 8 * o.step = grind (arith, nat_tests) in
    let bottom : (j - o.row + 1) * o.step ≤ count = grind (arith, nat_tests) in
    let down : j - o.row + 1 ≡ (b.y - o.row) + b.rows = omega arith in
    let sum : (j - o.row + 1) * o.step ≡ (b.y - o.row) * o.step + b.rows * o.step = ap (λ n. n * o.step) down ∙ rows_sum (b.y - o.row) b.rows o.step in
    record { column = column; inside = omega arith; row = row; all = omega (arith, sum, bottom) }

-- What a minterm makes of rows of bits that lie over a block.
pub over_combined : (c : LiveView) (k m skipped bit : ℕ) (b : Block) (bytes : List ℕ) (o : Overlay) → AreOver o (length bytes) b → skipped ≡ (b.y - o.row) * o.step → bit ≡ o.bit + (b.x - o.column) → drawn (λ p i j. p == k && in_block b i j) (block_bit m (drop skipped bytes) o.step bit b) c ≡ drawn (λ p i j. p == k && in_block b i j) (combined_over m bytes o) c
over_combined c k m skipped bit b bytes o over above left =
    drawn_alike c (λ p i j. p == k && in_block b i j) (block_bit m (drop skipped bytes) o.step bit b) (combined_over m bytes o)
    (λ p i j q _ _ _ has _.
    let from : b.x ≤ i = grind (arith, nat_tests) in
    let down : b.y ≤ j = grind (arith, nat_tests) in
    let starts : o.column ≤ b.x = over.column in
    let upper : o.row ≤ b.y = over.row in
    let rows : j - o.row ≡ (b.y - o.row) + (j - b.y) = omega arith in
    let product : (j - o.row) * o.step ≡ (b.y - o.row) * o.step + (j - b.y) * o.step = ap (λ n. n * o.step) rows ∙ rows_sum (b.y - o.row) (j - b.y) o.step in
    let place : 8 * skipped + place_in o.step (j - b.y) (bit + (i - b.x)) ≡ place_in o.step (j - o.row) (o.bit + (i - o.column)) = omega (arith, product, above, left, from, starts) in
    ap (λ z. minterm_bit m z q) (row_bit_drop skipped bytes (place_in o.step (j - b.y) (bit + (i - b.x))) ∙ ap (λ z. row_bit bytes z) place))
