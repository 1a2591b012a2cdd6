-- Laws of painting a block of one row from rows that were read.
use Rattle.std.proofs.Common.{◌≡◌, ℕ, zero, suc, ◌+◌, ◌-◌, ◌<◌, ◌≤◌, ◌==◌, min, max, Bool, true, false, nat_le, nat_lt, ◌&&◌, ◌||◌, if◌then◌else◌, List, bit_and, bit_or, ◌∙◌, sym, refl, ap, arith}
use Rattle.std.specs.Int.{bit_at}
use Rattle.std.proofs.lemmas.Bool.Decides.{nat_tests}
use Rattle.std.proofs.lemmas.Nat.Bits.{bit_at-lt, bit_at_and, bit_at_or}
use Rattle.lw_planes.specs.Row.{row_bit}
use Rattle.lw_planes.specs.Minterm.{minterm_bit}
use Rattle.lw_planes.proofs.RowLaws.{row_bit_lt}
use Rattle.lw_planes.proofs.ChosenLaws.{minterm_bit_lt}
use Rattle.lw_kernels.specs.Kernel.{is_between, is_named, place_in}
use Rattle.lw_layer.specs.View.{LiveView}
use Rattle.lw_draw.specs.Drawn.{drawn, GivesBits}
use Rattle.lw_draw.specs.Blocks.{IsBlock, in_block, block_bit}
use Rattle.lw_draw.specs.declared.blocks.Block.{Block}
use Rattle.lw_draw.proofs.DrawnLaws.{bits_same, bit_of_layer, bit_drawn}
use Rattle.lw_draw.proofs.PaintLaws.{layer_alike}
use Rattle.lw_blit.specs.Blitting.{blended, from_rows, plane_of, takes}
use Rattle.lw_blit.specs.declared.sources.SourceRows.{SourceRows}
use Rattle.lw_blit.proofs.BitmapLaws.{pixel_of, in_block_at}

-- a bit of a byte that a mask cuts and 0x20 is joined to
cut_bit : (m k : ℕ) → bit_at (bit_or (bit_and m 192) 32) k ≡ max (min (bit_at m k) (bit_at 192 k)) (bit_at 32 k)
cut_bit m k = bit_at_or (bit_and m 192) 32 k ∙ ap (λ b. max b (bit_at 32 k)) (bit_at_and m 192 k)

-- the values of such a minterm
pub cut_values : (m b c : ℕ) → c < 2 → minterm_bit (bit_or (bit_and m 192) 32) b c ≡ (if b == 1 then (if c == 1 then bit_at m 7 else bit_at m 6) else c)
cut_values m b c small =
    let seven : bit_at (bit_or (bit_and m 192) 32) 7 ≡ bit_at m 7 = let some = bit_at-lt m 7 in cut_bit m 7 ∙ omega (arith, some) in
    let six : bit_at (bit_or (bit_and m 192) 32) 6 ≡ bit_at m 6 = let some = bit_at-lt m 6 in cut_bit m 6 ∙ omega (arith, some) in
    let five : bit_at (bit_or (bit_and m 192) 32) 5 ≡ 1 = let some = bit_at-lt m 5 in cut_bit m 5 ∙ omega (arith, some) in
    let four : bit_at (bit_or (bit_and m 192) 32) 4 ≡ 0 = let some = bit_at-lt m 4 in cut_bit m 4 ∙ omega (arith, some) in
    grind (arith, nat_tests)

-- what is blended is a bit
pub blended_small : (m : ℕ) (takes : Bool) (source old : ℕ) → old < 2 → blended m takes source old < 2
blended_small m true source old small = minterm_bit_lt m source old
blended_small m false source old small = small

pub rows_give_bits : (m : ℕ) (r : SourceRows) (first : ℕ) → GivesBits (from_rows m r first)
rows_give_bits m r first p x y old small = blended_small m (takes r p (x - first)) (row_bit (plane_of r p) (x - first)) old small

-- a layer drawn on twice at the same places
chosen_again : (on : Bool) (f g : ℕ → ℕ) (old : ℕ) → (if on then g (if on then f old else old) else (if on then f old else old)) ≡ (if on then g (f old) else old)
chosen_again true f g old = refl
chosen_again false f g old = refl

pub drawn_again : (c : LiveView) (on : ℕ → ℕ → ℕ → Bool) (f g : ℕ → ℕ → ℕ → ℕ → ℕ) → GivesBits f → drawn on g (drawn on f c) ≡ drawn on (λ p x y old. g p x y (f p x y old)) c
unfolding drawn
drawn_again c on f g gives =
    bits_same c (λ p x y. if on p x y then g p x y (bit_of_layer (drawn on f c) p x y) else bit_of_layer (drawn on f c) p x y) (λ p x y. if on p x y then g p x y (f p x y (bit_of_layer c p x y)) else bit_of_layer c p x y)
    (λ p x y deep left low.
    ap (λ b. if on p x y then g p x y b else b) (bit_drawn c on f p x y gives deep left low) ∙
    chosen_again (on p x y) (f p x y) (g p x y) (bit_of_layer c p x y))

pub block_gives_bits : (m : ℕ) (bytes : List ℕ) (step bit : ℕ) (b : Block) → GivesBits (block_bit m bytes step bit b)
block_gives_bits m bytes step bit b p x y old small = minterm_bit_lt m (row_bit bytes (place_in step (y - b.y) (bit + (x - b.x)))) old

-- where the source of a pixel is in the rows that were read
row_place : (x y rows first i j : ℕ) → rows ≡ 1 → first ≤ x → x ≤ i → y ≤ j → j < y + rows → place_in 256 (j - y) (x - first + (i - x)) ≡ i - first
row_place x y rows first i j one starts from top bottom = omega (arith, one, starts, from, top, bottom)

-- Pixels that all take their sources.
full_value : (m : ℕ) (all rest : Bool) (b old : ℕ) → all ≡ true → minterm_bit m b old ≡ blended m (all || rest) b old
full_value m true rest b old is = refl
full_value m false rest b old is = absurd (cc is)

pub plane_full : (v w : LiveView) (k m first : ℕ) (s : Block) (r : SourceRows) → r.all ≡ true → s.rows ≡ 1 → first ≤ s.x → w ≡ drawn (λ p i j. p == k && in_block s i j) (block_bit m (plane_of r k) 256 (s.x - first) s) v → w ≡ drawn (λ p i j. p == k && in_block s i j) (from_rows m r first) v
plane_full v w k m first s r all one starts is =
    layer_alike v w (λ p i j. p == k && in_block s i j) (block_bit m (plane_of r k) 256 (s.x - first) s) (from_rows m r first) is
    (λ p i j old _ _ _ on _.
    let at = pixel_of k s p i j on in
    ap (λ n. minterm_bit m (row_bit (plane_of r k) n) old) (row_place s.x s.y s.rows first i j one starts at.first at.top at.bottom) ∙
    (ap (λ q. minterm_bit m (row_bit (plane_of r q) (i - first)) old) (sym at.deep) ∙
    full_value m r.all (row_bit (plane_of r p) (i - first) == 1 || row_bit r.kept (i - first) == 1) (row_bit (plane_of r p) (i - first)) old all))

-- what is told of the two minterms
pub record AreParts (m set clear : ℕ) : Type 0 where
  pub of_set : (c : ℕ) → c < 2 → minterm_bit set 1 c ≡ minterm_bit m 1 c
  pub kept : (c : ℕ) → c < 2 → minterm_bit set 0 c ≡ c
  pub of_clear : (c : ℕ) → c < 2 → minterm_bit clear 1 c ≡ minterm_bit m 0 c
  pub left : (c : ℕ) → c < 2 → minterm_bit clear 0 c ≡ c

-- A bit that is painted where its source is set and then where it isn't.
two_values : (m set clear b t old : ℕ) → AreParts m set clear → b < 2 → t < 2 → old < 2 → minterm_bit clear (minterm_bit 32 b t) (minterm_bit set b old) ≡ blended m (b == 1 || t == 1) b old
two_values m set clear zero zero old are bit there small = are.left (minterm_bit set 0 old) (minterm_bit_lt set 0 old) ∙ are.kept old small
two_values m set clear zero (suc zero) old are bit there small = are.of_clear (minterm_bit set 0 old) (minterm_bit_lt set 0 old) ∙ ap (λ c. minterm_bit m 0 c) (are.kept old small)
two_values m set clear zero (suc (suc t)) old are bit there small = absurd (omega (arith, there))
two_values m set clear (suc zero) zero old are bit there small = are.left (minterm_bit set 1 old) (minterm_bit_lt set 1 old) ∙ are.of_set old small
two_values m set clear (suc zero) (suc zero) old are bit there small = are.left (minterm_bit set 1 old) (minterm_bit_lt set 1 old) ∙ are.of_set old small
two_values m set clear (suc zero) (suc (suc t)) old are bit there small = absurd (omega (arith, there))
two_values m set clear (suc (suc b)) t old are bit there small = absurd (omega (arith, bit))

some_value : (m : ℕ) (all rest : Bool) (b old : ℕ) → all ≡ false → blended m rest b old ≡ blended m (all || rest) b old
some_value m true rest b old is = absurd (cc is)
some_value m false rest b old is = refl

pub plane_in_parts : (v w u : LiveView) (k m set clear first : ℕ) (s : Block) (r : SourceRows) (unset : List ℕ) → AreParts m set clear → r.all ≡ false → s.rows ≡ 1 → first ≤ s.x → ((n : ℕ) → row_bit unset n ≡ (if is_named (s.x - first) s.run.len n then minterm_bit 32 (row_bit (plane_of r k) (s.x - first + (n - (s.x - first)))) (row_bit r.kept n) else row_bit r.kept n)) → w ≡ drawn (λ p i j. p == k && in_block s i j) (block_bit set (plane_of r k) 256 (s.x - first) s) v → u ≡ drawn (λ p i j. p == k && in_block s i j) (block_bit clear unset 256 (s.x - first) s) w → u ≡ drawn (λ p i j. p == k && in_block s i j) (from_rows m r first) v
plane_in_parts v w u k m set clear first s r unset are some one starts left was is =
    let place : ℕ = s.x - first in
    let f = block_bit set (plane_of r k) 256 place s in
    let g = block_bit clear unset 256 place s in
    let on : ℕ → ℕ → ℕ → Bool = λ p i j. p == k && in_block s i j in
    layer_alike v u on (λ p x y old. g p x y (f p x y old)) (from_rows m r first)
    (is ∙ (ap (drawn on g) was ∙ (drawn_again v on f g (block_gives_bits set (plane_of r k) 256 place s))))
    (λ p i j old _ _ _ inside small.
    let at = pixel_of k s p i j inside in
    let from : s.x ≤ i = at.first in
    let before : i < s.x + s.run.len = at.last in
    let n : ℕ = i - first in
    let spot = row_place s.x s.y s.rows first i j one starts from at.top at.bottom in
    let low : place ≤ n = omega (arith, starts, from) in
    let high : n < place + s.run.len = omega (arith, starts, from, before) in
    let same : place + (n - place) ≡ n = omega (arith, low) in
    let named : is_named place s.run.len n ≡ true = grind (arith, nat_tests) in
    let second : row_bit unset n ≡ minterm_bit 32 (row_bit (plane_of r k) n) (row_bit r.kept n) =
    left n ∙ (ap (λ t. if t then minterm_bit 32 (row_bit (plane_of r k) (place + (n - place))) (row_bit r.kept n) else row_bit r.kept n) named ∙ ap (λ q. minterm_bit 32 (row_bit (plane_of r k) q) (row_bit r.kept n)) same) in
    ap (λ z. minterm_bit clear (row_bit unset z) (minterm_bit set (row_bit (plane_of r k) z) old)) spot ∙
    (ap (λ b. minterm_bit clear b (minterm_bit set (row_bit (plane_of r k) n) old)) second ∙
    (two_values m set clear (row_bit (plane_of r k) n) (row_bit r.kept n) old are (row_bit_lt (plane_of r k) n) (row_bit_lt r.kept n) small ∙
    (some_value m r.all (row_bit (plane_of r k) n == 1 || row_bit r.kept n == 1) (row_bit (plane_of r k) n) old some ∙
    ap (λ q. blended m (takes r q n) (row_bit (plane_of r q) n) old) (sym at.deep)))))

-- what is told of a block in one row
pub record IsInRow (first : ℕ) (b : Block) : Type 0 where
  pub one : b.rows ≡ 1
  pub starts : first ≤ b.x
  pub right : b.x + b.run.len ≤ 2048

pub block_in_row : (c : LiveView) (test : ℕ → ℕ → Bool) (y first : ℕ) (b : Block) → IsBlock c test b → ((i j : ℕ) → in_block b i j ≡ true → (j == y && (nat_le first i && nat_lt i 2048)) ≡ true) → IsInRow first b
block_in_row c test y first b block reached =
    let wide : 0 < b.run.len = (block.runs 0 block.some).some in
    let high : 0 < b.rows = block.some in
    let upper = reached (b.x + 0) (b.y + 0) (in_block_at b 0 0 wide high) in
    let lower = reached (b.x + (b.run.len - 1)) (b.y + (b.rows - 1)) (in_block_at b (b.run.len - 1) (b.rows - 1) (omega (arith, wide)) (omega (arith, high))) in
    let top : b.y + 0 ≡ y = grind (arith, nat_tests) in
    let left : first ≤ b.x + 0 = grind (arith, nat_tests) in
    let bottom : b.y + (b.rows - 1) ≡ y = grind (arith, nat_tests) in
    let right : b.x + (b.run.len - 1) < 2048 = grind (arith, nat_tests) in
    record { one = omega (arith, top, bottom, high); starts = omega (arith, left); right = omega (arith, right, wide) }

-- the pixels of some columns of a row
pub in_columns : (drawable : Bool) (y from end i j : ℕ) → end ≤ 2048 → (is_between y (y + 1) j && (is_between from end i && drawable)) ≡ true → (j == y && (nat_le from i && nat_lt i 2048)) ≡ true
in_columns drawable y from end i j right on = grind (arith, nat_tests)
