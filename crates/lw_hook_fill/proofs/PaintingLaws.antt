-- Laws of painting blocks with a tile.
use Rattle.std.proofs.Common.{◌≡◌, ℕ, ◌+◌, ◌-◌, ◌*◌, ◌/◌, ◌%◌, ◌==◌, ◌<◌, ◌≤◌, Bool, true, false, ◌&&◌, ◌||◌, List, [], replicate, ◌∙◌, sym, refl, ap, arith}
use Rattle.std.specs.Int.{bit_at}
use Rattle.std.specs.List.{slice_index_or}
use Rattle.std.proofs.lemmas.Bool.Decides.{nat_tests}
use Rattle.std.proofs.lemmas.List.{get_or-replicate}
use Rattle.std.proofs.lemmas.Nat.Bits.{bit_at-lt}
use Rattle.lw_planes.specs.Row.{row_bit}
use Rattle.lw_planes.specs.Minterm.{minterm_bit}
use Rattle.lw_planes.specs.Bitmap.{IsBitmap}
use Rattle.lw_planes.specs.Sizes.{IsPlanes}
use Rattle.lw_kernels.specs.Kernel.{is_named}
use Rattle.lw_kernels.proofs.ByteLaws.{minterm_copies}
use Rattle.lw_layer.specs.Pieces.{layout_of}
use Rattle.lw_layer.specs.View.{LiveView, draws}
use Rattle.lw_layer.proofs.StateLaws.{pen_in_line}
use Rattle.lw_layer.proofs.ViewLaws.{has_place}
use Rattle.lw_draw.specs.Blocks.{IsBlock, in_block, block_bit}
use Rattle.lw_draw.specs.Drawn.{drawn, GivesBits}
use Rattle.lw_draw.specs.declared.blocks.Block.{Block}
use Rattle.lw_draw.proofs.PaintLaws.{layer_nowhere, layer_alike, layer_more}
use Rattle.lw_hook_fill.specs.Filling.{byte_bit, tile_bit}

-- what a tile gives are bits
pub tile_gives_bits : (tile : List (List ℕ)) → GivesBits (tile_bit tile)
tile_gives_bits tile p x y old small = bit_at-lt (slice_index_or (slice_index_or tile (y % 8) []) p 0) (7 - x % 8)

-- a row of equal bytes
equal_bytes : (n byte x : ℕ) → x / 8 < n → row_bit (replicate n byte) x ≡ byte_bit byte x
unfolding row_bit
equal_bytes n byte x near = ap (λ b. bit_at b (7 - x % 8)) (get_or-replicate n (x / 8) byte 0 near)

-- what is told of a pixel of a block of one row in one plane
record IsAt (k : ℕ) (b : Block) (p i j : ℕ) : Type 0 where
  pub deep : p ≡ k
  pub first : b.x ≤ i
  pub last : i < b.x + b.run.len
  pub down : j ≡ b.y

pixel_of : (k : ℕ) (b : Block) (p i j : ℕ) → b.rows ≡ 1 → (p == k && in_block b i j) ≡ true → IsAt k b p i j
pixel_of k b p i j one on = record { deep = grind (arith, nat_tests); first = grind (arith, nat_tests); last = grind (arith, nat_tests); down = grind (arith, nat_tests) }

-- A row has in one plane the bits of a byte once it has those of a row of that byte.
pub row_of_byte : (v w : LiveView) (k byte : ℕ) (b : Block) → b.rows ≡ 1 → b.x + b.run.len ≤ 2048 → w ≡ drawn (λ p i j. p == k && in_block b i j) (block_bit 192 (replicate 256 byte) 256 b.x b) v → w ≡ drawn (λ p i j. p == k && in_block b i j) (λ p i j old. byte_bit byte i) v
row_of_byte v w k byte b one right is =
    layer_alike v w (λ p i j. p == k && in_block b i j) (block_bit 192 (replicate 256 byte) 256 b.x b) (λ p i j old. byte_bit byte i) is
    (λ p i j old _ _ _ on _.
    let at = pixel_of k b p i j one on in
    let place : 8 * ((j - b.y) * 256) + (b.x + (i - b.x)) ≡ i = omega (arith, at.first, at.down) in
    let near : i / 8 < 256 = omega (arith, at.last, right) in
    ap (λ n. minterm_bit 192 (row_bit (replicate 256 byte) n) old) place ∙
    (ap (λ b. minterm_bit 192 b old) (equal_bytes 256 byte i near) ∙ minterm_copies 192 (byte_bit byte i) old (bit_at-lt byte (7 - i % 8)) refl))

-- the pixels of a block's first rows in one plane
abbrev pub rows_before : ℕ → Block → ℕ → ℕ → ℕ → ℕ → Bool
rows_before k b n p i j = p == k && (is_named b.y n j && is_named b.x b.run.len i)

-- no row so far
no_row : (p k y j : ℕ) (more : Bool) → (p == k && (is_named y 0 j && more)) ≡ false
no_row p k y j more = grind (arith, nat_tests)

pub no_rows : (v : LiveView) (k : ℕ) (b : Block) (tile : List (List ℕ)) → IsBitmap v.layer.bits → v ≡ drawn (rows_before k b 0) (tile_bit tile) v
no_rows v k b tile ok = layer_nowhere v (rows_before k b 0) (tile_bit tile) ok (λ p i j. no_row p k b.y j (is_named b.x b.run.len i))

-- one row more
row_apart : (p k y n j : ℕ) (inside : Bool) → ((p == k && (is_named y n j && inside)) && (p == k && (is_named (y + n) 1 j && inside))) ≡ false
row_apart p k y n j inside = grind (arith, nat_tests)

row_whole : (p k y n j : ℕ) (inside : Bool) → (p == k && (is_named y (n + 1) j && inside)) ≡ ((p == k && (is_named y n j && inside)) || (p == k && (is_named (y + n) 1 j && inside)))
row_whole p k y n j inside = grind (arith, nat_tests)

-- what is told of a pixel of a row in one plane
record IsIn (k y p j : ℕ) : Type 0 where
  pub deep : p ≡ k
  pub down : j ≡ y

pixel_in : (k y p j : ℕ) (inside : Bool) → (p == k && (is_named y 1 j && inside)) ≡ true → IsIn k y p j
pixel_in k y p j inside on = record { deep = grind (arith, nat_tests); down = grind (arith, nat_tests) }

pub row_more : (v w u : LiveView) (k n : ℕ) (b : Block) (tile : List (List ℕ)) → w ≡ drawn (rows_before k b n) (tile_bit tile) v
    → u ≡ drawn (λ p i j. p == k && (is_named (b.y + n) 1 j && is_named b.x b.run.len i)) (λ p i j old. byte_bit (slice_index_or (slice_index_or tile ((b.y + n) % 8) []) k 0) i) w
    → u ≡ drawn (rows_before k b (n + 1)) (tile_bit tile) v
row_more v w u k n b tile was is =
    let row : ℕ → ℕ → ℕ → Bool = λ p i j. p == k && (is_named (b.y + n) 1 j && is_named b.x b.run.len i) in
    let byte : ℕ → ℕ → ℕ = λ y p. slice_index_or (slice_index_or tile (y % 8) []) p 0 in
    layer_more v w u (rows_before k b n) row (rows_before k b (n + 1)) (tile_bit tile) (tile_gives_bits tile)
    (record {
      apart = λ p i j _ _ _. row_apart p k b.y n j (is_named b.x b.run.len i);
      whole = λ p i j _ _ _. row_whole p k b.y n j (is_named b.x b.run.len i);
    })
    was
    (layer_alike w u row (λ p i j old. byte_bit (byte (b.y + n) k) i) (tile_bit tile) is
    (λ p i j old _ _ _ on _.
    let at = pixel_in k (b.y + n) p j (is_named b.x b.run.len i) on in
    ap (λ q. byte_bit (byte (b.y + n) q) i) (sym at.deep) ∙ ap (λ y. byte_bit (byte y p) i) (sym at.down)))

-- what is told of a row of a block
pub record IsNear (b : Block) (n : ℕ) : Type 0 where
  pub right : b.x + b.run.len ≤ 2048
  pub below : b.y + n < 65536

pub row_near : (c : LiveView) (b : Block) (n : ℕ) → IsPlanes c.layer.bits → IsBlock c (λ i j. draws c i j) b → n < b.rows → IsNear b n
row_near c b n ok block low =
    let run = block.runs n low in
    let some : 0 < b.run.len = run.some in
    let i : ℕ = b.x + (b.run.len - 1) in
    let at = pen_in_line (layout_of c) b.run.buffer (b.run.line + n) i (b.y + n) (run.inside i (omega arith) (omega (arith, some))) in
    let place = has_place (layout_of c) i (b.y + n) b.run.buffer at.1 in
    let wide = ok.sizes.columns.1 in
    let high = ok.sizes.rows.1 in
    record { right = omega (arith, place.left, wide, some); below = omega (arith, place.low, high) }
