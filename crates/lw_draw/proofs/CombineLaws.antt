-- Laws of painting rows of bits by a minterm.
use Rattle.std.proofs.Common.{◌≡◌, ℕ, ◌+◌, ◌-◌, ◌*◌, ◌==◌, ◌<◌, ◌&&◌, nat_lt, if◌then◌else◌, List, length, ◌∙◌, ap, arith}
use Rattle.lw_planes.specs.Row.{row_bit}
use Rattle.lw_planes.specs.Minterm.{minterm_bit}
use Rattle.lw_planes.specs.Bitmap.{IsBitmap}
use Rattle.lw_kernels.specs.Kernel.{is_named, place_in}
use Rattle.lw_layer.specs.View.{LiveView, draws}
use Rattle.lw_layer.specs.Pieces.{HaveLinesBits, with_bytes}
use Rattle.lw_draw.specs.Drawn.{drawn}
use Rattle.lw_draw.specs.Blocks.{IsBlock, in_block, block_bit}
use Rattle.lw_draw.specs.declared.blocks.Block.{Block}
use Rattle.lw_draw.proofs.BlockLaws.{block_lines}
use Rattle.lw_draw.proofs.WrittenLaws.{line_bytes, block_written, own_lines_changed}

-- What a minterm makes of rows of bits in a block, in lines that were lent for a plane.
pub block_combined : (c : LiveView) (k m own step bit : ℕ) (b : Block) (bits old bytes : List ℕ) → IsBitmap c.layer.bits → own ≡ line_bytes c b → length bytes ≡ b.rows * line_bytes c b → IsBlock c (λ i j. draws c i j) b → HaveLinesBits c k b.run.buffer b.run.line b.rows old → ((v u : ℕ) → u < 8 * own → row_bit bytes (place_in own v u) ≡ (if nat_lt v b.rows && is_named b.run.bit b.run.len u then minterm_bit m (row_bit bits (place_in step v (bit + (u - b.run.bit)))) (row_bit old (place_in own v u)) else row_bit old (place_in own v u))) → with_bytes c k b.run.buffer b.run.line bytes ≡ drawn (λ p i j. p == k && in_block b i j) (block_bit m bits step bit b) c
block_combined c k m own step bit b bits old bytes ok wide long block has each =
    block_written c (λ i j. draws c i j) k b.run.line b.rows b old bytes (block_bit m bits step bit b) ok long block (block_lines c (λ i j. draws c i j) b block) has
    (own_lines_changed c k own b old bytes (block_bit m bits step bit b) (λ v u q. minterm_bit m (row_bit bits (place_in step v (bit + (u - b.run.bit)))) q) wide each
    (λ dv du q _ _.
    let across : bit + (b.run.bit + du - b.run.bit) ≡ bit + (b.x + du - b.x) = omega arith in
    let down : dv ≡ b.y + dv - b.y = omega arith in
    ap (λ z. minterm_bit m (row_bit bits (place_in step dv z)) q) across ∙
    ap (λ z. minterm_bit m (row_bit bits (place_in step z (bit + (b.x + du - b.x)))) q) down))
