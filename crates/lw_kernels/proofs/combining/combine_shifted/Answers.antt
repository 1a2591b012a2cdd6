use Rattle.std.proofs.Common.{◌≡◌, ℕ, ◌+◌, ◌-◌, ◌*◌, ◌<◌, ◌≤◌, length, get_or, ap, refl, ◌∙◌, arith}
use Rattle.std.specs.Int.{bit_at}
use Rattle.lw_planes.specs.Row.{row_bit}
use Rattle.lw_kernels.specs.Kernel.{blit_bit}
use Rattle.lw_kernels.proofs.ByteLaws.{shifted_row}
use Rattle.lw_kernels.proofs.RowWriting.{before_none, before_more, before_all, before_old, byte_old, whole_byte, minterm_same}
use Rattle.lw_kernels.proofs.combining.combine_shifted.Goals as goal

pub loop-index-init : goal.loop-index-init
loop-index-init c = before_none c.args.to.now (blit_bit c.args.minterm (row_bit c.args.source.now) (8 * c.args.start + c.args.shift) (row_bit c.args.to.now) (8 * c.args.first)) (8 * c.args.first) (8 * c.args.last) c.args.first (omega arith)

pub loop-index-preserved : goal.loop-index-preserved
loop-index-preserved c =
    let source = c.args.source.now in
    let old : ℕ → ℕ = row_bit c.args.to.now in
    let new : ℕ → ℕ = (blit_bit c.args.minterm (row_bit c.args.source.now) (8 * c.args.start + c.args.shift) (row_bit c.args.to.now) (8 * c.args.first)) in
    let index : ℕ = c.loop-index.index in
    let at : ℕ = c.args.start + (index - c.args.first) in
    let inside : index < length c.loop-index.to = omega arith in
    before_more c.loop-index.to new old (8 * c.args.first) (8 * c.args.last) index c.minterm_byte.result inside c.loop-index.invariant
    (λ j low.
    let place : 8 * at + c.args.shift + j ≡ 8 * c.args.start + c.args.shift + (8 * index + j - 8 * c.args.first) = omega arith in
    let bits : bit_at c.shifted-bits.result (7 - j) ≡ row_bit source (8 * c.args.start + c.args.shift + (8 * index + j - 8 * c.args.first)) =
    shifted_row source at (get_or source at 0) (get_or source (at + 1) 0) c.args.shift j (bit_at c.shifted-bits.result (7 - j)) low refl refl (c.shifted-bits.ensures j low) c.requires.low ∙ ap (λ n. row_bit source n) place in
    let was : bit_at (get_or c.loop-index.to index 0) (7 - j) ≡ old (8 * index + j) = byte_old c.loop-index.to index (get_or c.loop-index.to index 0) j low refl ∙ before_old c.loop-index.to new old (8 * c.args.first) (8 * c.args.last) index (8 * index + j) c.loop-index.invariant (omega arith) in
    whole_byte c.args.first c.args.last index j (bit_at c.minterm_byte.result (7 - j)) (new (8 * index + j)) (old (8 * index + j)) (omega arith) (omega arith) low
    (c.minterm_byte.ensures (7 - j) (omega arith) ∙ minterm_same c.args.minterm _ _ _ _ bits was))

pub returns : goal.returns
returns c =
    let late : 8 * c.args.last ≤ 8 * c.loop-index.index = omega arith in
    before_all c.loop-index.to (blit_bit c.args.minterm (row_bit c.args.source.now) (8 * c.args.start + c.args.shift) (row_bit c.args.to.now) (8 * c.args.first)) (row_bit c.args.to.now) (8 * c.args.first) (8 * c.args.last) c.loop-index.index late c.loop-index.invariant
