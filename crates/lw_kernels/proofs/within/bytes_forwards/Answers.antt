use Rattle.std.proofs.Common.{◌≡◌, ℕ, ◌+◌, ◌-◌, ◌*◌, ◌<◌, ◌≤◌, length, get_or, ap, refl, ◌∙◌, arith}
use Rattle.std.specs.Int.{bit_at}
use Rattle.lw_planes.specs.Row.{row_bit}
use Rattle.lw_kernels.specs.Kernel.{blit_bit}
use Rattle.lw_kernels.proofs.RowWriting.{before_none, before_more, before_all, before_old, whole_byte, byte_old, minterm_same}
use Rattle.lw_kernels.proofs.within.bytes_forwards.Goals as goal

pub loop-index-init : goal.loop-index-init
loop-index-init c = before_none c.args.row.now (blit_bit c.args.minterm (row_bit c.args.row.now) (8 * c.args.start + c.args.shift) (row_bit c.args.row.now) (8 * c.args.first)) (8 * c.args.first) (8 * c.args.last) c.args.first (omega arith)

pub loop-index-preserved : goal.loop-index-preserved
loop-index-preserved c =
    let row = c.loop-index.row in
    let old : ℕ → ℕ = row_bit c.args.row.now in
    let new : ℕ → ℕ = (blit_bit c.args.minterm (row_bit c.args.row.now) (8 * c.args.start + c.args.shift) (row_bit c.args.row.now) (8 * c.args.first)) in
    let index : ℕ = c.loop-index.index in
    let inside : index < length row = omega arith in
    before_more row new old (8 * c.args.first) (8 * c.args.last) index c.minterm_byte.result inside c.loop-index.invariant
    (λ j low.
    let at : ℕ = 8 * (c.args.start + (index - c.args.first)) + c.args.shift + (j - 0) in
    let place : at ≡ (8 * c.args.start + c.args.shift) + (8 * index + j - 8 * c.args.first) = omega arith in
    let bits : bit_at c.bits_from-bits.result (7 - j) ≡ old ((8 * c.args.start + c.args.shift) + (8 * index + j - 8 * c.args.first)) =
    c.bits_from-bits.ensures j (omega arith) low (omega arith) ∙ (before_old row new old (8 * c.args.first) (8 * c.args.last) index at c.loop-index.invariant (omega arith) ∙ ap old place) in
    let was : bit_at (get_or row index 0) (7 - j) ≡ old (8 * index + j) = byte_old row index (get_or row index 0) j low refl ∙ before_old row new old (8 * c.args.first) (8 * c.args.last) index (8 * index + j) c.loop-index.invariant (omega arith) in
    whole_byte c.args.first c.args.last index j (bit_at c.minterm_byte.result (7 - j)) (new (8 * index + j)) (old (8 * index + j)) (omega arith) (omega arith) low
    (c.minterm_byte.ensures (7 - j) (omega arith) ∙ minterm_same c.args.minterm _ _ _ _ bits was))

pub returns : goal.returns
returns c =
    let late : 8 * c.args.last ≤ 8 * c.loop-index.index = omega arith in
    before_all c.loop-index.row (blit_bit c.args.minterm (row_bit c.args.row.now) (8 * c.args.start + c.args.shift) (row_bit c.args.row.now) (8 * c.args.first)) (row_bit c.args.row.now) (8 * c.args.first) (8 * c.args.last) c.loop-index.index late c.loop-index.invariant
