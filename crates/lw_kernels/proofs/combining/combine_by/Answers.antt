use Rattle.std.proofs.Common.{◌≡◌, ℕ, ◌+◌, ◌-◌, ◌*◌, ◌<◌, ◌≤◌, length, get_or, ap, refl, sym, ◌∙◌, arith}
use Rattle.std.specs.Int.{bit_at}
use Rattle.lw_planes.specs.Row.{row_bit}
use Rattle.lw_kernels.specs.Kernel.{blit_bit}
use Rattle.lw_kernels.proofs.ByteLaws.{minterm_high}
use Rattle.lw_kernels.proofs.RowWriting.{before_none, before_more, before_all, before_old, byte_old, whole_byte, minterm_same, done_same}
use Rattle.lw_kernels.proofs.combining.combine_by.Goals as goal

pub loop-index-init : goal.loop-index-init
loop-index-init c = before_none c.args.to.now (blit_bit c.args.minterm (row_bit c.args.source.now) (8 * c.args.start) (row_bit c.args.to.now) (8 * c.args.first)) (8 * c.args.first) (8 * c.args.last) c.args.first (omega arith)

pub loop-index-preserved : goal.loop-index-preserved
loop-index-preserved c =
    let source = c.args.source.now in
    let old : ℕ → ℕ = row_bit c.args.to.now in
    let new : ℕ → ℕ = (blit_bit c.args.minterm (row_bit c.args.source.now) (8 * c.args.start) (row_bit c.args.to.now) (8 * c.args.first)) in
    let index : ℕ = c.loop-index.index in
    let at : ℕ = c.args.start + (index - c.args.first) in
    let inside : index < length c.loop-index.to = omega arith in
    before_more c.loop-index.to new old (8 * c.args.first) (8 * c.args.last) index c.minterm_byte.result inside c.loop-index.invariant
    (λ j low.
    let place : 8 * at + j ≡ 8 * c.args.start + (8 * index + j - 8 * c.args.first) = omega arith in
    let bits : bit_at (get_or source at 0) (7 - j) ≡ row_bit source (8 * c.args.start + (8 * index + j - 8 * c.args.first)) = byte_old source at (get_or source at 0) j low refl ∙ ap (λ n. row_bit source n) place in
    let was : bit_at (get_or c.loop-index.to index 0) (7 - j) ≡ old (8 * index + j) = byte_old c.loop-index.to index (get_or c.loop-index.to index 0) j low refl ∙ before_old c.loop-index.to new old (8 * c.args.first) (8 * c.args.last) index (8 * index + j) c.loop-index.invariant (omega arith) in
    whole_byte c.args.first c.args.last index j (bit_at c.minterm_byte.result (7 - j)) (new (8 * index + j)) (old (8 * index + j)) (omega arith) (omega arith) low
    (c.minterm_byte.ensures (7 - j) (omega arith) ∙ minterm_same c.args.minterm _ _ _ _ bits was))

pub returns : goal.returns
returns c = λ m x same.
    let late : 8 * c.args.last ≤ 8 * c.loop-index.index = omega arith in
    let source : ℕ → ℕ = row_bit c.args.source.now in
    let old : ℕ → ℕ = row_bit c.args.to.now in
    let from : ℕ = 8 * c.args.first in
    let new : ℕ → ℕ → ℕ = λ n. blit_bit n source (8 * c.args.start) old from in
    done_same c.loop-index.to (new c.args.minterm) (new m) old from (8 * c.args.last)
    (before_all c.loop-index.to (new c.args.minterm) old from (8 * c.args.last) c.loop-index.index late c.loop-index.invariant)
    (λ y p q. minterm_high c.args.minterm m (source (8 * c.args.start + (y - from))) (old y) (sym same)) x
