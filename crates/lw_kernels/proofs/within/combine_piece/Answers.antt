use Rattle.std.proofs.Common.{◌≡◌, ℕ, ◌+◌, ◌-◌, ◌*◌, ◌<◌, ap, refl, ◌∙◌, arith}
use Rattle.lw_planes.specs.Row.{row_bit}
use Rattle.lw_kernels.specs.Kernel.{blit_bit}
use Rattle.lw_kernels.proofs.RowWriting.{done_inside, done_same, minterm_same}
use Rattle.lw_kernels.proofs.within.combine_piece.Goals as goal

pub returns : goal.returns
returns c =
    let old : ℕ → ℕ = row_bit c.args.row.now in
    let fetched = c.copy_bytes.new.to in
    let from : ℕ = 8 * c.args.first in
    done_same c.combine_whole.new.to (blit_bit c.args.minterm (row_bit fetched) 0 old from) (blit_bit c.args.minterm old (8 * c.args.start + c.args.shift) old from) old from (8 * c.args.last) c.combine_whole.ensures
    (λ x p q.
    let at : ℕ = x - from in
    let low : at < 8 * (c.args.last - c.args.first) = omega arith in
    let same : 0 + at ≡ at = omega arith in
    let back : (8 * c.args.start + c.args.shift) + (at - 0) ≡ (8 * c.args.start + c.args.shift) + at = omega arith in
    minterm_same c.args.minterm _ _ _ _
    (ap (row_bit fetched) same ∙ (done_inside fetched (λ y. old ((8 * c.args.start + c.args.shift) + (y - 0))) _ 0 (8 * (c.args.last - c.args.first)) at c.copy_bytes.ensures (omega arith) low ∙ ap old back))
    refl)
