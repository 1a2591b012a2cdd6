use Rattle.std.proofs.Common.{◌==◌, ◌∙◌}
use Rattle.std.specs.Int.{bit_at}
use Rattle.lw_planes.proofs.BitLaws.{bit_tested}
use Rattle.lw_kernels.proofs.RowWriting.{chosen_same}
use Rattle.lw_kernels.proofs.bytes.minterm_byte.Goals as goal

pub returns : goal.returns
returns c = λ i low.
    let minterm = c.args.minterm in
    let by_old = bit_at c.args.old i == 1 in
    chosen_same (bit_at c.args.source i == 1) _ _ _ _ _ (c.picked-3.ensures i low)
    (chosen_same by_old _ _ _ _ _ (c.picked.ensures i low) (c.spread.ensures i low ∙ bit_tested minterm 7) (c.spread-2.ensures i low ∙ bit_tested minterm 6))
    (chosen_same by_old _ _ _ _ _ (c.picked-2.ensures i low) (c.spread-3.ensures i low ∙ bit_tested minterm 5) (c.spread-4.ensures i low ∙ bit_tested minterm 4))
