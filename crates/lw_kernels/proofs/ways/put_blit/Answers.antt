use Rattle.std.proofs.Common.{ℕ, ◌-◌, ◌/◌, ◌%◌, ◌==◌, ◌&&◌, refl, ◌∙◌, arith}
use Rattle.std.specs.Int.{bit_at}
use Rattle.std.proofs.lemmas.Bool.{and_parts, eqb-true}
use Rattle.lw_planes.specs.Row.{row_bit}
use Rattle.lw_planes.specs.Minterm.{minterm_bit}
use Rattle.lw_kernels.proofs.RowWriting.{byte_bit, minterm_same}
use Rattle.lw_kernels.proofs.SpanLaws.{bit_here}
use Rattle.lw_kernels.proofs.ways.put_blit.Goals as goal

pub returns : goal.returns
returns c = λ p.
    let i : ℕ = 7 - p % 8 in
    let old = c.args.bytes.now in
    byte_bit (p / 8 == c.args.index && bit_at c.args.mask i == 1) (row_bit c.put_masked.new.bytes p) (bit_at c.blit_byte-value.result i) (row_bit old p) (minterm_bit c.args.minterm (bit_at c.args.source i) (row_bit old p)) (row_bit old p)
    (c.put_masked.ensures p)
    (λ t. c.blit_byte-value.ensures i (omega arith) ∙ minterm_same c.args.minterm _ _ _ _ refl (bit_here old c.args.index p (eqb-true (p / 8) c.args.index (and_parts (p / 8 == c.args.index) (bit_at c.args.mask i == 1) t).0)))
    refl
