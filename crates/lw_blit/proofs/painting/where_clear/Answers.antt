use Rattle.std.proofs.Common.{◌≡◌, ◌*◌, ◌%◌, ◌==◌, if◌then◌else◌, ◌∙◌, ap, arith}
use Rattle.std.specs.Int.{bit_at}
use Rattle.lw_blit.proofs.PaintingLaws.{cut_values}
use Rattle.lw_blit.proofs.painting.where_clear.Goals as goal

pub returns-clause-set : goal.returns-clause-set
returns-clause-set c old small =
    let m = c.args.minterm in
    let both : bit_at (m * 4 % 256) 7 ≡ bit_at m 5 = omega arith in
    let source : bit_at (m * 4 % 256) 6 ≡ bit_at m 4 = omega arith in
    cut_values (m * 4 % 256) 1 old small ∙ (ap (λ b. if old == 1 then b else bit_at (m * 4 % 256) 6) both ∙ ap (λ b. if old == 1 then bit_at m 5 else b) source)

pub returns-clause-clear : goal.returns-clause-clear
returns-clause-clear c old small = cut_values (c.args.minterm * 4 % 256) 0 old small
