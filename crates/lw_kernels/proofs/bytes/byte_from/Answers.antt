use Rattle.std.proofs.Common.{◌≡◌, ◌+◌, ◌*◌, ap, refl, ◌∙◌, get_or, arith}
use Rattle.lw_planes.specs.Row.{row_bit}
use Rattle.lw_kernels.proofs.ByteLaws.{shifted_row}
use Rattle.lw_kernels.proofs.RowWriting.{byte_old}
use Rattle.lw_kernels.proofs.bytes.byte_from.Goals as goal

pub returns-then-shift-eq0 : goal.returns-then-shift-eq0
returns-then-shift-eq0 c = λ j low.
    let row = c.args.row.now in
    let same : 8 * c.args.at + j ≡ 8 * c.args.at + c.args.shift + j = omega arith in
    byte_old row c.args.at (get_or row c.args.at 0) j low refl ∙ ap (row_bit row) same

pub returns-else-shift-eq0 : goal.returns-else-shift-eq0
returns-else-shift-eq0 c = λ j low.
    let row = c.args.row.now in
    shifted_row row c.args.at (get_or row c.args.at 0) (get_or row (c.args.at + 1) 0) c.args.shift j _ low refl refl (c.shifted.ensures j low) c.requires.low
