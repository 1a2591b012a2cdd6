use Rattle.std.proofs.Common.{◌≡◌, ℕ, ◌+◌, ◌-◌, ◌*◌, ◌%◌, ◌<◌, get_or, ap, refl, ◌∙◌, arith}
use Rattle.lw_planes.specs.Row.{row_bit}
use Rattle.lw_kernels.proofs.ByteLaws.{pair_bit}
use Rattle.lw_kernels.proofs.RowWriting.{byte_old}
use Rattle.lw_kernels.proofs.ways.bits_from.Goals as goal

pub returns-then-whole : goal.returns-then-whole
returns-then-whole c = λ j begins low inside.
    let row = c.args.row.now in
    let index : ℕ = c.args.at + c.min-first.result in
    let lead : c.args.place % 8 ≡ c.args.lead = c.requires.whole c.if-whole.true in
    let same : 8 * index + j ≡ 8 * c.args.at + c.args.place + (j - c.args.lead) = omega (arith, lead) in
    byte_old row index (get_or row index 0) j low refl ∙ ap (row_bit row) same

pub returns-else-whole : goal.returns-else-whole
returns-else-whole c = λ j begins low inside.
    let row = c.args.row.now in
    let index : ℕ = c.args.at + c.min-first.result in
    let shift : ℕ = c.args.place % 8 in
    let few : shift < 8 = omega arith in
    let small : c.from-else-whole.result < 256 = omega arith in
    let same : 8 * index + shift + (j - c.args.lead) ≡ 8 * c.args.at + c.args.place + (j - c.args.lead) = omega arith in
    pair_bit row index shift c.from.result c.from-else-whole.result c.args.lead j small few begins low c.from.ensures
    (λ second. let next : c.args.at + c.min.result ≡ index + 1 = omega arith in c.from-else-whole.ensures ∙ ap (λ n. get_or row n 0) next) ∙
    ap (row_bit row) same
