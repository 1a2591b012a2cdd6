use Rattle.std.proofs.Common.{◌≡◌, ◌+◌, ◌%◌, ap, arith}
use Rattle.std.specs.Int.{bit_at}
use Rattle.lw_kernels.specs.Words.{spot}
use Rattle.lw_kernels.proofs.WordLaws.{turned_bits}
use Rattle.lw_kernels.proofs.words.turned.Goals as goal

pub returns-then-whole : goal.returns-then-whole
returns-then-whole c = λ j low.
    let same : j ≡ (j + c.args.by) % 64 = omega (arith, low, c.requires.whole c.if-whole.true) in
    ap (λ n. bit_at c.args.word (spot n)) same

pub returns-else-whole : goal.returns-else-whole
returns-else-whole c = λ j low.
    turned_bits c.args.word c.swap_bytes-backward.result c.rotate_left.result c.swap_bytes.result c.args.by j c.swap_bytes-backward.type_inv c.requires.low low
    c.swap_bytes-backward.ensures c.rotate_left.ensures c.swap_bytes.ensures
