use Rattle.std.proofs.Common.{arith}
use Rattle.std.proofs.lemmas.Int.{ints}
use Rattle.lw_scroll.proofs.BlockLaws.{rect_made}
use Rattle.lw_scroll.proofs.block.rect_of.Goals as goal

pub returns : goal.returns
returns c =
    let columns = c.edges-left.ensures in
    let rows = c.edges-top.ensures in
    let left = columns.first in
    let right = columns.last in
    let top = rows.first in
    let bottom = rows.last in
    let wide = c.requires.right in
    let high = c.requires.bottom in
    rect_made c.new.result c.args.block _ _ _ _ c.new.ensures (omega (arith, ints)) (omega (arith, ints)) (omega (arith, ints))
    (omega (arith, ints))
