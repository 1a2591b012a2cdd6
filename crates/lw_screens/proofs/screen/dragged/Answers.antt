use Rattle.std.proofs.Common.{arith}
use Rattle.std.proofs.lemmas.Int.{ints, clamps}
use Rattle.lw_screens.proofs.screen.dragged.Goals as goal

pub overflow_cast-result : goal.overflow_cast-result
overflow_cast-result c =
    let most = c.max.ensures.value in
    let least = c.min-to.ensures.value in
    let rows = c.from-last.ensures in
    omega (arith, ints, clamps)

pub returns : goal.returns
returns c =
    let most = c.max.ensures.value in
    let least = c.min-to.ensures.value in
    let rows = c.from-last.ensures in
    let top = c.from.ensures in
    let dy = c.from-2.ensures in
    omega (arith, ints, clamps)
