use Rattle.std.proofs.Common.{false, arith}
use Rattle.std.proofs.lemmas.Int.{ints}
use Rattle.lw_blit.proofs.SourceLaws.{transfer_same}
use Rattle.lw_blit.proofs.transfers.transfer_of.Goals as goal

pub returns-clause-value : goal.returns-clause-value
returns-clause-value c =
    let near = c.requires in
    transfer_same _ _ _ _ c.args.area.now.minterm false (omega (arith, ints, near.sx_low, near.sx_high, near.x_low, near.x_high)) (omega (arith, ints, near.sy_low, near.sy_high, near.y_low, near.y_high))
