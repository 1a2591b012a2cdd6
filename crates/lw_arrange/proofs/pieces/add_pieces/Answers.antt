use Rattle.lw_arrange.proofs.PieceLaws.{nothing_to_itself, nothing_shared, none_more}
use Rattle.lw_arrange.proofs.pieces.add_pieces.Goals as goal

pub returns-then-from-to : goal.returns-then-from-to
returns-then-from-to c =
    none_more c.args.pieces.now.items _ (nothing_to_itself c.args.from c.args.to c.args.lost.now c.args.gained.now c.if-from-to.true)

pub returns-then-not-share_places : goal.returns-then-not-share_places
returns-then-not-share_places c =
    none_more c.args.pieces.now.items _
    (nothing_shared c.args.from c.args.to c.args.lost.now c.args.gained.now (c.share_places.ensures c.if-not-share_places.true))
