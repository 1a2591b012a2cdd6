use Rattle.std.proofs.Common.{take}
use Rattle.lw_arrange.specs.Exchanged.{HasPieces}
use Rattle.lw_arrange.proofs.exchange.exchange_of.Given as goal

abbrev pub invariant-loop-piece : goal.invariant-loop-piece
invariant-loop-piece l = HasPieces l.owner l.arrangement.stack.sizes.depth (take l.piece-index l.pieces) l.made.lost.items l.made.gained.items
