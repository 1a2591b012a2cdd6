use Rattle.std.proofs.Common.{◌≡◌, ◌++◌, map, take}
use Rattle.lw_arrange.specs.Pieces.{piece_of}
use Rattle.lw_arrange.proofs.pieces.push_pieces.Given as goal

abbrev pub invariant-loop-rect : goal.invariant-loop-rect
invariant-loop-rect l = l.pieces.items ≡ l.initial.pieces.items ++ map (piece_of l.from l.to) (take l.rect-index l.rects)
