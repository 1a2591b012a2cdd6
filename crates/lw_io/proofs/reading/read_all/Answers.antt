-- What this piece took comes after what the pieces before it took.
use Rattle.std.proofs.Common.{arith, rules}
use Rattle.lw_io.proofs.StreamLemmas.{TakesAtMost_from, TakesJust_from}
use Rattle.lw_io.proofs.reading.read_all.Goals as goal

pub returns-in_err-read_piece-clause-taken : goal.returns-in_err-read_piece-clause-taken
returns-in_err-read_piece-clause-taken g c =
    TakesAtMost_from _ _ _ _ _ _ c.loop-bytes.bytes.ok.0 (omega arith) c.loop-bytes.invariant.1.front c.read_piece.ensures.taken

pub returns-in_err-read_piece-clause-too_long : goal.returns-in_err-read_piece-clause-too_long
returns-in_err-read_piece-clause-too_long g c =
    λ is. TakesJust_from _ _ _ _ _ _ c.loop-bytes.bytes.ok.0 (omega arith) c.loop-bytes.invariant.1.front (c.read_piece.ensures.too_long (search rules))
