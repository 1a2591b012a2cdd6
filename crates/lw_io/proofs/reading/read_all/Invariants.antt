use Rattle.std.proofs.Common.{◌≡◌, ◌-◌, vec_len, length}
use Rattle.lw_io.proofs.StreamLemmas.{HasRead}
use Rattle.lw_io.proofs.reading.read_all.Given as goal

abbrev pub invariant-loop-bytes : goal.invariant-loop-bytes
invariant-loop-bytes g l =
    (length l.piece ≡ 4096)
    × HasRead l.bytes.items l.limit (g.S.Source.faults l.initial.source) (g.S.Source.faults l.source) (g.S.Source.left l.initial.source) (g.S.Source.left l.source)

abbrev pub decreases-loop-bytes : goal.decreases-loop-bytes
decreases-loop-bytes g l = l.limit - vec_len l.bytes
