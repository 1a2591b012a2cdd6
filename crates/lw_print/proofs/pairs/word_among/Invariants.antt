use Rattle.std.proofs.Common.{◌≡◌, drop}
use Rattle.lw_canonical.specs.Canonical.{word_among}
use Rattle.lw_print.proofs.pairs.word_among.Given as goal

-- none of the pairs so far
abbrev pub invariant-loop-pair : goal.invariant-loop-pair
invariant-loop-pair l = word_among (drop l.pair-index l.pairs) l.calls ≡ word_among l.pairs l.calls
