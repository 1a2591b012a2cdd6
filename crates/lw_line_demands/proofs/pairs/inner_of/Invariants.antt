use Rattle.std.proofs.Common.{◌≡◌, map, drop}
use Rattle.lw_grammar.specs.Told.{inner_of}
use Rattle.lw_reader.specs.ReaderKnows.{pair_meaning}
use Rattle.lw_line_demands.proofs.pairs.inner_of.Given as goal

-- among the windows that are left there is the same one
abbrev pub invariant-loop-pair : goal.invariant-loop-pair
invariant-loop-pair l = inner_of (map pair_meaning (drop l.pair-index l.pairs)) l.name ≡ inner_of (map pair_meaning l.pairs) l.name
