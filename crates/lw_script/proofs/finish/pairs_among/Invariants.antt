use Rattle.std.proofs.Common.{◌≡◌, map, take}
use Rattle.lw_words.specs.Cuts.{targets}
use Rattle.lw_reader.specs.ReaderKnows.{placed}
use Rattle.lw_script.proofs.finish.pairs_among.Given as goal

abbrev pub invariant-loop-pair : goal.invariant-loop-pair
invariant-loop-pair l = l.slots.items ≡ map (placed (targets l.names.keys)) (take l.pair-index l.pairs)
