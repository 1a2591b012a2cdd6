use Rattle.std.proofs.Common.{◌≡◌, take}
use Rattle.lw_words.specs.Cuts.{targets}
use Rattle.lw_script.proofs.finish.texts_of.Given as goal

abbrev pub invariant-loop-name : goal.invariant-loop-name
invariant-loop-name l = l.texts.items ≡ targets (take l.name-index l.names)
