use Rattle.std.proofs.Common.{◌≡◌, map, take}
use Rattle.lw_c_desk.specs.Handed.{bitmap_of}
use Rattle.lw_c_desk.proofs.handed.bitmaps_of.Given as goal

abbrev pub invariant-loop-words : goal.invariant-loop-words
invariant-loop-words l = l.made.items ≡ map (λ w. bitmap_of l.bits w) (take l.words-index l.list)
