use Rattle.std.proofs.Common.{◌≡◌, take}
use Rattle.lw_arrange.specs.Pieces.{with_desktop, all_losses}
use Rattle.lw_arrange.proofs.pieces.pieces_of.Given as goal

abbrev pub invariant-loop-part : goal.invariant-loop-part
invariant-loop-part l = l.pieces.items ≡ all_losses (take l.part-index l.losing) (with_desktop l.slots l.gaining l.shown.rest)
