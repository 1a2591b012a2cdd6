use Rattle.std.proofs.Common.{◌≡◌, take}
use Rattle.lw_changes.specs.Changed.{hull_of}
use Rattle.lw_changes.proofs.changes.hull_of.Given as goal

abbrev pub invariant-loop-one : goal.invariant-loop-one
invariant-loop-one l = l.all ≡ hull_of (take l.one-index l.rects) l.rect
