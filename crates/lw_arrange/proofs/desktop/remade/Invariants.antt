use Rattle.std.proofs.Common.{take}
use Rattle.lw_arrange.proofs.DesktopLaws.{IsParted}
use Rattle.lw_arrange.proofs.desktop.remade.Given as goal

abbrev pub invariant-loop-strip : goal.invariant-loop-strip
invariant-loop-strip l = IsParted l.area l.info.sizes.depth (take l.strip-index l.desktop) l.strips.items l.near
