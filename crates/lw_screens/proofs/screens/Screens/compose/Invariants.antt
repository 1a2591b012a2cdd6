use Rattle.std.proofs.Common.{drop}
use Rattle.lw_screens.proofs.Rows.{AreLaid}
use Rattle.lw_screens.proofs.screens.Screens.compose.Given as goal

abbrev pub invariant-loop-band : goal.invariant-loop-band
invariant-loop-band l = AreLaid l.self l.planes l.width (drop l.band-index l.bands) l.made
