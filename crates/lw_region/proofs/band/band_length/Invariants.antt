use Rattle.std.proofs.Common.{◌≡◌, ◌+◌, drop}
use Rattle.lw_region.specs.Rows.{band_length}
use Rattle.lw_region.proofs.band.band_length.Given as goal

abbrev pub invariant-loop-i : goal.invariant-loop-i
invariant-loop-i l = band_length l.top l.rects ≡ l.i + band_length l.top (drop l.i l.rects)
