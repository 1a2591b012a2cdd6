use Rattle.std.proofs.Common.{◌≡◌, ◌++◌, take}
use Rattle.std.specs.List.{flat_map}
use Rattle.lw_screens.specs.Text.{band_line}
use Rattle.lw_screens.proofs.writing.push_bands.Given as goal

abbrev pub invariant-loop-band : goal.invariant-loop-band
invariant-loop-band l = l.out.items ≡ l.initial.out.items ++ flat_map (band_line l.names l.screens) (take l.band-index l.bands)
