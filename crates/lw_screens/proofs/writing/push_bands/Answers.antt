use Rattle.std.proofs.Common.{None}
use Rattle.std.proofs.lemmas.List.Elements.{All-get_or, All-same}
use Rattle.lw_screens.specs.Bands.{bands_of}
use Rattle.lw_screens.specs.Laid.{IsBandOf}
use Rattle.lw_screens.proofs.Rows.{all_bands}
use Rattle.lw_screens.proofs.writing.push_bands.Goals as goal

pub push_band-requires : goal.push_band-requires
push_band-requires c =
    let d = c.args.screens.now in
    All-get_or (IsBandOf d) c.bands-bands.result.now c.loop-band.band-index (record { first = 0; last = 0; screen = None }) c.loop-band-test.true
    (All-same (IsBandOf d) c.bands-bands.result.now (bands_of d) c.bands-bands.ensures (all_bands d))
