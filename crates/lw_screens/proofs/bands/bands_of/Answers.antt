use Rattle.std.proofs.Common.{arith}
use Rattle.lw_screens.specs.Display.{first_with}
use Rattle.lw_screens.proofs.Runs.{bands_more}
use Rattle.lw_screens.proofs.bands.bands_of.Goals as goal

pub loop-first-preserved : goal.loop-first-preserved
loop-first-preserved c =
    let band = c.band_from-band.result in
    let inside = c.band_from-band.ensures.inside in
    record {
      most = omega arith;
      bands = bands_more (first_with c.args.screens.now c.args.order.now) c.loop-first.first c.args.height band c.loop-first.bands.items c.push.new.self.items _ c.band_from-band.ensures c.loop-first.invariant.bands c.in_ok-push.ensures.items;
    }
