use Rattle.std.proofs.Common.{◌≤◌, length, ap, sym, subst, arith}
use Rattle.lw_screens.specs.Display.{screen_of}
use Rattle.lw_screens.proofs.Rows.{band_there}
use Rattle.lw_screens.proofs.writing.push_owner.Goals as goal

pub bounds-screens-number : goal.bounds-screens-number
bounds-screens-number c =
    let there = band_there c.args.screens.now c.args.band.now c.in-Some.number c.screens.ensures.display c.requires c.in-Some.is in
    omega (arith, there.0, ap length c.screens.ensures.value)

pub overflow_sub-band : goal.overflow_sub-band
overflow_sub-band c =
    let there = band_there c.args.screens.now c.args.band.now c.in-Some.number c.screens.ensures.display c.requires c.in-Some.is in
    subst (λ ss. (screen_of ss c.in-Some.number).top ≤ c.args.band.now.first) (sym c.screens.ensures.value) there.1
