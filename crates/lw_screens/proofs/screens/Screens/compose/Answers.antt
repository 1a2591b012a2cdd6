use Rattle.std.proofs.Common.{◌+◌, get_or, drop, None, subst, arith}
use Rattle.std.proofs.lemmas.List.{drop_more, drop_all}
use Rattle.lw_screens.specs.declared.bands.Band.{Band}
use Rattle.lw_screens.proofs.Rows.{AreLaid, laid_none, blank_next, laid_more, laid_all}
use Rattle.lw_screens.proofs.screens.Screens.compose.Goals as goal

abbrev no_band : Band
no_band = record { first = 0; last = 0; screen = None }

pub loop-band-init : goal.loop-band-init
loop-band-init c =
    laid_none c.args.self.now c.args.planes.now c.args.width c.greatest_depth.result c.height-height.result c.bands-bands.result.now c.in_ok-made.made
    c.bands-bands.ensures c.greatest_depth.ensures.value c.height-height.ensures.value c.in_ok-made.ensures

pub lay_band-requires-clause-blank : goal.lay_band-requires-clause-blank
lay_band-requires-clause-blank c =
    let bands = c.bands-bands.result.now in
    let i = c.loop-band.band-index in
    blank_next c.args.self.now c.args.planes.now c.args.width (get_or bands i no_band) (drop (i + 1) bands) c.loop-band.made
    (subst (λ bs. AreLaid c.args.self.now c.args.planes.now c.args.width bs c.loop-band.made) (drop_more bands i no_band c.loop-band-test.true) c.loop-band.invariant)

pub loop-band-preserved : goal.loop-band-preserved
loop-band-preserved c =
    let bands = c.bands-bands.result.now in
    let i = c.loop-band.band-index in
    laid_more c.args.self.now c.args.planes.now c.args.width (get_or bands i no_band) (drop (i + 1) bands) c.loop-band.made c.lay_band.new.made
    (subst (λ bs. AreLaid c.args.self.now c.args.planes.now c.args.width bs c.loop-band.made) (drop_more bands i no_band c.loop-band-test.true) c.loop-band.invariant)
    c.lay_band.ensures

pub returns : goal.returns
returns c =
    let bands = c.bands-bands.result.now in
    let i = c.loop-band.band-index in
    laid_all c.args.self.now c.args.planes.now c.args.width c.loop-band.made
    (subst (λ bs. AreLaid c.args.self.now c.args.planes.now c.args.width bs c.loop-band.made) (drop_all i bands (omega (arith, c.loop-band-test.false))) c.loop-band.invariant)
