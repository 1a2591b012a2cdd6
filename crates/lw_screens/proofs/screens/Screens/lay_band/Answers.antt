use Rattle.std.proofs.Common.{◌<◌, ◌≤◌, length, ap, sym, subst, arith}
use Rattle.lw_planes.specs.Bitmap.{Bitmap}
use Rattle.lw_screens.specs.Display.{screen_of}
use Rattle.lw_screens.proofs.Rows.{band_there, bitmap_read, none_laid, owner_laid, depth_below}
use Rattle.lw_screens.proofs.screens.Screens.lay_band.Goals as goal

pub returns-in_default : goal.returns-in_default
returns-in_default c =
    none_laid c.args.self.now c.args.planes.now c.args.band.now c.args.made.now c.requires.band c.in_default.is c.depth.ensures.planes.bitmap c.requires.blank

pub bounds-screens-number : goal.bounds-screens-number
bounds-screens-number c =
    let there = band_there c.args.self.now c.args.band.now c.in-Some.number c.screens.ensures.display c.requires.band c.in-Some.is in
    omega (arith, there.0, ap length c.screens.ensures.value)

pub bounds-planes-number : goal.bounds-planes-number
bounds-planes-number c =
    let there = band_there c.args.self.now c.args.band.now c.in-Some.number c.screens.ensures.display c.requires.band c.in-Some.is in
    omega (arith, there.0, c.requires.planes.each)

pub overflow_sub-band : goal.overflow_sub-band
overflow_sub-band c =
    let there = band_there c.args.self.now c.args.band.now c.in-Some.number c.screens.ensures.display c.requires.band c.in-Some.is in
    subst (λ ss. (screen_of ss c.in-Some.number).top ≤ c.args.band.now.first) (sym c.screens.ensures.value) there.1

pub lay_rows-requires-clause-source_inside : goal.lay_rows-requires-clause-source_inside
lay_rows-requires-clause-source_inside c =
    let k = c.in-Some.number in
    let there = band_there c.args.self.now c.args.band.now k c.screens.ensures.display c.requires.band c.in-Some.is in
    let top = ap (λ ss. (screen_of ss k).top) c.screens.ensures.value in
    let each : k < length c.args.planes.now = omega (arith, there.0, c.requires.planes.each) in
    let height = ap (λ (b : Bitmap). b.height) (bitmap_read c.args.planes.now k c.index-planes-number.result each c.index-planes-number.is) in
    omega (arith, there.1, there.2, top, height, c.requires.planes.heights k there.0, c.requires.band.order)

pub lay_rows-requires-clause-depth : goal.lay_rows-requires-clause-depth
lay_rows-requires-clause-depth c =
    let k = c.in-Some.number in
    let there = band_there c.args.self.now c.args.band.now k c.screens.ensures.display c.requires.band c.in-Some.is in
    let each : k < length c.args.planes.now = omega (arith, there.0, c.requires.planes.each) in
    let depth = ap (λ (b : Bitmap). b.depth) (bitmap_read c.args.planes.now k c.index-planes-number.result each c.index-planes-number.is) in
    omega (arith, depth, depth_below c.args.planes.now k each, c.requires.depth)

pub returns : goal.returns
returns c =
    let k = c.in-Some.number in
    let there = band_there c.args.self.now c.args.band.now k c.screens.ensures.display c.requires.band c.in-Some.is in
    let top = ap (λ ss. (screen_of ss k).top) c.screens.ensures.value in
    let each : k < length c.args.planes.now = omega (arith, there.0, c.requires.planes.each) in
    let order = c.requires.band.order in
    owner_laid c.args.self.now c.args.planes.now c.args.band.now k _ _ c.index-planes-number.result c.args.made.now c.lay_rows.new.to c.requires.band c.in-Some.is
    (bitmap_read c.args.planes.now k c.index-planes-number.result each c.index-planes-number.is) (omega arith) (omega (arith, there.1, top)) c.lay_rows.ensures
