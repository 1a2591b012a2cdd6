use Rattle.std.proofs.Common.{◌≡◌, ◌-ℤ◌, ◌∙◌, to_z, of_z, w64, arith}
use Rattle.std.proofs.lemmas.Int.{ints}
use Rattle.lw_strips.proofs.OverlapLaws.{bitmap_laid}
use Rattle.lw_strips.proofs.laying.lay_planes.Goals as goal

pub returns : goal.returns
returns c =
    let window = c.args.window.now in
    let r = c.args.rect.now in
    let x : to_z w64 (of_z w64 c.distance-x.result) ≡ r.min_x -ℤ window.min_x = omega (arith, ints, c.distance-x.ensures, c.min_x.ensures.value, c.min_x-2.ensures.value) in
    let y : to_z w64 (of_z w64 c.distance-y.result) ≡ r.min_y -ℤ window.min_y = omega (arith, ints, c.distance-y.ensures, c.min_y.ensures.value, c.min_y-2.ensures.value) in
    c.lay_bitmap.ensures ∙ bitmap_laid window r _ _ c.args.planes.now c.args.source.now x y c.min_x-2.ensures.ordered c.requires.source_size
