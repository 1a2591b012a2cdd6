use Rattle.std.proofs.Common.{◌≡◌, ◌-ℤ◌, ◌∙◌, to_z, of_z, w64, ap, arith}
use Rattle.std.proofs.lemmas.Int.{ints}
use Rattle.lw_region.specs.Rectangle.{Rectangle, width, height}
use Rattle.lw_strips.proofs.OverlapLaws.{blank_laid}
use Rattle.lw_strips.proofs.laying.lay_blank.Goals as goal

pub returns : goal.returns
returns c =
    let window = c.args.window.now in
    let r = c.args.strip.now.rect in
    let is = c.rect-rect.ensures.value in
    let x : to_z w64 (of_z w64 c.distance-x.result) ≡ r.min_x -ℤ window.min_x = omega (arith, ints, c.distance-x.ensures, c.min_x.ensures.value, c.min_x-2.ensures.value, ap (λ (q : Rectangle). q.min_x) is) in
    let y : to_z w64 (of_z w64 c.distance-y.result) ≡ r.min_y -ℤ window.min_y = omega (arith, ints, c.distance-y.ensures, c.min_y.ensures.value, c.min_y-2.ensures.value, ap (λ (q : Rectangle). q.min_y) is) in
    c.clear_area.ensures
    ∙ blank_laid window c.args.strip.now _ _ c.width.result c.height.result c.args.planes.now x y (c.width.ensures.value ∙ ap width is) (c.height.ensures.value ∙ ap height is) c.rect-rect.ensures.strip c.requires.blank
