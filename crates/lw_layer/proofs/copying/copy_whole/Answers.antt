use Rattle.std.proofs.Common.{◌≡◌, ◌≤◌, [], ◌∷◌, pos, ◌-ℤ◌, to_z, of_z, w16, w32, ◌∙◌, ap, arith}
use Rattle.std.proofs.lemmas.Int.{ints, to_z-of_z}
use Rattle.lw_layer.specs.Copied.{area_of}
use Rattle.lw_layer.proofs.copying.copy_whole.Goals as goal

pub returns : goal.returns
returns c =
    let own = c.args.own.now in
    let sizes = c.width.ensures.planes.sizes in
    let columns : own.width ≤ 2048 = sizes.columns.1 in
    let rows : own.height ≤ 2048 = sizes.rows.1 in
    let wide : to_z w16 (of_z w16 (to_z w16 c.width.result -ℤ pos 1)) ≡ pos own.width -ℤ pos 1 = omega (arith, ints) in
    let high : to_z w16 (of_z w16 (to_z w16 c.height.result -ℤ pos 1)) ≡ pos own.height -ℤ pos 1 = omega (arith, ints) in
    let area : c.in-Some.area ≡ area_of own = rw (wide, high) at c.in-Some.ensures.1 in
    let rects : c.from_ref-rects.result.now ≡ area_of own ∷ [] = c.from_ref-rects.ensures.value ∙ ap (λ r. r ∷ []) area in
    let x = to_z-of_z w32 c.args.x c.ranges.x in
    let y : to_z w32 c.args.y ≡ pos c.args.y = omega (arith, ints) in
    record {
      pens = λ i below. rw (rects, c.from_ref.ensures.value, x, y) at (c.copy_row.ensures.bits i below);
      there = λ i below. rw (rects, x, y) at (c.copy_row.ensures.kept i below);
    }
