use Rattle.std.proofs.Common.{◌≡◌, pos, ◌-ℤ◌, ◌<ℤ◌, ◌≤ℤ◌, to_z, of_z, w32, arith}
use Rattle.std.proofs.lemmas.Int.{ints, to_z-of_z}
use Rattle.lw_layer.proofs.AlikeLaws.{alike_above, alike_inside, alike_below}
use Rattle.lw_layer.proofs.alike.rect_rows.Goals as goal

pub returns-then-row-top-clause-alike : goal.returns-then-row-top-clause-alike
returns-then-row-top-clause-alike c =
    let r = c.args.rect.now in
    let row = to_z-of_z w32 c.args.row c.ranges.row in
    let top : to_z w32 (of_z w32 c.from-top.result) ≡ r.min_y = omega (arith, ints) in
    let above : c.args.row <ℤ r.min_y = omega (arith, ints) in
    let is : pos c.gap.result ≡ r.min_y -ℤ c.args.row = rw (row, top) at c.gap.ensures in
    λ k inside. alike_above r.min_y r.max_y c.args.row c.gap.result k is above inside

pub returns-then-row-bottom-clause-alike : goal.returns-then-row-bottom-clause-alike
returns-then-row-bottom-clause-alike c =
    let r = c.args.rect.now in
    let row = to_z-of_z w32 c.args.row c.ranges.row in
    let bottom : to_z w32 (of_z w32 c.from-bottom.result) ≡ r.max_y = omega (arith, ints) in
    let from : r.min_y ≤ℤ c.args.row = omega (arith, ints) in
    let to : c.args.row ≤ℤ r.max_y = omega (arith, ints) in
    let is : pos c.gap-then-row-bottom.result ≡ r.max_y -ℤ c.args.row = rw (row, bottom) at c.gap-then-row-bottom.ensures in
    λ k inside. alike_inside r.min_y r.max_y c.args.row c.gap-then-row-bottom.result k is from to inside

pub returns-clause-alike : goal.returns-clause-alike
returns-clause-alike c =
    let r = c.args.rect.now in
    let below : r.max_y <ℤ c.args.row = omega (arith, ints) in
    λ k _. alike_below r.min_y r.max_y c.args.row k below
