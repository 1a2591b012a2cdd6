use Rattle.std.proofs.Common.{◌≡◌, ◌≤ℤ◌, arith, w32, to_z, of_z}
use Rattle.std.specs.Int.{int_max}
use Rattle.std.proofs.lemmas.Int.{ints, clamps, to_z-of_z}
use Rattle.lw_region.proofs.FindingLaws.{next_begins}
use Rattle.lw_region.proofs.region.Region.next_start.Goals as goal

pub returns : goal.returns
returns c =
    let r = c.in_ok-rect.rect.now in
    let x = to_z-of_z w32 c.args.x c.ranges.x in
    let y = to_z-of_z w32 c.args.y c.ranges.y in
    let found = rw (x, y) at c.in_ok-rect.ensures in
    let begun : r.min_y ≤ℤ c.args.y = grind (arith, ints) in
    let next : to_z w32 (of_z w32 c.max.result) ≡ int_max c.args.x r.min_x = omega (arith, ints, clamps) in
    rw next (next_begins c.args.self.now c.args.x c.args.y r found c.min_y.ensures.ordered begun)
