use Rattle.std.proofs.Common.{◌≡◌, ◌+ℤ◌, ◌≤ℤ◌, pos, arith, w64, to_z, of_z}
use Rattle.std.proofs.lemmas.Int.{ints}
use Rattle.lw_super.proofs.PortionLaws.{axis_told}
use Rattle.lw_super.proofs.scrolling.axis_fits.Goals as goal

pub returns-then-start-ge0 : goal.returns-then-start-ge0
returns-then-start-ge0 c =
    let from : pos 0 ≤ℤ (c.args.scroll +ℤ c.args.by) = omega (arith, ints) in
    let end : to_z w64 (of_z w64 (to_z w64 (of_z w64 (to_z w64 (of_z w64 c.from.result) +ℤ to_z w64 (of_z w64 c.from-2.result))) +ℤ to_z w64 (of_z w64 c.from-then-start-ge0.result))) ≡ (c.args.scroll +ℤ c.args.by) +ℤ pos c.args.extent = omega (arith, ints) in
    let count : to_z w64 (of_z w64 c.from-then-start-ge0-2.result) ≡ pos c.args.count = omega (arith, ints) in
    axis_told (c.args.scroll +ℤ c.args.by) (pos c.args.extent) c.args.count _ _ from end count
