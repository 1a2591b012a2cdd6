use Rattle.std.proofs.Common.{◌≡◌, ◌∙◌, arith, sym, w32, to_z, of_z}
use Rattle.std.proofs.lemmas.Int.{ints, to_z-of_z}
use Rattle.lw_region.proofs.FindingLaws.{next_runs}
use Rattle.lw_region.proofs.region.Region.run_end.Goals as goal

pub returns-then-has : goal.returns-then-has
returns-then-has c =
    let x = to_z-of_z w32 c.args.x c.ranges.x in
    let y = to_z-of_z w32 c.args.y c.ranges.y in
    let last : to_z w32 (of_z w32 c.from.result) ≡ c.in_ok-rect.rect.now.max_x = omega (arith, ints) in
    let found = rw (x, y) at c.in_ok-rect.ensures in
    let has = simp (x, y) at (sym c.has.ensures ∙ c.if-has.true) in
    rw last (next_runs c.args.self.now c.args.x c.args.y c.in_ok-rect.rect.now found has)
