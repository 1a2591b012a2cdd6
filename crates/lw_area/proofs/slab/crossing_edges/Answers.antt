use Rattle.std.proofs.Common.{◌≡◌, ℤ, to_z, of_z, w32, arith, subst}
use Rattle.std.specs.List.{flat_map}
use Rattle.std.proofs.lemmas.Int.{ints}
use Rattle.lw_area.specs.Polygons.{sides}
use Rattle.lw_area.specs.Rows.{crossing}
use Rattle.lw_area.proofs.Slabs.{crossing_end}
use Rattle.lw_area.proofs.slab.crossing_edges.Goals as goal

pub returns : goal.returns
returns c =
    let same : to_z w32 (of_z w32 c.args.row) ≡ c.args.row = omega (arith, ints) in
    subst (λ w. c.push_side-2.new.edges.items ≡ flat_map (crossing w) (sides c.args.points.now)) same
    (crossing_end (to_z w32 (of_z w32 c.args.row)) c.args.points.now c.in-Some.others.now c.in-Some.first.now c.loop-to.from c.loop-to.to-index c.loop-to.edges.items
    c.push_side-2.new.edges.items c.loop-to-test.false c.loop-to.invariant c.in_ok-push_side-2.ensures)
