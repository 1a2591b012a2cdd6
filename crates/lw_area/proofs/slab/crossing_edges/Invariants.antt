use Rattle.std.proofs.Common.{◌≡◌, [], ◌∷◌, ◌++◌, drop}
use Rattle.std.specs.List.{flat_map}
use Rattle.lw_area.specs.Polygons.{way, sides}
use Rattle.lw_area.specs.Rows.{crossing}
use Rattle.lw_area.proofs.slab.crossing_edges.Given as goal

abbrev pub invariant-loop-to : goal.invariant-loop-to
invariant-loop-to l =
    l.edges.items ++ flat_map (crossing l.row) (way l.from (drop l.to-index l.others ++ l.first ∷ [])) ≡ flat_map (crossing l.row) (sides l.points)
