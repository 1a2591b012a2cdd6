use Rattle.std.proofs.Common.{◌&&◌, IsTrue, subst}
use Rattle.std.proofs.lemmas.Bool.{and_parts}
use Rattle.lw_calls.specs.Limits.{is_coordinate, is_extent, coordinates_fit}
use Rattle.lw_calls.proofs.LimitLaws.{extent_fits}
use Rattle.lw_arrange.specs.AskedBounds.{change_fits}
use Rattle.lw_calls.specs.declared.call.Call.{Call}
use Rattle.lw_arrange.proofs.AskedBoundsLaws.{read_span}
use Rattle.lw_arrange.proofs.asked_bounds.changed_by.Goals as goal

pub edges_of_box-requires-clause-columns : goal.edges_of_box-requires-clause-columns
edges_of_box-requires-clause-columns c =
    let b = c.in-SetBox in
    let P : Call → Type 0 = λ k. IsTrue (change_fits k) in
    let parts = and_parts (coordinates_fit b.x b.y) (is_extent b.w && is_extent b.h) (subst P b.is c.requires) in
    read_span b.x b.w (and_parts (is_coordinate b.x) (is_coordinate b.y) parts.0).0
    (extent_fits b.w (and_parts (is_extent b.w) (is_extent b.h) parts.1).0)

pub edges_of_box-requires-clause-rows : goal.edges_of_box-requires-clause-rows
edges_of_box-requires-clause-rows c =
    let b = c.in-SetBox in
    let P : Call → Type 0 = λ k. IsTrue (change_fits k) in
    let parts = and_parts (coordinates_fit b.x b.y) (is_extent b.w && is_extent b.h) (subst P b.is c.requires) in
    read_span b.y b.h (and_parts (is_coordinate b.x) (is_coordinate b.y) parts.0).1
    (extent_fits b.h (and_parts (is_extent b.w) (is_extent b.h) parts.1).1)
