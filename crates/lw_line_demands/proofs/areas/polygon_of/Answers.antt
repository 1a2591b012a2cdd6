use Rattle.std.proofs.Common.{map, ap, ◌∙◌, arith}
use Rattle.lw_statements.specs.StatementMeaning.{point_meaning}
use Rattle.lw_reader.proofs.Found.{found_some}
use Rattle.lw_line_demands.proofs.AreasFound.{polygon_made}
use Rattle.std.proofs.lemmas.List.{take_all}
use Rattle.lw_line_demands.proofs.areas.polygon_of.Goals as goal

pub unwrap-requires : goal.unwrap-requires
unwrap-requires c =
    let points = c.args.points.now in
    let same = c.as_slice.ensures.value ∙ c.loop-point.invariant ∙ ap (map point_meaning) (take_all c.loop-point.point-index points (omega (arith, c.loop-point-test.false))) in
    found_some c.in_ok-new.field-0 _ _ c.in_ok-new.ensures (polygon_made points c.as_slice.result.now same c.requires.range c.requires.count)
