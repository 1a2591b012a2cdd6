use Rattle.std.proofs.Common.{sym, ap, ◌∙◌}
use Rattle.std.specs.List.{list_all}
use Rattle.lw_area.specs.Polygons.{is_in_range}
use Rattle.lw_statements.specs.StatementMeaning.{point_meaning}
use Rattle.std.proofs.lemmas.List.Folds.{list_all-map}
use Rattle.lw_statements.proofs.statement.AskedPolygon.is_in_range.Goals as goal

pub returns : goal.returns
returns c =
    c.are_in_range.ensures ∙ ap (list_all (λ p. is_in_range (point_meaning p))) c.as_slice.ensures.value ∙ sym (list_all-map is_in_range point_meaning c.args.self.now.points.items)
