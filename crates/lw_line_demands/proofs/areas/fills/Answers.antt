use Rattle.std.proofs.Common.{◌≡◌, ◌-◌, true, List, map, sym, ap, subst, ◌∙◌}
use Rattle.std.specs.List.{list_all}
use Rattle.lw_area.specs.Polygons.{is_in_range}
use Rattle.lw_calls.specs.declared.limits.Limits.{Limits}
use Rattle.lw_statements.specs.declared.statement.AskedPoint.{AskedPoint}
use Rattle.lw_statements.specs.StatementMeaning.{point_meaning}
use Rattle.lw_reader.specs.ReaderKnows.{known}
use Rattle.lw_line_demands.proofs.AreasFound.{room_found, room_lacking, spans_found, spans_beyond}
use Rattle.std.proofs.lemmas.List.Folds.{list_all-map}
use Rattle.lw_line_demands.proofs.areas.fills.Goals as goal

pub polygon_of-requires-clause-range : goal.polygon_of-requires-clause-range
polygon_of-requires-clause-range c =
    let P : List AskedPoint → Type 0 = λ ps. list_all (λ p. is_in_range (point_meaning p)) ps ≡ true in
    subst P (sym c.as_slice.ensures.value) (sym (list_all-map is_in_range point_meaning c.args.area.now.points.items) ∙ c.requires.range)

pub returns-in-TooMany : goal.returns-in-TooMany
returns-in-TooMany c =
    let points = c.in_ok-polygon.ensures ∙ ap (map point_meaning) c.as_slice.ensures.value in
    let left = c.saturating_sub-left.ensures ∙ ap (λ (limits : Limits). limits.calls - c.args.reader.now.tasks.calls_in_task) c.limits_of.ensures in
    spans_beyond (known c.args.reader.now) c.args.area.now c.in_ok-polygon.polygon c.saturating_sub-left.result c.in_ok-spans.field-0 c.in-TooMany.is c.in_ok-spans.ensures points left

pub returns-then-has_room_for_fills : goal.returns-then-has_room_for_fills
returns-then-has_room_for_fills c =
    let t = known c.args.reader.now in
    let area = c.args.area.now in
    let rects = c.in-Rects.rects in
    let points = c.in_ok-polygon.ensures ∙ ap (map point_meaning) c.as_slice.ensures.value in
    let found = spans_found t area c.in_ok-polygon.polygon c.saturating_sub-left.result c.in_ok-spans.field-0 rects c.in-Rects.is c.in_ok-spans.ensures points in
    room_found t area rects c.len.result found (c.len.ensures ∙ rects.ok.0) (sym c.has_room_for_fills.ensures ∙ c.if-has_room_for_fills.true)

pub returns : goal.returns
returns c =
    let t = known c.args.reader.now in
    let area = c.args.area.now in
    let rects = c.in-Rects.rects in
    let points = c.in_ok-polygon.ensures ∙ ap (map point_meaning) c.as_slice.ensures.value in
    let found = spans_found t area c.in_ok-polygon.polygon c.saturating_sub-left.result c.in_ok-spans.field-0 rects c.in-Rects.is c.in_ok-spans.ensures points in
    room_lacking t area rects.items c.len.result found (c.len.ensures ∙ rects.ok.0) (sym c.has_room_for_fills.ensures ∙ c.if-has_room_for_fills.false)
