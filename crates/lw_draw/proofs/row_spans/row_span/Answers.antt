use Rattle.std.proofs.Common.{◌≡◌, true, false, to_z, of_z, w16, w32, subst, arith, rules}
use Rattle.lw_draw.specs.Walks.{wide, high, rows_before, IsFirstStep, IsFlatRow, IsSteepRow, IsWalk}
use Rattle.lw_draw.proofs.RowSpanLaws.{flat_test, steep_test, steps_same, by_axis_same}
use Rattle.lw_draw.proofs.WalkLaws.{side_small, steep_small, level_first, level_past}
use Rattle.lw_draw.proofs.row_spans.row_span.Goals as goal

pub steep_span-requires : goal.steep_span-requires
steep_span-requires c =
    let l = c.args.line in
    let is : IsSteepRow l c.args.y c.in-Steep.moved = subst (λ w. IsWalk l c.args.y w) c.in-Steep.is c.requires.walk in
    omega (arith, steep_small l c.args.y c.in-Steep.moved c.requires.row is, side_small l.x0 l.x1 (search rules) (search rules))

pub returns-in-Level : goal.returns-in-Level
returns-in-Level c x =
    let l = c.args.line in
    let x0 : to_z w16 (of_z w16 l.x0) ≡ l.x0 = search rules in
    let x1 : to_z w16 (of_z w16 l.x1) ≡ l.x1 = search rules in
    let all : c.steps.result ≡ wide l = steps_same _ _ _ _ _ c.steps.ensures.value x1 x0 in
    let level : high l ≡ 0 = subst (λ w. IsWalk l c.args.y w) c.in-Level.is c.requires.walk in
    by_axis_same l.x0 l.y0 l.x1 l.y1 x c.args.y true _ (flat_test (high l) (wide l) (omega (arith, level)))
    (c.flat_span.ensures x c.args.y c.requires.row (level_first l c.args.y level c.requires.row)
    (rw all (level_past l c.args.y level)))

pub returns-in-Flat : goal.returns-in-Flat
returns-in-Flat c x =
    let l = c.args.line in
    let y : to_z w32 (of_z w32 c.args.y) ≡ c.args.y = search rules in
    let is : IsFlatRow l c.args.y c.in-Flat.past = subst (λ w. IsWalk l c.args.y w) c.in-Flat.is c.requires.walk in
    by_axis_same l.x0 l.y0 l.x1 l.y1 x c.args.y true _ (flat_test (high l) (wide l) is.flat)
    (c.flat_span-in-Flat.ensures x c.args.y c.requires.row (subst (λ z. IsFirstStep l (rows_before l z) c.first_step.result) y c.first_step.ensures.first)
    (c.past_step.ensures.first c.args.y is))

pub returns-in-Steep : goal.returns-in-Steep
returns-in-Steep c x =
    let l = c.args.line in
    let is : IsSteepRow l c.args.y c.in-Steep.moved = subst (λ w. IsWalk l c.args.y w) c.in-Steep.is c.requires.walk in
    by_axis_same l.x0 l.y0 l.x1 l.y1 x c.args.y false _ (steep_test (high l) (wide l) is.steep)
    (c.steep_span.ensures x c.args.y c.requires.row is)
