use Rattle.std.proofs.Common.{◌≡◌, ◌+◌, min, to_z, of_z, w16, ◌∙◌, ap, rules}
use Rattle.lw_draw.proofs.RowSpanLaws.{steps_same}
use Rattle.lw_draw.proofs.WalkLaws.{past_first}
use Rattle.lw_draw.proofs.row_spans.past_step.Goals as goal

pub returns-clause-first : goal.returns-clause-first
returns-clause-first c y is =
    let l = c.args.line in
    let x0 : to_z w16 (of_z w16 l.x0) ≡ l.x0 = search rules in
    let x1 : to_z w16 (of_z w16 l.x1) ≡ l.x1 = search rules in
    past_first l y c.args.past _ (c.at_most.ensures ∙ ap (λ n. min c.args.past.value (n + 1)) (steps_same _ _ _ _ _ c.steps.ensures.value x1 x0)) is
