use Rattle.std.proofs.Common.{◌≡◌, ◌+◌, ◌-◌, min, to_z, of_z, w16, w32, ◌∙◌, sym, ap, rules}
use Rattle.lw_draw.specs.Walks.{wide, rows_before}
use Rattle.lw_draw.proofs.RowSpanLaws.{steps_same}
use Rattle.lw_draw.proofs.WalkLaws.{gain_small, prior_first, some_before}
use Rattle.lw_draw.proofs.row_spans.first_step.Goals as goal

pub prior-requires : goal.prior-requires
prior-requires c =
    let l = c.args.line in
    let y0 : to_z w16 (of_z w16 l.y0) ≡ l.y0 = search rules in
    let further : rows_before l c.args.y ≡ (rows_before l c.args.y - 1) + 1 = some_before l.y0 c.args.y (λ e. c.if-y-from.false (ap (λ z. of_z w32 z) (e ∙ sym (c.from.ensures ∙ y0)))) in
    gain_small (rows_before l c.args.y) _ (wide l) _ _ c.args.past further c.requires.quotient

pub returns-clause-first : goal.returns-clause-first
returns-clause-first c =
    let l = c.args.line in
    let y0 : to_z w16 (of_z w16 l.y0) ≡ l.y0 = search rules in
    let x0 : to_z w16 (of_z w16 l.x0) ≡ l.x0 = search rules in
    let x1 : to_z w16 (of_z w16 l.x1) ≡ l.x1 = search rules in
    let further : rows_before l c.args.y ≡ (rows_before l c.args.y - 1) + 1 = some_before l.y0 c.args.y (λ e. c.if-y-from.false (ap (λ z. of_z w32 z) (e ∙ sym (c.from.ensures ∙ y0)))) in
    prior_first l c.args.y c.args.past c.prior.result _ _ further c.requires c.prior.ensures
    (c.at_most.ensures ∙ ap (λ n. min c.prior.result.value (n + 1)) (steps_same _ _ _ _ _ c.steps.ensures.value x1 x0))
