use Rattle.std.proofs.Common.{◌≡◌, pos, ◌+ℤ◌, ◌-ℤ◌, to_z, of_z, w16, w32, ◌∙◌, ap, arith, rules}
use Rattle.std.proofs.lemmas.Int.{ints}
use Rattle.lw_draw.proofs.RowSpanLaws.{flat_right, flat_left, reach_same, in_order, out_of_order, one_further}
use Rattle.lw_draw.proofs.row_spans.flat_span.Goals as goal

pub returns-then-line : goal.returns-then-line
returns-then-line c x y row first past =
    let l = c.args.line in
    let x0 : to_z w16 (of_z w16 l.x0) ≡ l.x0 = search rules in
    let x1 : to_z w16 (of_z w16 l.x1) ≡ l.x1 = search rules in
    let from : to_z w32 (of_z w32 c.right_of.result) ≡ l.x0 +ℤ pos c.args.first = omega (arith, ints, x0, c.right_of.ensures.value) in
    let end : to_z w32 (of_z w32 c.right_of-then-line.result) ≡ l.x0 +ℤ pos c.args.past = omega (arith, ints, x0, c.right_of-then-line.ensures.value) in
    flat_right l x y c.args.first c.args.past (in_order _ _ _ _ c.if-line.true x0 x1) row c.requires.past first past ∙
    reach_same _ _ _ _ x from end

pub returns-else-line : goal.returns-else-line
returns-else-line c x y row first past =
    let l = c.args.line in
    let x0 : to_z w16 (of_z w16 l.x0) ≡ l.x0 = search rules in
    let x1 : to_z w16 (of_z w16 l.x1) ≡ l.x1 = search rules in
    let from = one_further c.left_of.result (l.x0 -ℤ pos c.args.past) (search rules) c.left_of.ensures.near (c.left_of.ensures.value ∙ ap (λ z. z -ℤ pos c.args.past) x0) in
    let end = one_further c.left_of-else-line.result (l.x0 -ℤ pos c.args.first) (search rules) c.left_of-else-line.ensures.near (c.left_of-else-line.ensures.value ∙ ap (λ z. z -ℤ pos c.args.first) x0) in
    flat_left l x y c.args.first c.args.past (out_of_order _ _ _ _ c.if-line.false x0 x1) row c.requires.past first past ∙
    reach_same _ _ _ _ x from end
