use Rattle.std.proofs.Common.{◌≡◌, pos, ◌+ℤ◌, to_z, of_z, w16, w32, ◌∙◌, arith, rules}
use Rattle.std.proofs.lemmas.Int.{ints}
use Rattle.lw_draw.proofs.RowSpanLaws.{steep_one, towards_same, reach_same}
use Rattle.lw_draw.proofs.WalkLaws.{steep_value}
use Rattle.lw_draw.proofs.row_spans.steep_span.Goals as goal

pub returns : goal.returns
returns c x y row walk =
    let l = c.args.line in
    let x0 : to_z w16 (of_z w16 l.x0) ≡ l.x0 = search rules in
    let x1 : to_z w16 (of_z w16 l.x1) ≡ l.x1 = search rules in
    let near = c.towards-column.ensures.near in
    let from : to_z w32 (of_z w32 c.towards-column.result) ≡ c.towards-column.result = omega (arith, ints) in
    let end : to_z w32 (of_z w32 (to_z w32 (of_z w32 c.towards-column.result) +ℤ pos 1)) ≡ c.towards-column.result +ℤ pos 1 = omega (arith, ints) in
    steep_one l x y c.towards-column.result c.args.moved.value row (steep_value l y c.args.moved walk)
    (towards_same _ _ _ _ _ _ c.towards-column.ensures.value x0 x1) ∙
    reach_same _ _ _ _ x from end
