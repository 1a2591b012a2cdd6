use Rattle.std.proofs.Common.{◌≡◌, Bool, ◌&&◌, ℤ, pos, ◌+ℤ◌, to_z, of_z, w32, FitsSigned, arith, ◌∙◌, rules, sym}
use Rattle.std.specs.Ordering.{int_eq}
use Rattle.std.proofs.lemmas.Int.{ints}
use Rattle.lw_gzz.specs.Recognition.{is_inner_box}
use Rattle.lw_gzz.proofs.Spelling.{box_fits}
use Rattle.lw_gzz.proofs.recognized.Frame.has_inner.Goals as goal

-- a test of two numbers that were handed on
handed_on : (t : Bool) (a by sum : ℤ) → FitsSigned w32 a → FitsSigned w32 sum
    → t ≡ int_eq (to_z w32 (of_z w32 a) +ℤ by) (to_z w32 (of_z w32 sum)) → t ≡ int_eq (a +ℤ by) sum
handed_on t a by sum fits also is =
    let here : to_z w32 (of_z w32 a) ≡ a = omega (arith, ints) in
    let there : to_z w32 (of_z w32 sum) ≡ sum = omega (arith, ints) in
    is ∙ (λ i. int_eq (here i +ℤ by) (there i))

same_box : (c : goal.After-are_all) → c.are_all.result
    ≡ is_inner_box c.args.self.x c.args.self.y c.args.self.w c.args.self.h c.args.inner.x c.args.inner.y c.args.inner.w
    c.args.inner.h
same_box c =
    let column = handed_on c.is_sum-column.result c.args.self.x (pos 4) c.args.inner.x (search rules) (search rules)
    c.is_sum-column.ensures in
    let row = handed_on c.is_sum-row.result c.args.self.y (pos 11) c.args.inner.y (search rules) (search rules)
    c.is_sum-row.ensures in
    let columns = handed_on c.is_sum-columns.result c.args.inner.w (pos 8) c.args.self.w (search rules) (search rules)
    c.is_sum-columns.ensures in
    let rows = handed_on c.is_sum-rows.result c.args.inner.h (pos 13) c.args.self.h (search rules) (search rules)
    c.is_sum-rows.ensures in
    c.are_all.ensures ∙ (λ i. (column i && row i) && (columns i && rows i))

pub returns-clause-is : goal.returns-clause-is
returns-clause-is c = same_box c

pub returns-clause-fits : goal.returns-clause-fits
returns-clause-fits c =
    λ is. box_fits c.args.self.x c.args.self.y c.args.self.w c.args.self.h c.args.inner.x c.args.inner.y c.args.inner.w
    c.args.inner.h (search rules) (search rules) (search rules) (search rules) (sym (same_box c) ∙ is)
