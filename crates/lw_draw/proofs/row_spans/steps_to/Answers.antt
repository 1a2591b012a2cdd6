use Rattle.std.proofs.Common.{◌≡◌, FitsSigned, w16, ◌-ℤ◌, unsigned_abs, arith}
use Rattle.std.proofs.lemmas.Int.{ints}
use Rattle.lw_draw.proofs.RowSpanLaws.{between_fits, steps_between}
use Rattle.lw_draw.proofs.row_spans.steps_to.Goals as goal

pub overflow_sub-place : goal.overflow_sub-place
overflow_sub-place c = let fits : FitsSigned w16 c.args.place = between_fits c.args.from c.args.to c.args.place c.ranges.from c.ranges.to c.requires in omega (arith, ints)

pub returns-clause-value : goal.returns-clause-value
returns-clause-value c =
    let fits : FitsSigned w16 c.args.place = between_fits c.args.from c.args.to c.args.place c.ranges.from c.ranges.to c.requires in
    omega (arith, ints, c.unsigned_abs.ensures.value)

pub returns-clause-between : goal.returns-clause-between
returns-clause-between c =
    let fits : FitsSigned w16 c.args.place = between_fits c.args.from c.args.to c.args.place c.ranges.from c.ranges.to c.requires in
    let near = steps_between c.args.from c.args.to c.args.place c.requires in
    let is : c.unsigned_abs.result ≡ unsigned_abs (c.args.place -ℤ c.args.from) = omega (arith, ints, c.unsigned_abs.ensures.value) in
    rw is near
