use Rattle.std.proofs.Common.{arith}
use Rattle.lw_cases.proofs.plan_limits.sizes_of_later_plans_have_bounds.Goals as goal

pub returns-clause-second_columns : goal.returns-clause-second_columns
returns-clause-second_columns c = λ limits. omega (arith, limits.columns)

pub returns-clause-second_rows : goal.returns-clause-second_rows
returns-clause-second_rows c = λ limits. omega (arith, limits.rows)

pub returns-clause-second_slots : goal.returns-clause-second_slots
returns-clause-second_slots c = λ limits. omega (arith, limits.slots)

pub returns-clause-second_bitmaps : goal.returns-clause-second_bitmaps
returns-clause-second_bitmaps c = λ limits. omega (arith, limits.bitmaps)

pub returns-clause-third_columns : goal.returns-clause-third_columns
returns-clause-third_columns c = λ limits. omega (arith, limits.columns)

pub returns-clause-third_rows : goal.returns-clause-third_rows
returns-clause-third_rows c = λ limits. omega (arith, limits.rows)

pub returns-clause-third_slots : goal.returns-clause-third_slots
returns-clause-third_slots c = λ limits. omega (arith, limits.slots)
