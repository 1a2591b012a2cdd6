use Rattle.std.proofs.Common.{arith}
use Rattle.lw_cases.proofs.plan_limits.sizes_of_plans_have_bounds.Goals as goal

pub returns-clause-no_columns : goal.returns-clause-no_columns
returns-clause-no_columns c = λ limits. omega (arith, limits.some_columns)

pub returns-clause-columns : goal.returns-clause-columns
returns-clause-columns c = λ limits. omega (arith, limits.columns)

pub returns-clause-no_rows : goal.returns-clause-no_rows
returns-clause-no_rows c = λ limits. omega (arith, limits.some_rows)

pub returns-clause-rows : goal.returns-clause-rows
returns-clause-rows c = λ limits. omega (arith, limits.rows)

pub returns-clause-no_planes : goal.returns-clause-no_planes
returns-clause-no_planes c = λ limits. omega (arith, limits.some_planes)

pub returns-clause-planes : goal.returns-clause-planes
returns-clause-planes c = λ limits. omega (arith, limits.planes)

pub returns-clause-slots : goal.returns-clause-slots
returns-clause-slots c = λ limits. omega (arith, limits.slots)

pub returns-clause-no_task : goal.returns-clause-no_task
returns-clause-no_task c = λ limits. omega (arith, limits.some_task)

pub returns-clause-tasks : goal.returns-clause-tasks
returns-clause-tasks c = λ limits. omega (arith, limits.tasks)

pub returns-clause-bitmaps : goal.returns-clause-bitmaps
returns-clause-bitmaps c = λ limits. omega (arith, limits.bitmaps)

pub returns-clause-version_0 : goal.returns-clause-version_0
returns-clause-version_0 c = λ limits. omega (arith, limits.some_version)

pub returns-clause-version_4 : goal.returns-clause-version_4
returns-clause-version_4 c = λ limits. omega (arith, limits.version)
