use Rattle.std.proofs.Common.{rules, [], replicate, refl, arith}
use Rattle.std.proofs.lemmas.List.{length-replicate}
use Rattle.std.proofs.lemmas.List.Elements.{All-head}
use Rattle.lw_calls.specs.declared.call.Call.TheVariants.{RegClear}
use Rattle.lw_cases.specs.PlanLimits.{second_sizes, third_sizes, clears}
use Rattle.lw_cases.proofs.FilledPlans.{few, filled_is_plan}
use Rattle.lw_cases.proofs.plan_limits.later_plans_have_bounds.Goals as goal

pub returns-clause-second : goal.returns-clause-second
returns-clause-second c = filled_is_plan second_sizes 128 16384 (search rules) refl refl (omega arith)

pub returns-clause-second_calls : goal.returns-clause-second_calls
returns-clause-second_calls c = λ p.
    let first : few 2 (clears 16385) = All-head (few 2) (clears 16385) (replicate 15 []) p.few in
    omega (arith, first, length-replicate 16385 (RegClear 7))

pub returns-clause-third : goal.returns-clause-third
returns-clause-third c = filled_is_plan third_sizes 1024 16384 (search rules) refl refl (omega arith)

pub returns-clause-third_calls : goal.returns-clause-third_calls
returns-clause-third_calls c = λ p.
    let first : few 3 (clears 16385) = All-head (few 3) (clears 16385) (replicate 15 []) p.few in
    omega (arith, first, length-replicate 16385 (RegClear 7))
