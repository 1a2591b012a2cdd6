use Rattle.std.proofs.Common.{◌≡◌, rules, IsTrue, [], ◌∷◌, length, replicate, refl, arith}
use Rattle.std.proofs.lemmas.Bool.{false≢true}
use Rattle.std.proofs.lemmas.List.{length-replicate}
use Rattle.std.proofs.lemmas.List.Elements.{All-head, All-tail}
use Rattle.lw_calls.specs.declared.call.Call.TheVariants.{RegClear}
use Rattle.lw_calls.specs.Limits.{call_fits}
use Rattle.lw_cases.specs.PlanLimits.{greatest_sizes, clears, filled_plan}
use Rattle.lw_cases.proofs.FilledPlans.{few, fit, filled_is_plan}
use Rattle.lw_cases.proofs.plan_limits.plans_have_bounds.Goals as goal

pub returns-clause-filled : goal.returns-clause-filled
returns-clause-filled c = filled_is_plan greatest_sizes 64 4096 (search rules) refl refl (omega arith)

pub returns-clause-names : goal.returns-clause-names
returns-clause-names c = λ p. let counted : 63 ≡ 64 = p.slots in omega (arith, counted)

pub returns-clause-task_names : goal.returns-clause-task_names
returns-clause-task_names c = λ p. let counted : 15 ≡ 16 = p.tasks in omega (arith, counted)

pub returns-clause-bitmap_names : goal.returns-clause-bitmap_names
returns-clause-bitmap_names c = λ p. let counted : 1 ≡ 0 = p.bitmaps in omega (arith, counted)

pub returns-clause-lists : goal.returns-clause-lists
returns-clause-lists c = λ p. let counted : 15 ≡ 16 = p.lists in omega (arith, counted)

pub returns-clause-group_lists : goal.returns-clause-group_lists
returns-clause-group_lists c = λ p. let counted : 15 ≡ 16 = p.group_lists in omega (arith, counted)

pub returns-clause-supplied : goal.returns-clause-supplied
returns-clause-supplied c = λ p. let counted : 1 ≡ 0 = p.supplied in omega (arith, counted)

pub returns-clause-glyphs : goal.returns-clause-glyphs
returns-clause-glyphs c = λ p. let counted : 94 ≡ 95 = p.assets.glyphs in omega (arith, counted)

pub returns-clause-glyph_rows : goal.returns-clause-glyph_rows
returns-clause-glyph_rows c = λ p.
    let counted : 7 ≡ 8 = All-head (λ g. length g ≡ 8) (replicate 7 0) (replicate 94 (replicate 7 0)) p.assets.rows in
    omega (arith, counted)

pub returns-clause-calls : goal.returns-clause-calls
returns-clause-calls c = λ p.
    let first : few 1 (clears 4097) = All-head (few 1) (clears 4097) (replicate 15 []) p.few in
    omega (arith, first, length-replicate 4097 (RegClear 7))

pub returns-clause-calls_of_the_second : goal.returns-clause-calls_of_the_second
returns-clause-calls_of_the_second c = λ p.
    let second : few 1 (clears 4097) =
    All-head (few 1) (clears 4097) (replicate 14 []) (All-tail (few 1) [] (clears 4097 ∷ replicate 14 []) p.few) in
    omega (arith, second, length-replicate 4097 (RegClear 7))

pub returns-clause-unfit : goal.returns-clause-unfit
returns-clause-unfit c = λ p.
    let second : fit filled_plan.sizes (RegClear 8 ∷ []) =
    All-head (fit filled_plan.sizes) (RegClear 8 ∷ []) (replicate 14 []) (All-tail (fit filled_plan.sizes) [] ((RegClear 8 ∷ []) ∷ replicate 14 []) p.fit) in
    false≢true (All-head (λ c. IsTrue (call_fits filled_plan.sizes c)) (RegClear 8) [] second)

pub returns-clause-grouped : goal.returns-clause-grouped
returns-clause-grouped c = λ p. false≢true (p.groups 1)
