-- A plan that is as full as its version allows may be run.
use Rattle.std.proofs.Common.{◌≡◌, ℕ, suc, zero, ◌≤◌, IsTrue, All, List, [], length, replicate, refl, sym, subst, ◌∙◌, arith}
use Rattle.std.specs.List.{slice_index_or}
use Rattle.std.proofs.lemmas.List.{length-replicate}
use Rattle.std.proofs.lemmas.List.Elements.{All-nil, All-cons, All-replicate}
use Rattle.lw_calls.specs.declared.sizes.Sizes.{Sizes}
use Rattle.lw_calls.specs.declared.call.Call.{Call}
use Rattle.lw_calls.specs.declared.call.Call.TheVariants.{RegClear}
use Rattle.lw_calls.specs.declared.group.Group.{Group}
use Rattle.lw_calls.specs.Limits.{IsWithinLimits, limits_of, call_fits}
use Rattle.lw_calls.specs.Plan.{IsPlan, groups_fit, task_calls}
use Rattle.lw_cases.specs.PlanLimits.{clears, filled}

-- a task without groups, and any of so many such tasks
abbrev ungrouped : List Group
ungrouped = []

none_among : (n task : ℕ) → slice_index_or (replicate n ungrouped) task ungrouped ≡ ungrouped
none_among zero task = refl
none_among (suc n) zero = refl
none_among (suc n) (suc task) = none_among n task

-- few enough calls, and calls that fit
abbrev pub few : ℕ → List Call → Type 0
few version calls = length calls ≤ (limits_of version).calls

abbrev pub fit : Sizes → List Call → Type 0
fit sizes calls = All (λ c. IsTrue (call_fits sizes c)) calls

pub filled_is_plan : (sizes : Sizes) (names calls : ℕ) → IsWithinLimits (record sizes { bitmaps = 0 }) → sizes.tasks ≡ 16
    → sizes.slots ≡ names
    → calls ≤ (limits_of sizes.version).calls → IsPlan (filled sizes names calls)
filled_is_plan sizes names calls limits tasks slots low =
    record {
      limits = limits;
      slots = length-replicate names _ ∙ sym slots;
      tasks = sym tasks;
      bitmaps = refl;
      lists = sym tasks;
      group_lists = sym tasks;
      supplied = refl;
      assets = record { glyphs = refl; rows = All-replicate (λ g. length g ≡ 8) 95 (replicate 8 0) refl; bitmaps = All-nil _ };
      few = All-cons (few sizes.version) (clears calls) (replicate 15 [])
          (omega (arith, low, length-replicate calls (RegClear 7))) (All-replicate (few sizes.version) 15 [] (omega arith));
      fit = All-cons (fit own) (clears calls) (replicate 15 [])
          (All-replicate (λ c. IsTrue (call_fits own c)) calls (RegClear 7) refl) (All-replicate (fit own) 15 [] (All-nil _));
      groups = λ task. subst (λ gs. IsTrue (groups_fit (task_calls (filled sizes names calls) task) gs))
          (sym (none_among 16 task)) refl;
    }
  where
    own : Sizes
    own = record sizes { bitmaps = 0 }
