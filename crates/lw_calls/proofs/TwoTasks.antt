-- A plan of two tasks that hands in nothing may be run where its calls and its first task's groups fit.
use Rattle.std.proofs.Common.{◌≡◌, ℕ, zero, suc, ◌≤◌, IsTrue, All, List, [], ◌∷◌, length, replicate, refl, sym, subst, ◌∙◌}
use Rattle.std.specs.List.{slice_index_or}
use Rattle.std.proofs.lemmas.List.Elements.{All-nil, All-cons, All-replicate}
use Rattle.lw_calls.specs.declared.call.Call.{Call}
use Rattle.lw_calls.specs.declared.group.Group.{Group}
use Rattle.lw_calls.specs.declared.pair.Pair.{Pair}
use Rattle.lw_calls.specs.declared.sizes.Sizes.{Sizes}
use Rattle.lw_calls.specs.Limits.{IsWithinLimits, limits_of, call_fits}
use Rattle.lw_calls.specs.Assets.{Assets}
use Rattle.lw_calls.specs.Plan.{Plan, IsPlan, groups_fit, no_assets}

-- no more calls than a task may have, each of which fits
pub record AreFitting (sizes : Sizes) (calls : List Call) : Type 0 where
  pub few : length calls ≤ (limits_of sizes.version).calls
  pub fit : All (λ c. IsTrue (call_fits sizes c)) calls

-- what holds of two lists
of_two : {A : Type 0} (P : A → Type 0) (a b : A) → P a → P b → All P (a ∷ b ∷ [])
of_two P a b h k = All-cons P a (b ∷ []) h (All-cons P b [] k (All-nil P))

-- the groups of each task fit
each_fits : (first second : List Call) (groups : List Group) → IsTrue (groups_fit first groups) → (task : ℕ)
    → IsTrue (groups_fit (slice_index_or (first ∷ second ∷ []) task []) (slice_index_or (groups ∷ [] ∷ []) task []))
each_fits first second groups h zero = h
each_fits first second groups h (suc zero) = refl
each_fits first second groups h (suc (suc task)) = refl

-- a plan of these parts
abbrev pub plan_with : Sizes → List (List ℕ) → List (List ℕ) → List (List ℕ) → List (List Call) → List (List Group) → List Pair
    → Assets
    → Plan
plan_with sizes slots tasks bitmaps calls groups pairs assets = record {
  sizes = sizes;
  slot_names = slots;
  task_names = tasks;
  bitmap_names = bitmaps;
  calls = calls;
  groups = groups;
  pairs = pairs;
  assets = assets;
}

pub two_tasks : (sizes : Sizes) (slots tasks bitmaps : List (List ℕ)) (calls : List (List Call)) (grouped : List (List Group))
    (pairs : List Pair) (assets : Assets) (first second : List Call) (groups : List Group)
    → IsWithinLimits sizes → sizes.tasks ≡ 2 → sizes.bitmaps ≡ 0 → length slots ≡ sizes.slots → length tasks ≡ 2
    → bitmaps ≡ [] → calls ≡ first ∷ second ∷ [] → grouped ≡ groups ∷ [] ∷ [] → assets ≡ no_assets
    → AreFitting sizes first → AreFitting sizes second → IsTrue (groups_fit first groups)
    → IsPlan (plan_with sizes slots tasks bitmaps calls grouped pairs assets)
two_tasks sizes slots tasks bitmaps calls grouped pairs assets first second groups limits two none a b c d e f g h k =
    let same : plan_with sizes slots tasks [] (first ∷ second ∷ []) (groups ∷ [] ∷ []) pairs no_assets
    ≡ plan_with sizes slots tasks bitmaps calls grouped pairs assets = cc in
    subst IsPlan same
    (record {
      limits = limits;
      slots = a;
      tasks = b ∙ sym two;
      bitmaps = sym none;
      lists = sym two;
      group_lists = sym two;
      supplied = sym none;
      assets = record { glyphs = refl; rows = All-replicate (λ g. length g ≡ 8) 95 (replicate 8 0) refl; bitmaps = All-nil _ };
      few = of_two (λ cs. length cs ≤ (limits_of sizes.version).calls) first second g.few h.few;
      fit = of_two (λ cs. All (λ c. IsTrue (call_fits sizes c)) cs) first second g.fit h.fit;
      groups = each_fits first second groups k;
    })
