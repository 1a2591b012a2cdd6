-- The passes that tasks begin with.
use Rattle.std.proofs.Common.{◌≡◌, ℕ, suc, ◌+◌, ◌<◌, length, List, [], ◌∷◌, map, option_map, Some, refl, ap, sym, subst, ◌∙◌, arith}
use Rattle.std.specs.Prelude.{Result, Ok, IfOk, Contains}
use Rattle.std.specs.List.{slice_index_or, slice_get, range_with_len}
use Rattle.std.proofs.lemmas.List.{length-map}
use Rattle.std.proofs.lemmas.List.FromFn.{length-range_with_len, get_or-range_with_len, get_or-map-range_with_len}
use Rattle.std.proofs.lemmas.Option.{slice_get-map, slice_get_within, same_Some}
use Rattle.lw_calls.specs.declared.entry.Entry.{Entry}
use Rattle.lw_calls.specs.Plan.{Plan}
use Rattle.lw_machine.specs.Desk.{Desk}
use Rattle.lw_locks.specs.Closing.{task_of, HasEach}
use Rattle.lw_locks.specs.Seen.{SeenPass, opening_pass}
use Rattle.lw_runs.specs.declared.answers.TaskAnswers.{TaskAnswers}
use Rattle.lw_runs.specs.Whole.{HasAll, EachHasAll}
use Rattle.lw_runs.proofs.ListLaws.{has_entry}

pub many_passes : (passes : List SeenPass) (n : ℕ) → passes ≡ map opening_pass (range_with_len 0 n) → length passes ≡ n
many_passes passes n are = ap length are ∙ (length-map (range_with_len 0 n) opening_pass ∙ length-range_with_len 0 n)

pub first_pass : (passes : List SeenPass) (n i : ℕ) (x : SeenPass) → passes ≡ map opening_pass (range_with_len 0 n) → i < length passes → x ≡ slice_index_or passes i x → x ≡ opening_pass i
first_pass passes n i x are low read =
    let many = many_passes passes n are in
    read ∙ (ap (λ ps. slice_index_or ps i x) are ∙ get_or-map-range_with_len opening_pass 0 n i i x (omega (arith, low, many)) (omega arith))

-- the run of a job, whose pass was the first one of its task
pub job_run : {A E : Type 0} (Told : ℕ → List Entry → A → Type 0) (job : SeenPass) (t : ℕ) (task : ℕ) (history : List Entry) (o : Result A E) → job ≡ opening_pass t → task ≡ job.task → IfOk o (Told job.task history) → (task ≡ t) × IfOk o (Told t history)
job_run Told job t task history o first same told =
    let number : job.task ≡ t = ap (λ (p : SeenPass). p.task) first in
    (same ∙ number, subst (λ n. IfOk o (Told n history)) number told)

module _ {Run E : Type 0} (desk : Desk) (plan : Plan) (pass_of : Run → SeenPass) (told_of : Run → Result TaskAnswers E) (runs : List Run) (passes : List SeenPass) (all : List TaskAnswers) (are : passes ≡ map pass_of runs) (told_are : map (λ t. Ok t) all ≡ map told_of runs)
    (each : (t : ℕ) (run : Run) → slice_get runs t ≡ Some run → ((pass_of run).task ≡ t) × IfOk (told_of run) (λ told. HasAll desk plan t (pass_of run).history told)) where
  -- the run after a pass
  pub run_of : (t : ℕ) (p : SeenPass) → slice_get passes t ≡ Some p → (run : Run) × (slice_get runs t ≡ Some run) × (pass_of run ≡ p)
  run_of t p got =
      let low : t < length runs = (let below = slice_get_within passes t p got in let many = ap length are ∙ length-map runs pass_of in omega (arith, below, many)) in
      let r = has_entry runs t low in
      let here : slice_get passes t ≡ Some (pass_of r.0) = ap (λ ps. slice_get ps t) are ∙ (slice_get-map pass_of runs t ∙ ap (option_map pass_of) r.1) in
      (r.0, r.1, same_Some (pass_of r.0) p (sym here ∙ got))

  pub own_task : (t : ℕ) (p : SeenPass) → slice_get passes t ≡ Some p → p.task ≡ t
  own_task t p got = let r = run_of t p got in ap (λ (q : SeenPass). q.task) (sym r.2) ∙ (each t r.0 r.1).0

  pub each_has_all : EachHasAll desk plan passes all
  each_has_all t p told got had =
      let r = run_of t p got in
      let one : Some (told_of r.0) ≡ Some (Ok told) = ap (option_map told_of) (sym r.1) ∙ (sym (slice_get-map told_of runs t) ∙ (ap (λ (os : List (Result TaskAnswers E)). slice_get os t) (sym told_are) ∙ (slice_get-map (λ x. Ok x) all t ∙ ap (option_map (λ x. Ok x)) had))) in
      let is : told_of r.0 ≡ Ok told = same_Some (told_of r.0) (Ok told) one in
      let given = each t r.0 r.1 in
      let H : SeenPass → Type 0 = λ q. (q.task ≡ t) × HasAll desk plan t q.history told in
      subst H r.2 (given.0, subst (λ (o : Result TaskAnswers E). IfOk o (λ x. HasAll desk plan t (pass_of r.0).history x)) is given.1)

  pub many_told : length all ≡ length passes
  many_told =
      let done : TaskAnswers → Result TaskAnswers E = λ t. Ok t in
      sym (length-map all done) ∙ (ap length told_are ∙ (length-map runs told_of ∙ sym (ap length are ∙ length-map runs pass_of)))

numbered_from : (passes : List SeenPass) (first : ℕ) → ((t : ℕ) (p : SeenPass) → slice_get passes t ≡ Some p → p.task ≡ first + t) → map task_of passes ≡ range_with_len first (length passes)
numbered_from [] first each = refl
numbered_from (p ∷ ps) first each =
    let here : p.task ≡ first = (let own = each 0 p refl in omega (arith, own)) in
    ap (λ n. n ∷ map task_of ps) here ∙ ap (λ ns. first ∷ ns) (numbered_from ps (first + 1) (λ t q got. let own = each (suc t) q got in omega (arith, own)))

-- the passes of all tasks stand in rising number
pub in_order : (passes : List SeenPass) (n : ℕ) → length passes ≡ n → ((t : ℕ) (p : SeenPass) → slice_get passes t ≡ Some p → p.task ≡ t) → map task_of passes ≡ range_with_len 0 n
in_order passes n many each = numbered_from passes 0 (λ t p got. let own = each t p got in omega (arith, own)) ∙ ap (range_with_len 0) many

-- and so there is one of each task
pub each_in_order : (passes : List SeenPass) (n : ℕ) → map task_of passes ≡ range_with_len 0 n → HasEach passes n
each_in_order passes n are t below =
    let place : 0 + t ≡ t = omega arith in
    let row : Contains (range_with_len 0 n) t = (t, subst (λ m. t < m) (sym (length-range_with_len 0 n)) below, get_or-range_with_len 0 n t t below ∙ place) in
    subst (λ ts. Contains ts t) (sym are) row
