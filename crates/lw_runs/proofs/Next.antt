-- The next call of a task, made on the desk, is one more step of the run.
use Rattle.std.proofs.Common.{◌≡◌, ℕ, ◌<◌, ◌==◌, Bool, true, false, if◌then◌else◌, List, [], ◌∷◌, ◌++◌, length, Some, slice_index_or, slice_set, refl, ap, sym, subst, ◌∙◌, append-nil, get_or-set_other, replicate, arith, length-set}
use Rattle.std.specs.List.{slice_get}
use Rattle.std.proofs.lemmas.Bool.{eqb-true, eqb-false}
use Rattle.std.proofs.lemmas.Grind.{get_or-set_at}
use Rattle.std.proofs.lemmas.List.{get_or-replicate, length-replicate}
use Rattle.lw_calls.specs.declared.call.Call.{Call}
use Rattle.lw_calls.specs.declared.entry.Entry.{Entry}
use Rattle.lw_calls.specs.declared.reply.Reply.{Reply}
use Rattle.lw_calls.specs.Plan.{Plan, task_calls}
use Rattle.lw_machine.specs.Desk.{Desk}
use Rattle.lw_machine.specs.Hook.{Hook}
use Rattle.lw_machine.specs.Step.{after, reply}
use Rattle.lw_calls.specs.Entries.{count_of, next_entry}
use Rattle.lw_machine.specs.History.{machine, replies_of}
use Rattle.lw_machine.specs.Finals.{opening_desk}
use Rattle.lw_runs.specs.Run.{HasRun, next_of}
use Rattle.lw_engine_trait.proofs.Histories.{machine_push}
use Rattle.lw_runs.proofs.MadeLaws.{replies_of_append}
use Rattle.lw_runs.proofs.Steps.{length_replies_of}

-- a reply more in one task's list, and all other lists as they were
told_task : (b : Bool) (told : List (List Reply)) (new : List Reply) (task t : ℕ) (r : Reply) → (task == t) ≡ b → task < length told → new ≡ slice_index_or told task [] ++ r ∷ [] → slice_index_or (slice_set told task new) t [] ≡ slice_index_or told t [] ++ (if b then r ∷ [] else [])
told_task true told new task t r e low h =
    let same : t ≡ task = sym (eqb-true task t e) in
    get_or-set_at told task t new [] same low ∙ (h ∙ ap (λ k. slice_index_or told k [] ++ r ∷ []) (sym same))
told_task false told new task t r e low h =
    get_or-set_other told task t new [] (λ s. eqb-false task t e (sym s)) ∙ sym (append-nil (slice_index_or told t []))

-- the replies that one step gives to a task
pub one_reply : (b : Bool) (r s : Reply) → r ≡ s → (if b then r ∷ [] else []) ≡ (if b then s ∷ [] else [])
one_reply b r s e = ap (λ x. if b then x ∷ [] else []) e

pub has_run_next : (plan : Plan) (hooks : List Hook) (past : List Entry) (desk next : Desk → Type 0) (told : List (List Reply)) (new : List Reply) (task : ℕ) (call : Call) (r : Reply) → task < plan.sizes.tasks → slice_get (task_calls plan task) (length (slice_index_or told task [])) ≡ Some call → ((d : Desk) → desk d → (r ≡ reply d task call) × next (after d task call)) → new ≡ slice_index_or told task [] ++ r ∷ [] → HasRun plan hooks past desk told → HasRun plan hooks (past ++ next_of plan past task) next (slice_set told task new)
has_run_next plan hooks past desk next told new task call r low got step pushed run =
    let start : Desk = opening_desk plan hooks in
    let made : length (slice_index_or told task []) ≡ count_of task past = ap length (run.each task low) ∙ length_replies_of start task past in
    let e : Entry = record { task = task; seq = count_of task past; call = call } in
    let G : ℕ → Type 0 = λ n. slice_get (task_calls plan task) n ≡ Some call in
    let found : slice_get (task_calls plan task) (count_of task past) ≡ Some call = subst G made got in
    let one : next_of plan past task ≡ e ∷ [] = ap (next_entry task (count_of task past)) found in
    let within : task < length told = omega (arith, low, run.lists) in
    let P : List Entry → Type 0 = λ es. HasRun plan hooks (past ++ es) next (slice_set told task new) in
    let made_step = step (machine start past) run.stands in
    subst P (sym one) (
    record {
      stands = subst next (sym (machine_push start past e)) made_step.1;
      lists = length-set told task new ∙ run.lists;
      each = λ t under. told_task (task == t) told new task t r refl within pushed ∙ (ap (λ rs. rs ++ (if (task == t) then r ∷ [] else [])) (run.each t under) ∙ (ap (λ rs. replies_of start t past ++ rs) (one_reply (task == t) r (reply (machine start past) task call) made_step.0) ∙ sym (replies_of_append start t past (e ∷ []))));
    }
    )

-- before the first step no task was told a reply
pub has_run_first : (plan : Plan) (hooks : List Hook) (standing : Desk → Type 0) (told : List (List Reply)) → told ≡ replicate plan.sizes.tasks [] → standing (opening_desk plan hooks)
    → HasRun plan hooks [] standing told
has_run_first plan hooks standing told none opened = record {
  stands = opened;
  lists = ap length none ∙ length-replicate plan.sizes.tasks [];
  each = λ t low. ap (λ ls. slice_index_or ls t []) none ∙ get_or-replicate plan.sizes.tasks t [] [] low;
}
