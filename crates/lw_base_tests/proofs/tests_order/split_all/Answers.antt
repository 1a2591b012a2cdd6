use Rattle.std.proofs.Common.{◌≡◌, ℕ, ◌+◌, ◌≤◌, ◌==◌, false, refl, sym, ap, ◌∙◌, subst, arith}
use Rattle.std.specs.Prelude.{All, Contains}
use Rattle.std.proofs.lemmas.Bool.Decides.{nat_tests}
use Rattle.std.proofs.lemmas.List.Elements.{All-push}
use Rattle.lw_calls.specs.declared.touch.Role.TheVariants.{Task}
use Rattle.lw_calls.specs.Entries.{count_of}
use Rattle.lw_base_tests.specs.declared.tests_order.Job.{Job}
use Rattle.lw_order.proofs.RoleLaws.{still_there}
use Rattle.lw_base_tests.proofs.tests_order.split_all.Goals as goal

differs : (n t : ℕ) → n + 1 ≤ t → (n == t) ≡ false
differs n t h = grind (arith, nat_tests)

pub loop-task-preserved : goal.loop-task-preserved
loop-task-preserved c =
    let known = c.loop-task.invariant in
    let split = c.split-own.ensures in
    let task : ℕ = c.loop-task.task in
    let word = c.args.order.now.word in
    let ready : Job → Type 0 = λ j. (j.seat.word ≡ word) × Contains j.seat.roles (Task j.task) × (count_of j.task j.seat.history ≡ 0) in
    let job : Job = record { task = task; seat = c.split-own.result } in
    let role : Contains c.split-own.result.roles (Task task) = subst (λ roles. Contains roles (Task task)) (sym split.given) (0, omega arith, refl) in
    let own : ready job = (split.words.1 ∙ known.0, role, ap (count_of task) (split.histories.1 ∙ known.1)) in (
      split.words.0 ∙ known.0,
      split.histories.0 ∙ known.1,
      λ t from below. subst (λ roles. Contains roles (Task t)) (sym split.left) (still_there (Task task) (Task t) c.loop-task.seat.roles (differs task t from) (known.2 t (omega arith) below)),
      subst (All ready) (sym c.in_ok-push.ensures.items) (All-push ready c.loop-task.jobs.items job known.3 own),
    )
