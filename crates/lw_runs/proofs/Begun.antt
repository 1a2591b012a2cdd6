-- The first calls of a plan's task: how many, one more, those of a group, and all of them.
use Rattle.std.proofs.Common.{◌≡◌, ◌⊎◌, ℕ, suc, ◌+◌, ◌-◌, ◌<◌, ◌≤◌, false, List, [], ◌∷◌, ◌++◌, length, take, Some, refl, ap, sym, subst, ◌∙◌, ⊎_elim, inl, inr, arith, length-append, length-take-le}
use Rattle.std.specs.Prelude.{All, Contains, map, Result, Ok, Err, IfOk, OnOk, MatchResult}
use Rattle.std.specs.List.{slice_get}
use Rattle.std.proofs.lemmas.List.Elements.{All-weaker, Contains-append_right}
use Rattle.std.proofs.lemmas.Option.{slice_get_within, get_or_from_slice_get}
use Rattle.std.proofs.Math.Seq.{take-suc, take-add}
use Rattle.lw_calls.specs.declared.call.Call.{Call}
use Rattle.lw_calls.specs.declared.entry.Entry.{Entry}
use Rattle.lw_calls.specs.declared.group.Group.{Group}
use Rattle.lw_calls.specs.declared.reply.Reply.{Reply}
use Rattle.lw_calls.specs.declared.touch.Role.{Role}
use Rattle.lw_calls.specs.declared.touch.Role.TheVariants.{Task}
use Rattle.lw_calls.specs.Entries.{count_of}
use Rattle.lw_calls.specs.Orders.{is_open}
use Rattle.lw_calls.specs.Plan.{Plan, IsPlan, task_calls, task_groups, group_calls}
use Rattle.lw_machine.specs.Desk.{Desk}
use Rattle.lw_locks.specs.declared.answer.Answer.{Answer}
use Rattle.lw_locks.specs.Promised.{Done, GroupDone, held_roles}
use Rattle.lw_runs.specs.Made.{HasTold, HasMade, HasBegun, IsFree, IsNext}
use Rattle.lw_runs.specs.Whole.{HasAll}
use Rattle.lw_runs.specs.declared.answers.TaskAnswers.{TaskAnswers}
use Rattle.lw_runs.proofs.MadeLaws.{length_calls_of}
use Rattle.lw_runs.proofs.Making.{Guards, made_more, made_group}
use Rattle.lw_runs.proofs.Ahead.{few_calls, group_place, group_long}

-- of a task that is within no group
pub guards_free : (slots : ℕ) (groups : List Group) (made : ℕ) (roles : List Role) → IsFree groups made → Guards slots groups made roles
guards_free slots groups made roles free =
    All-weaker (λ g. is_open made g ≡ false) (λ g. (is_open made g ≡ false) ⊎ ((r : Role) → Contains (held_roles slots g.hold) r → Contains roles r)) (λ g closed. inl closed) groups free

-- of a task within its next group, which has what the group holds
guards_next : (slots : ℕ) (groups : List Group) (made task : ℕ) (next : Group) → All (λ g. (is_open made g ≡ false) ⊎ (g ≡ next)) groups → Guards slots groups made (Task task ∷ held_roles slots next.hold)
guards_next slots groups made task next alone =
    All-weaker (λ g. (is_open made g ≡ false) ⊎ (g ≡ next)) (λ g. (is_open made g ≡ false) ⊎ ((r : Role) → Contains (held_roles slots g.hold) r → Contains (Task task ∷ held_roles slots next.hold) r))
    (λ g. ⊎_elim (λ closed. inl closed) (λ same. inr (λ r has. Contains-append_right (Task task ∷ []) (held_roles slots next.hold) r (subst (λ (k : Group). Contains (held_roles slots k.hold) r) same has))))
    groups alone

pub one_more : {X : Type 0} (had has : List X) (x : X) → has ≡ had ++ x ∷ [] → length has ≡ length had + 1
one_more had has x pushed = ap length pushed ∙ length-append had (x ∷ [])

module _ (desk : Desk) (plan : Plan) (task : ℕ) where
  pub begun_first : (old : List Entry) (had : List Answer) → (old ≡ []) × (had ≡ []) → HasBegun desk plan task old had
  begun_first old had none =
      subst (λ es. HasBegun desk plan task es had) (sym none.0) (subst (λ xs. HasBegun desk plan task [] xs) (sym none.1) (record { calls = refl; replies = refl; tickets = refl; apart = λ fits. refl }))

  pub begun_many : (history : List Entry) (had : List Answer) → length had ≤ length (task_calls plan task) → HasBegun desk plan task history had → count_of task history ≡ length had
  begun_many history had low h = sym (length_calls_of task history) ∙ (ap length h.calls ∙ length-take-le (length had) (task_calls plan task) low)

  pub begun_room : (history : List Entry) (had : List Answer) → IsPlan plan → task < plan.sizes.tasks → length had ≤ length (task_calls plan task) → HasBegun desk plan task history had → count_of task history + (length (task_calls plan task) - length had) ≤ 16384
  begun_room history had is of low h =
      let many = begun_many history had low h in
      let few = few_calls plan task is of in
      omega (arith, many, few, low)

  pub begun_more : (old new : List Entry) (had has : List Answer) (call : Call) (answer : Answer) → slice_get (task_calls plan task) (length had) ≡ Some call → IsFree (task_groups plan task) (length had) → HasBegun desk plan task old had
      → Done desk (Task task ∷ []) task old new call answer.reply answer.ticket → has ≡ had ++ answer ∷ [] → HasBegun desk plan task new has
  begun_more old new had has call answer next free h done pushed =
      let calls = task_calls plan task in
      let low : length had < length calls = slice_get_within calls (length had) call next in
      let long : length (take (length had) calls) ≡ length had = length-take-le (length had) calls (omega (arith, low)) in
      let guards : Guards desk.sizes.slots (task_groups plan task) (length (take (length had) calls)) (Task task ∷ []) = guards_free desk.sizes.slots (task_groups plan task) _ (Task task ∷ []) (subst (λ n. IsFree (task_groups plan task) n) (sym long) free) in
      let more : HasMade desk (task_groups plan task) task (take (length had) calls ++ call ∷ []) new (had ++ answer ∷ []) = made_more desk (task_groups plan task) task (Task task ∷ []) (take (length had) calls) old new had call answer (0, omega arith, refl) guards h done in
      let long_more : suc (length had) ≡ length has = (let one = one_more had has answer pushed in omega (arith, one)) in
      let taken : take (length had) calls ++ call ∷ [] ≡ take (length has) calls =
      ap (λ c. take (length had) calls ++ c ∷ []) (sym (get_or_from_slice_get calls (length had) call call next))
      ∙ (sym (take-suc calls (length had) call low) ∙ ap (λ n. take n calls) long_more) in
      subst (λ cs. HasMade desk (task_groups plan task) task cs new has) taken (subst (λ xs. HasMade desk (task_groups plan task) task (take (length had) calls ++ call ∷ []) new xs) (sym pushed) more)

  pub begun_group : (old new : List Entry) (made : ℕ) (had has : List Answer) (g : Group) → IsNext (task_calls plan task) (task_groups plan task) made g → length had ≡ g.first → HasBegun desk plan task old had
      → GroupDone desk (Task task ∷ []) (Task task ∷ held_roles desk.sizes.slots g.hold) task old new (group_calls (task_calls plan task) g) had has → length has ≡ length had + length (group_calls (task_calls plan task) g) → HasBegun desk plan task new has
  begun_group old new made had has g next at_first h done all =
      let calls = task_calls plan task in
      let groups = task_groups plan task in
      let place = group_place calls g next.fits in
      let low = place.0 in
      let high = place.1 in
      let long = group_long calls g next.fits in
      let begun : length (take (length had) calls) ≡ g.first = length-take-le (length had) calls (omega (arith, low, high, at_first)) ∙ at_first in
      let ahead = next.ahead in
      let free : Guards desk.sizes.slots groups (length (take (length had) calls)) (Task task ∷ []) = guards_free desk.sizes.slots groups _ (Task task ∷ []) (subst (λ n. IsFree groups n) (sym begun) (next.free g.first ahead (omega arith))) in
      let guards : (n : ℕ) → length (take (length had) calls) ≤ n → n < length (take (length had) calls) + length (group_calls calls g) → Guards desk.sizes.slots groups n (Task task ∷ held_roles desk.sizes.slots g.hold) =
      (λ n above below. guards_next desk.sizes.slots groups n task g (next.alone n (omega (arith, above, begun, ahead)) (omega (arith, below, begun, long)))) in
      let made_all : HasMade desk groups task (take (length had) calls ++ group_calls calls g) new has =
      made_group desk groups task (Task task ∷ []) (Task task ∷ held_roles desk.sizes.slots g.hold) (take (length had) calls) old new (group_calls calls g) had has (0, omega arith, refl) (0, omega arith, refl) free guards h done all in
      let count : ℕ = (g.last + 1) - g.first in
      let to : g.first + count ≡ length has = omega (arith, low, long, all, at_first) in
      let taken : take (length had) calls ++ group_calls calls g ≡ take (length has) calls =
      ap (λ n. take n calls ++ group_calls calls g) at_first ∙ (sym (take-add g.first count calls) ∙ ap (λ n. take n calls) to) in
      subst (λ cs. HasMade desk groups task cs new has) taken made_all

  -- after a group's calls, those of the slice that was handed in
  pub group_begun : {U E : Type 0} (o : Result U E) (old new : List Entry) (made who : ℕ) (calls : List Call) (had has : List Answer) (g : Group) → IsNext (task_calls plan task) (task_groups plan task) made g → length had ≡ g.first → who ≡ task → calls ≡ task_calls plan task → HasBegun desk plan task old had
      → GroupDone desk (Task who ∷ []) (Task who ∷ held_roles desk.sizes.slots g.hold) who old new (group_calls calls g) had has → MatchResult o (λ _. length has ≡ length had + length (group_calls calls g)) (λ _. length has < length had + length (group_calls calls g)) → OnOk o (HasBegun desk plan task new has)
  group_begun (Err e) old new made who calls had has g next at_first same are h done all = tt
  group_begun (Ok u) old new made who calls had has g next at_first same are h done all =
      let D : ℕ → List Call → Type 0 = λ t cs. GroupDone desk (Task t ∷ []) (Task t ∷ held_roles desk.sizes.slots g.hold) t old new (group_calls cs g) had has in
      begun_group old new made had has g next at_first h (subst (λ t. D t (task_calls plan task)) same (subst (λ cs. D who cs) are done)) (all ∙ ap (λ cs. length had + length (group_calls cs g)) are)

  -- what it was told by the answers to all its calls
  pub told_by : {E : Type 0} (history : List Entry) (answers : List Answer) (o : Result TaskAnswers E) → HasMade desk (task_groups plan task) task (task_calls plan task) history answers → IfOk o (λ told. told.replies ≡ map (λ a. a.reply) answers) → IfOk o (λ told. told.tickets.items ≡ map (λ a. a.ticket) answers)
      → IfOk o (λ told. HasAll desk plan task history told)
  told_by history answers (Err e) h replies tickets = tt
  told_by history answers (Ok told) h replies tickets =
      let T : List Reply → List ℕ → Type 0 = HasTold desk (task_groups plan task) task (task_calls plan task) history in
      subst (λ rs. T rs told.tickets.items) (sym replies) (subst (λ ns. T (map (λ a. a.reply) answers) ns) (sym tickets) h)
