-- In a legal order each task's calls stand once, and in their order.
use Rattle.std.proofs.Common.{◌≡◌, ℕ, zero, suc, ◌+◌, ◌<◌, ◌≤◌, ◌==◌, Bool, true, false, cond, if◌then◌else◌, List, [], ◌∷◌, ◌++◌}
use Rattle.std.proofs.Common.{length, take, drop, All, Option, Some, None, slice_index_or, refl, sym, ap, subst, inl, inr, ◌∙◌}
use Rattle.std.proofs.Common.{arith}
use Rattle.std.specs.List.{slice_get}
use Rattle.std.proofs.lemmas.Bool.{eqb-true, eqb-false, and_parts, cases_lt}
use Rattle.std.proofs.lemmas.List.{take_all}
use Rattle.std.proofs.lemmas.List.Elements.{All-nil, All-cons, All-append, All-get_or}
use Rattle.std.proofs.lemmas.Option.{slice_get_within, get_or_from_slice_get}
use Rattle.lw_calls.specs.declared.call.Call.{Call}
use Rattle.lw_calls.specs.declared.entry.Entry.{Entry}
use Rattle.lw_calls.specs.Plan.{Plan, task_calls}
use Rattle.lw_calls.specs.Entries.{count_of, next_entry, entries}
use Rattle.lw_calls.specs.Orders.{occurrences, may_come, keeps_groups, is_complete}
use Rattle.lw_calls.proofs.OrdersComplete.{occurs_again, occurs_as_before, all_below, call_there}
use Rattle.lw_apart.specs.TaskSteps.{steps_of, numbered, TasksKeepTheirOrder}

-- a list's entry, and what stands from it on
drop_at : (cs : List Call) (n : ℕ) (c : Call) → slice_get cs n ≡ Some c → drop n cs ≡ c ∷ drop (n + 1) cs
drop_at [] n c h = absurd (cc)
drop_at (x ∷ cs) zero c h = ap (λ y. y ∷ cs) (cc)
drop_at (x ∷ cs) (suc n) c h =
    let more : (suc n) + 1 ≡ suc (n + 1) = omega arith in
    drop_at cs n c h ∙ ap (λ k. c ∷ drop k (x ∷ cs)) (sym more)

-- the steps of a task in a history with one step more
count_of_push : (t : ℕ) (past : List Entry) (e : Entry)
    → count_of t (past ++ e ∷ []) ≡ count_of t past + (if e.task == t then 1 else 0)
count_of_push t [] e = omega arith
count_of_push t (x ∷ past) e =
    let rest = count_of_push t past e in ap (λ n. (if x.task == t then 1 else 0) + n) rest ∙ omega arith

-- The steps stand for numbers of an order so far.
abbrev pub AreAlike : List Entry → List ℕ → Type 0
AreAlike past ns = (t : ℕ) → occurrences t ns ≡ count_of t past

pub alike_more : (past : List Entry) (ns : List ℕ) (u seq : ℕ) (c : Call) → AreAlike past ns
    → AreAlike (past ++ record { task = u; seq = seq; call = c } ∷ []) (ns ++ u ∷ [])
alike_more past ns u seq c alike t = step (u == t) refl
  where
    e : Entry
    e = record { task = u; seq = seq; call = c }

    step : (b : Bool) → (u == t) ≡ b → occurrences t (ns ++ u ∷ []) ≡ count_of t (past ++ e ∷ [])
    step true h =
        let same : u ≡ t = eqb-true u t h in
        let more : occurrences t (ns ++ t ∷ []) ≡ occurrences t ns + 1 = occurs_again t ns in
        ap (λ v. occurrences t (ns ++ v ∷ [])) same ∙
        (more ∙ (ap (λ n. n + 1) (alike t) ∙ sym (count_of_push t past e ∙ ap (λ b. count_of t past + cond b 1 0) h)))
    step false h =
        let same : count_of t past + 0 ≡ count_of t past = omega arith in
        occurs_as_before t u ns (eqb-false u t h) ∙
        (alike t ∙ sym (count_of_push t past e ∙ (ap (λ b. count_of t past + cond b 1 0) h ∙ same)))

-- a call more of an order: a step of the task, its call n, or a step of another
one_step : (t : ℕ) (b : Bool) (n more k : ℕ) (c : Call) (calls : List Call) (e : Entry) (es : List Entry)
    → es ≡ numbered t more (take k (drop more calls)) → more ≡ n + cond b 1 0
    → (b ≡ true → (e ≡ record { task = t; seq = n; call = c }) × (slice_get calls n ≡ Some c))
    → cond b (e ∷ es) es ≡ numbered t n (take (cond b 1 0 + k) (drop n calls))
one_step t true n more k c calls e es rest many own =
    let longer : 1 + k ≡ suc k = omega arith in
    let made : take (1 + k) (drop n calls) ≡ c ∷ take k (drop (n + 1) calls) =
    ap (take (1 + k)) (drop_at calls n c (own refl).1) ∙ ap (λ m. take m (c ∷ drop (n + 1) calls)) longer in
    ap (λ x. x ∷ es) (own refl).0
    ∙ (ap (λ xs. record { task = t; seq = n; call = c } ∷ xs) (rest ∙ ap (λ m. numbered t m (take k (drop m calls))) many) ∙
    sym (ap (numbered t n) made))
one_step t false n more k c calls e es rest many own =
    let same : more ≡ n = omega (arith, many) in
    let none : k ≡ 0 + k = omega arith in
    rest ∙ (ap (λ m. numbered t m (take k (drop m calls))) same ∙ ap (λ m. numbered t n (take m (drop n calls))) none)

-- a task's steps of an order from a past on
module _ (plan : Plan) (t : ℕ) where
  stand : (past : List Entry) (ns order : List ℕ) → AreAlike past ns → keeps_groups plan ns order ≡ true
      → steps_of t (entries plan past order)
      ≡ numbered t (count_of t past) (take (occurrences t order) (drop (count_of t past) (task_calls plan t)))
  stand past ns [] alike keeps = refl
  stand past ns (u ∷ order) alike keeps =
      let n : ℕ = count_of u past in
      let parts =
      and_parts (may_come plan ns u (slice_get (task_calls plan u) (occurrences u ns)))
      (keeps_groups plan (ns ++ u ∷ []) order) keeps in
      let there = call_there plan ns u (slice_get (task_calls plan u) (occurrences u ns)) parts.0 in
      let c : Call = there.0 in
      let e : Entry = record { task = u; seq = n; call = c } in
      let got : slice_get (task_calls plan u) n ≡ Some c = ap (slice_get (task_calls plan u)) (sym (alike u)) ∙ there.1 in
      let next : next_entry u n (slice_get (task_calls plan u) n) ≡ e ∷ [] = ap (next_entry u n) got in
      let entry_of : ℕ → Entry = λ v. record { task = v; seq = count_of v past; call = c } in
      let P : ℕ → Type 0 = λ v. (e ≡ entry_of v) × (slice_get (task_calls plan v) (count_of v past) ≡ Some c) in
      let own : (u == t) ≡ true → P t = λ h. subst P (eqb-true u t h) (refl, got) in
      let rest = stand (past ++ e ∷ []) (ns ++ u ∷ []) order (alike_more past ns u n c alike) parts.1 in
      ap (λ l. steps_of t (l ++ entries plan (past ++ l) order)) next
      ∙ one_step t (u == t) (count_of t past) (count_of t (past ++ e ∷ [])) (occurrences t order) c (task_calls plan t) e
      (steps_of t (entries plan (past ++ e ∷ []) order)) rest (count_of_push t past e) own

-- a task that the plan hasn't got has no calls
pub none_there : (lists : List (List Call)) (t : ℕ) → length lists ≤ t → slice_index_or lists t [] ≡ []
none_there [] t h = refl
none_there (x ∷ lists) zero h = absurd (omega (arith, h))
none_there (x ∷ lists) (suc t) h = none_there lists t (omega (arith, h))

pub calls_of_task : TasksKeepTheirOrder
calls_of_task plan order ok legal t =
    stand plan t [] [] order (λ u. refl) parts.0 ∙
    ap (numbered t 0) (elim (cases_lt t plan.sizes.tasks) [ inl low ↦ all low | inr high ↦ none high ])
  where
    parts : (keeps_groups plan [] order ≡ true) × (is_complete plan order ≡ true)
    parts = and_parts (keeps_groups plan [] order) (is_complete plan order) legal

    all : t < plan.sizes.tasks → take (occurrences t order) (task_calls plan t) ≡ task_calls plan t
    all low =
        let many =
        eqb-true (occurrences t order) (length (task_calls plan t))
        (all_below (λ u. occurrences u order == length (task_calls plan u)) plan.sizes.tasks t parts.1 low) in
        take_all (occurrences t order) (task_calls plan t) (omega (arith, many))

    empty : (n : ℕ) (cs : List Call) → cs ≡ [] → take n cs ≡ cs
    empty zero cs h = sym h
    empty (suc n) [] h = refl
    empty (suc n) (c ∷ cs) h = absurd (cc)

    none : plan.sizes.tasks ≤ t → take (occurrences t order) (task_calls plan t) ≡ task_calls plan t
    none high =
        let lists = ok.lists in empty (occurrences t order) (task_calls plan t)
        (none_there plan.calls t (omega (arith, high, lists)))

-- what holds of each task's calls holds of each step of a history
pub entries_have : (P : ℕ → Call → Type 0) (plan : Plan) → ((task : ℕ) → All (P task) (task_calls plan task))
    → (past : List Entry) (order : List ℕ) → All (λ e. P e.task e.call) (entries plan past order)
entries_have P plan each past [] = All-nil (λ e. P e.task e.call)
entries_have P plan each past (task ∷ order) =
    let next = next_entry task (count_of task past) (slice_get (task_calls plan task) (count_of task past)) in
    All-append (λ e. P e.task e.call) next (entries plan (past ++ next) order)
    (step (slice_get (task_calls plan task) (count_of task past)) refl) (entries_have P plan each (past ++ next) order)
  where
    step : (o : Option Call) → slice_get (task_calls plan task) (count_of task past) ≡ o
        → All (λ e. P e.task e.call) (next_entry task (count_of task past) o)
    step None none = All-nil (λ e. P e.task e.call)
    step (Some c) some =
        let n = count_of task past in
        let cs = task_calls plan task in
        let has : P task c =
        subst (P task) (get_or_from_slice_get cs n c c some)
        (All-get_or (P task) cs n c (slice_get_within cs n c some) (each task)) in
        All-cons (λ e. P e.task e.call) (record { task = task; seq = n; call = c }) [] has (All-nil (λ e. P e.task e.call))
