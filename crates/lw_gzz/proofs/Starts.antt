-- What holds before the first call and is kept by each that may come holds after each start of a legal order.
use Rattle.std.proofs.Common.{◌≡◌, ℕ, ◌+◌, ◌==◌, true, List, [], ◌∷◌, ◌++◌, map, Some, refl, sym, ap, subst, ◌∙◌, append_assoc}
use Rattle.std.proofs.Common.{append-nil}
use Rattle.std.specs.Prelude.{if◌then◌else◌}
use Rattle.std.specs.List.{slice_get}
use Rattle.std.proofs.lemmas.Bool.{and_parts}
use Rattle.std.proofs.lemmas.List.{map-append}
use Rattle.lw_calls.specs.declared.call.Call.{Call}
use Rattle.lw_calls.specs.declared.entry.Entry.{Entry}
use Rattle.lw_calls.specs.Plan.{Plan, task_calls}
use Rattle.lw_calls.specs.Orders.{occurrences, may_come, keeps_groups, Begins}
use Rattle.lw_calls.specs.Entries.{count_of, next_entry, entries}
use Rattle.lw_calls.proofs.OrdersComplete.{call_there}
use Rattle.lw_machine.specs.Hook.{Hook}
use Rattle.lw_machine.specs.Desk.{Desk}
use Rattle.lw_machine.specs.Step.{after}
use Rattle.lw_machine.specs.History.{machine}
use Rattle.lw_machine.specs.Finals.{opening_desk}

-- the tasks of the steps of a history
abbrev tasks_of : List Entry → List ℕ
tasks_of es = map (λ (e : Entry). e.task) es

counted : (t : ℕ) (es : List Entry) → count_of t es ≡ occurrences t (tasks_of es)
counted t [] = refl
counted t (e ∷ es) = ap (λ n. (if e.task == t then 1 else 0) + n) (counted t es)

module _ (plan : Plan) (P : List ℕ → Desk → Type 0)
    (goes_on : (past : List ℕ) (d : Desk) (t : ℕ) (c : Call) → slice_get (task_calls plan t) (occurrences t past) ≡ Some c
    → may_come plan past t (Some c) ≡ true → P past d → P (past ++ t ∷ []) (after d t c)) where
  along : (ts rest : List ℕ) (es : List Entry) (d : Desk) → keeps_groups plan (tasks_of es) (ts ++ rest) ≡ true
      → P (tasks_of es) d → P (tasks_of es ++ ts) (machine d (entries plan es ts))
  along [] rest es d legal h = subst (λ ns. P ns d) (sym (append-nil (tasks_of es))) h
  along (t ∷ ts) rest es d legal h =
      let past = tasks_of es in
      let both = and_parts (may_come plan past t (slice_get (task_calls plan t) (occurrences t past))) _ legal in
      let found = call_there plan past t _ both.0 in
      let c : Call = found.0 in
      let at : slice_get (task_calls plan t) (occurrences t past) ≡ Some c = found.1 in
      let e : Entry = record { task = t; seq = count_of t es; call = c } in
      let one : next_entry t (count_of t es) (slice_get (task_calls plan t) (count_of t es)) ≡ e ∷ [] =
      ap (next_entry t (count_of t es)) (ap (slice_get (task_calls plan t)) (counted t es) ∙ at) in
      let grown : tasks_of (es ++ e ∷ []) ≡ past ++ t ∷ [] = map-append (λ (e : Entry). e.task) es (e ∷ []) in
      let may : may_come plan past t (Some c) ≡ true = subst (λ o. may_come plan past t o ≡ true) at both.0 in
      let next : P (tasks_of (es ++ e ∷ []) ++ ts) (machine (after d t c) (entries plan (es ++ e ∷ []) ts)) =
      along ts rest (es ++ e ∷ []) (after d t c) (subst (λ ns. keeps_groups plan ns (ts ++ rest) ≡ true) (sym grown) both.1)
      (subst (λ ns. P ns (after d t c)) (sym grown) (goes_on past d t c at may h)) in
      subst (λ ns. P ns (machine d (entries plan es (t ∷ ts)))) (ap (λ ns. ns ++ ts) grown ∙ append_assoc past (t ∷ []) ts)
      (subst (λ n. P (tasks_of (es ++ e ∷ []) ++ ts) (machine d (n ++ entries plan (es ++ n) ts))) (sym one) next)

  pub at_each_start : (hooks : List Hook) (past : List ℕ) → P [] (opening_desk plan hooks) → Begins plan past
      → P past (machine (opening_desk plan hooks) (entries plan [] past))
  at_each_start hooks past first begins =
      along past begins.0 [] (opening_desk plan hooks) (and_parts (keeps_groups plan [] (past ++ begins.0)) _ begins.1).0 first
