-- What a loop over a legal order keeps: the steps so far and those that are left are the steps of the order.
use Rattle.std.proofs.Common.{◌≡◌, ℕ, zero, suc, ◌+◌, ◌<◌, true, List, [], ◌∷◌, ◌++◌, length, drop, Some, slice_index_or, ap, sym, subst, ◌∙◌, append_assoc, append-nil, add-one, drop-cons, arith}
use Rattle.std.specs.List.{slice_get}
use Rattle.std.proofs.lemmas.Option.{slice_get_within}
use Rattle.std.proofs.lemmas.Bool.{and_parts}
use Rattle.lw_calls.specs.declared.call.Call.{Call}
use Rattle.lw_calls.specs.declared.entry.Entry.{Entry}
use Rattle.lw_calls.specs.declared.reply.Reply.{Reply}
use Rattle.lw_calls.specs.Plan.{Plan, IsPlan, task_calls}
use Rattle.lw_calls.specs.Orders.{occurrences, may_come, keeps_groups}
use Rattle.lw_calls.specs.Entries.{count_of, entries, next_entry}
use Rattle.lw_calls.proofs.OrdersComplete.{call_there}
use Rattle.lw_machine.specs.Finals.{opening_desk}
use Rattle.lw_machine.specs.Hook.{Hook}
use Rattle.lw_machine.specs.Desk.{Desk}
use Rattle.lw_runs.specs.Run.{HasRun, next_of}
use Rattle.lw_order.proofs.HistoryLaws.{count_of_append}
use Rattle.lw_runs.proofs.Steps.{occurrences_push, length_replies_of}

-- The numbers before those that are left, which may come after them, and the steps that they stood for.
pub record IsGoing (plan : Plan) (hooks : List Hook) (order left : List ℕ) (desk : Desk → Type 0) (told : List (List Reply)) : Type 0 where
  pub numbers : List ℕ
  pub past : List Entry
  pub legal : keeps_groups plan numbers left ≡ true
  pub counted : (t : ℕ) → count_of t past ≡ occurrences t numbers
  pub whole : past ++ entries plan past left ≡ entries plan [] order
  pub run : HasRun plan hooks past desk told

-- a task that has a call is one of the lists'
in_lists : (lists : List (List Call)) (t n : ℕ) (c : Call) → slice_get (slice_index_or lists t []) n ≡ Some c → t < length lists
in_lists [] t n c h = absurd (let none : n < 0 = slice_get_within [] n c h in omega (arith, none))
in_lists (cs ∷ lists) zero n c h = omega arith
in_lists (cs ∷ lists) (suc t) n c h = let low = in_lists lists t n c h in omega (arith, low)

-- the next number's call
pub record IsDue (plan : Plan) (past : List Entry) (numbers : List ℕ) (t : ℕ) (ts : List ℕ) : Type 0 where
  pub call : Call
  pub found : slice_get (task_calls plan t) (count_of t past) ≡ Some call
  pub later : keeps_groups plan (numbers ++ t ∷ []) ts ≡ true

due : (plan : Plan) (past : List Entry) (numbers : List ℕ) (t : ℕ) (ts : List ℕ) → ((u : ℕ) → count_of u past ≡ occurrences u numbers) → keeps_groups plan numbers (t ∷ ts) ≡ true → IsDue plan past numbers t ts
due plan past numbers t ts counted legal =
    let h : (may_come plan numbers t (slice_get (task_calls plan t) (occurrences t numbers)) ≡ true) × (keeps_groups plan (numbers ++ t ∷ []) ts ≡ true) = and_parts _ _ legal in
    let c : (c : Call) × (slice_get (task_calls plan t) (occurrences t numbers) ≡ Some c) = call_there plan numbers t _ h.0 in
    record { call = c.0; found = ap (slice_get (task_calls plan t)) (counted t) ∙ c.1; later = h.1 }

-- the numbers that are left are the next one and the rest
pub going_turn : (plan : Plan) (hooks : List Hook) (order : List ℕ) (i : ℕ) (desk : Desk → Type 0) (told : List (List Reply)) → i < length order → IsGoing plan hooks order (drop i order) desk told → IsGoing plan hooks order (slice_index_or order i 0 ∷ drop (i + 1) order) desk told
going_turn plan hooks order i desk told low going =
    let whole : drop i order ≡ slice_index_or order i 0 ∷ drop (suc i) order = drop-cons order i 0 low in
    let P : List ℕ → Type 0 = λ left. IsGoing plan hooks order left desk told in
    rw add-one (subst P whole going)

-- the next number is a task's, which has a call left
pub going_task : (plan : Plan) (hooks : List Hook) (order ts : List ℕ) (desk : Desk → Type 0) (told : List (List Reply)) (t : ℕ) → IsPlan plan → IsGoing plan hooks order (t ∷ ts) desk told → t < plan.sizes.tasks
going_task plan hooks order ts desk told t is going =
    let it : IsDue plan going.past going.numbers t ts = due plan going.past going.numbers t ts going.counted going.legal in
    let low : t < length plan.calls = in_lists plan.calls t (count_of t going.past) it.call it.found in
    omega (arith, low, is.lists)

pub going_left : (plan : Plan) (hooks : List Hook) (order ts : List ℕ) (desk : Desk → Type 0) (told : List (List Reply)) (t : ℕ) → IsPlan plan → IsGoing plan hooks order (t ∷ ts) desk told → length (slice_index_or told t []) < length (task_calls plan t)
going_left plan hooks order ts desk told t is going =
    let it : IsDue plan going.past going.numbers t ts = due plan going.past going.numbers t ts going.counted going.legal in
    let low : count_of t going.past < length (task_calls plan t) = slice_get_within (task_calls plan t) (count_of t going.past) it.call it.found in
    let made : length (slice_index_or told t []) ≡ count_of t going.past = ap length (going.run.each t (going_task plan hooks order ts desk told t is going)) ∙ length_replies_of (opening_desk plan hooks) t going.past in
    omega (arith, low, made)

-- the next number's step is made
pub going_next : (plan : Plan) (hooks : List Hook) (order ts : List ℕ) (desk next : Desk → Type 0) (told new : List (List Reply)) (t : ℕ) → ((past : List Entry) → HasRun plan hooks past desk told → HasRun plan hooks (past ++ next_of plan past t) next new) → IsGoing plan hooks order (t ∷ ts) desk told → IsGoing plan hooks order ts next new
going_next plan hooks order ts desk next told new t made going =
    let past = going.past in
    let it : IsDue plan past going.numbers t ts = due plan past going.numbers t ts going.counted going.legal in
    let e : Entry = record { task = t; seq = count_of t past; call = it.call } in
    let one : next_of plan past t ≡ e ∷ [] = ap (next_entry t (count_of t past)) it.found in
    record {
      numbers = going.numbers ++ t ∷ [];
      past = past ++ next_of plan past t;
      legal = it.later;
      counted = λ u. ap (λ es. count_of u (past ++ es)) one ∙ (count_of_append u past (e ∷ []) ∙ (ap (λ n. n + occurrences u (t ∷ [])) (going.counted u) ∙ sym (occurrences_push u going.numbers t)));
      whole = append_assoc past (next_of plan past t) (entries plan (past ++ next_of plan past t) ts) ∙ going.whole;
      run = made past going.run;
    }

-- where no number is left, all steps were made
pub going_end : (plan : Plan) (hooks : List Hook) (order left : List ℕ) (desk : Desk → Type 0) (told : List (List Reply)) → left ≡ [] → IsGoing plan hooks order left desk told → HasRun plan hooks (entries plan [] order) desk told
going_end plan hooks order left desk told none going =
    let P : List ℕ → Type 0 = λ ts. going.past ++ entries plan going.past ts ≡ entries plan [] order in
    let H : List Entry → Type 0 = λ es. HasRun plan hooks es desk told in
    subst H (sym (append-nil going.past) ∙ subst P none going.whole) going.run
