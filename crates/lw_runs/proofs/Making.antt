-- What a task made after some steps of others, after one call more, and after calls of a group.
use Rattle.std.proofs.Common.{◌≡◌, ◌⊎◌, ℕ, ◌+◌, ◌<◌, ◌≤◌, ◌==◌, true, false, ◌&&◌, List, [], ◌∷◌, ◌++◌, length, map, refl, ap, sym, subst, ◌∙◌, ⊎_elim, arith, append-nil, append_assoc, length-append, eq-eqb}
use Rattle.std.specs.Prelude.{All, Contains, IsTrue}
use Rattle.std.specs.List.{slice_index_or}
use Rattle.std.proofs.lemmas.Bool.{and_from, and_left, and_right, or_from}
use Rattle.std.proofs.lemmas.List.{map-append, nil_from_length}
use Rattle.std.proofs.lemmas.List.Elements.{All-weaker, All-contains, All-take, All-drop}
use Rattle.std.proofs.lemmas.List.Folds.{list_any_none}
use Rattle.std.proofs.Math.Seq.{take-append_seam, drop-append_seam}
use Rattle.lw_calls.specs.declared.call.Call.{Call}
use Rattle.lw_calls.specs.declared.entry.Entry.{Entry}
use Rattle.lw_calls.specs.declared.group.Group.{Group}
use Rattle.lw_calls.specs.declared.group.Hold.{Hold}
use Rattle.lw_calls.specs.declared.group.Hold.TheVariants.{Slot as OneSlot, All as AllLayers}
use Rattle.lw_calls.specs.declared.reply.Reply.{Reply}
use Rattle.lw_calls.specs.declared.sizes.Sizes.{Sizes}
use Rattle.lw_calls.specs.declared.touch.Role.{Role}
use Rattle.lw_calls.specs.declared.touch.Role.TheVariants.{Task, Slot, Info}
use Rattle.lw_calls.specs.Entries.{count_of}
use Rattle.lw_calls.specs.Limits.{call_fits}
use Rattle.lw_calls.specs.Orders.{meets, is_open, has_some}
use Rattle.lw_calls.specs.Touches.{class_of, slots_of, is_on_info, touch_of, touches_role}
use Rattle.lw_machine.specs.Desk.{Desk}
use Rattle.lw_machine.specs.History.{machine, replies_of}
use Rattle.lw_order.specs.Numbered.{CallsFit}
use Rattle.lw_order.specs.Promised.{Follows}
use Rattle.lw_order.specs.Roles.{LeavesAlone, Quiet}
use Rattle.lw_order.proofs.RoleLaws.{all_roles_has_slot}
use Rattle.lw_locks.specs.declared.answer.Answer.{Answer}
use Rattle.lw_locks.specs.Promised.{Done, Ran, GroupDone, held_roles}
use Rattle.lw_locks.proofs.Groups.{no_slot}
use Rattle.lw_locks.proofs.Running.{ran_lengths}
use Rattle.lw_runs.specs.Made.{calls_of, places_of, is_within, keeps_apart, HasTold, HasMade}
use Rattle.lw_runs.proofs.MadeLaws.{calls_of_append, places_of_append, replies_of_append, keeps_apart_append, length_calls_of, Foreign, foreign, no_calls, no_places, no_replies_of, kept_apart, own_call, own_place, own_reply, own_apart}

-- a step that leaves what a group holds alone doesn't meet it
meets_not : (sizes : Sizes) (hold : Hold) (roles : List Role) (e : Entry) → ((r : Role) → Contains (held_roles sizes.slots hold) r → Contains roles r) → LeavesAlone roles e → IsTrue (call_fits sizes e.call) → meets hold (touch_of e.task e.call) ≡ false
meets_not sizes (OneSlot s) roles e among leaves fits = All-contains (λ r. touches_role (touch_of e.task e.call) r ≡ false) roles (Slot s) leaves (among (Slot s) (0, omega arith, refl))
meets_not sizes AllLayers roles e among leaves fits =
    let P : Role → Type 0 = λ r. touches_role (touch_of e.task e.call) r ≡ false in
    let info : is_on_info (class_of e.call) ≡ false = All-contains P roles Info leaves (among Info (0, omega arith, refl)) in
    or_from (is_on_info (class_of e.call)) (has_some (slots_of e.call)) info
    (no_slot sizes e.call (class_of e.call) refl fits info (λ s below. All-contains P roles (Slot s) leaves (among (Slot s) (all_roles_has_slot sizes.slots 0 s below))))

-- A task that made so many calls is within none of these groups, but for some of which it has what they hold.
abbrev pub Guards : ℕ → List Group → ℕ → List Role → Type 0
Guards slots groups made roles = All (λ g. (is_open made g ≡ false) ⊎ ((r : Role) → Contains (held_roles slots g.hold) r → Contains roles r)) groups

within_none : (sizes : Sizes) (groups : List Group) (made : ℕ) (roles : List Role) (es : List Entry) → Guards sizes.slots groups made roles → Quiet roles es → CallsFit sizes es → All (λ e. is_within groups made (touch_of e.task e.call) ≡ false) es
within_none sizes groups made roles es guards quiet fits k d below =
    let e : Entry = slice_index_or es k d in
    let touch = touch_of e.task e.call in
    list_any_none (λ g. is_open made g && meets g.hold touch) groups
    (All-weaker (λ g. (is_open made g ≡ false) ⊎ ((r : Role) → Contains (held_roles sizes.slots g.hold) r → Contains roles r)) (λ g. (is_open made g && meets g.hold touch) ≡ false)
    (λ g. ⊎_elim (λ closed. and_left (is_open made g) (meets g.hold touch) closed) (λ among. and_right (is_open made g) (meets g.hold touch) (meets_not sizes g.hold roles e among (quiet k d below) (fits k d below))))
    groups guards)

front_fits : (sizes : Sizes) (old rest new : List Entry) → new ≡ old ++ rest → CallsFit sizes new → CallsFit sizes old
front_fits sizes old rest new parts fits =
    let P : Entry → Type 0 = λ e. IsTrue (call_fits sizes e.call) in
    subst (All P) (take-append_seam old rest) (All-take P (length old) (old ++ rest) (subst (All P) parts fits))

rest_fits : (sizes : Sizes) (old rest new : List Entry) → new ≡ old ++ rest → CallsFit sizes new → CallsFit sizes rest
rest_fits sizes old rest new parts fits =
    let P : Entry → Type 0 = λ e. IsTrue (call_fits sizes e.call) in
    subst (All P) (drop-append_seam old rest) (All-drop P (length old) (old ++ rest) (subst (All P) parts fits))

module _ (desk : Desk) (groups : List Group) (task : ℕ) where
  -- what a task made, and what follows it
  joined : (made more : List Call) (old rest new : List Entry) (said more_said : List Reply) (places more_places : List ℕ) → HasTold desk groups task made old said places → new ≡ old ++ rest → calls_of task rest ≡ more → more_said ≡ replies_of (machine desk old) task rest → more_places ≡ places_of task (length old) rest
      → (CallsFit desk.sizes rest → keeps_apart groups task (length made) rest ≡ true) → HasTold desk groups task (made ++ more) new (said ++ more_said) (places ++ more_places)
  joined made more old rest new said more_said places more_places h parts calls replies tickets apart =
      let many : count_of task old + 0 ≡ length made = (let long = sym (length_calls_of task old) ∙ ap length h.calls in omega (arith, long)) in
      let from : 0 + length old ≡ length old = omega arith in
      record {
        calls = ap (calls_of task) parts ∙ (calls_of_append task old rest ∙ (ap (λ cs. cs ++ calls_of task rest) h.calls ∙ ap (λ cs. made ++ cs) calls));
        replies = ap (λ rs. rs ++ more_said) h.replies ∙ (ap (λ rs. replies_of desk task old ++ rs) replies ∙ (sym (replies_of_append desk task old rest) ∙ ap (replies_of desk task) (sym parts)));
        tickets = ap (λ ns. ns ++ more_places) h.tickets ∙ (ap (λ ns. places_of task 0 old ++ ns) (tickets ∙ ap (λ n. places_of task n rest) (sym from)) ∙ (sym (places_of_append task 0 old rest) ∙ ap (places_of task 0) (sym parts)));
        apart = λ fits.
            ap (keeps_apart groups task 0) parts
            ∙ (keeps_apart_append groups task 0 old rest
            ∙ and_from _ _ (h.apart (front_fits desk.sizes old rest new parts fits)) (ap (λ n. keeps_apart groups task n rest) many ∙ apart (rest_fits desk.sizes old rest new parts fits)));
      }

  -- steps of others
  pub told_still : (roles : List Role) (made : List Call) (old new : List Entry) (said : List Reply) (places : List ℕ) → Contains roles (Task task) → Guards desk.sizes.slots groups (length made) roles → HasTold desk groups task made old said places → Follows roles old new → HasTold desk groups task made new said places
  told_still roles made old new said places has guards h f =
      let none : Foreign task f.rest = foreign task roles f.rest has f.quiet in
      let all : HasTold desk groups task (made ++ []) new (said ++ []) (places ++ []) =
      joined made [] old f.rest new said [] places [] h f.prefix (no_calls task f.rest none) (sym (no_replies_of (machine desk old) task f.rest none)) (sym (no_places task (length old) f.rest none))
      (λ fits. kept_apart groups task (length made) f.rest none (within_none desk.sizes groups (length made) roles f.rest guards f.quiet fits))
      in
      subst (λ cs. HasTold desk groups task cs new said places) (append-nil made) (subst (λ rs. HasTold desk groups task (made ++ []) new rs places) (append-nil said) (subst (λ ns. HasTold desk groups task (made ++ []) new (said ++ []) ns) (append-nil places) all))

  -- and a call of the task
  pub made_more : (roles : List Role) (made : List Call) (old new : List Entry) (had : List Answer) (call : Call) (answer : Answer) → Contains roles (Task task) → Guards desk.sizes.slots groups (length made) roles → HasMade desk groups task made old had
      → Done desk roles task old new call answer.reply answer.ticket → HasMade desk groups task (made ++ call ∷ []) new (had ++ answer ∷ [])
  made_more roles made old new had call answer has guards h done =
      let said : List Answer → List Reply = map (λ a. a.reply) in
      let places : List Answer → List ℕ = map (λ a. a.ticket) in
      let mid : List Entry = old ++ done.added.between in
      let e : Entry = record { task = task; seq = count_of task mid; call = call } in
      let own : (e.task == task) ≡ true = eq-eqb task task refl in
      let before : HasMade desk groups task made mid had = told_still roles made old mid (said had) (places had) has guards h (record { rest = done.added.between; prefix = refl; quiet = done.added.quiet }) in
      let all : HasTold desk groups task (made ++ call ∷ []) new (said had ++ answer.reply ∷ []) (places had ++ answer.ticket ∷ []) =
      joined made (call ∷ []) mid (e ∷ []) new (said had) (answer.reply ∷ []) (places had) (answer.ticket ∷ []) before done.added.history (own_call task e own)
      (ap (λ r. r ∷ []) done.says ∙ sym (own_reply (machine desk mid) task e own))
      (ap (λ n. n ∷ []) done.added.place ∙ sym (own_place task (length mid) e own))
      (λ fits. own_apart groups task (length made) e own)
      in
      subst (λ rs. HasTold desk groups task (made ++ call ∷ []) new rs (places (had ++ answer ∷ []))) (sym (map-append (λ a. a.reply) had (answer ∷ [])))
      (subst (λ ns. HasTold desk groups task (made ++ call ∷ []) new (said had ++ answer.reply ∷ []) ns) (sym (map-append (λ a. a.ticket) had (answer ∷ []))) all)

  -- calls of the task one after another
  pub made_ran : (roles : List Role) (made : List Call) (old new : List Entry) (had : List Answer) (calls : List Call) (said : List Answer) → Contains roles (Task task)
      → ((n : ℕ) → length made ≤ n → n < length made + length calls → Guards desk.sizes.slots groups n roles) → HasMade desk groups task made old had → Ran desk roles task old new calls said → HasMade desk groups task (made ++ calls) new (had ++ said)
  made_ran roles made old new had [] [] has guards h ran =
      subst (λ cs. HasMade desk groups task cs new (had ++ [])) (sym (append-nil made)) (subst (λ xs. HasMade desk groups task made new xs) (sym (append-nil had)) (subst (λ es. HasMade desk groups task made es had) (sym ran) h))
  made_ran roles made old new had (c ∷ cs) (a ∷ rest) has guards h ran =
      let first : HasMade desk groups task (made ++ c ∷ []) ran.0 (had ++ a ∷ []) = made_more roles made old ran.0 had c a has (guards (length made) (omega arith) (omega arith)) h ran.1 in
      let long : length (made ++ c ∷ []) ≡ length made + 1 = length-append made (c ∷ []) in
      let all : HasMade desk groups task ((made ++ c ∷ []) ++ cs) new ((had ++ a ∷ []) ++ rest) =
      made_ran roles (made ++ c ∷ []) ran.0 new (had ++ a ∷ []) cs rest has (λ n above below. guards n (omega (arith, above, long)) (omega (arith, below, long))) first ran.2
      in
      subst (λ xs. HasMade desk groups task (made ++ c ∷ cs) new xs) (append_assoc had (a ∷ []) rest) (subst (λ ds. HasMade desk groups task ds new ((had ++ a ∷ []) ++ rest)) (append_assoc made (c ∷ []) cs) all)
  made_ran roles made old new had [] (a ∷ rest) has guards h ran = absurd ran
  made_ran roles made old new had (c ∷ cs) [] has guards h ran = absurd ran

-- A whole group: one answer more for each of its calls.
pub made_group : (desk : Desk) (groups : List Group) (task : ℕ) (few many : List Role) (made : List Call) (old new : List Entry) (calls : List Call) (had has : List Answer) → Contains few (Task task) → Contains many (Task task) → Guards desk.sizes.slots groups (length made) few
    → ((n : ℕ) → length made ≤ n → n < length made + length calls → Guards desk.sizes.slots groups n many) → HasMade desk groups task made old had → GroupDone desk few many task old new calls had has → length has ≡ length had + length calls → HasMade desk groups task (made ++ calls) new has
made_group desk groups task few many made old new calls had has own own_too free guards h g all =
    let grown = g.grown in
    let lengths = ran_lengths desk many task g.start new grown.made grown.done grown.ran in
    let parts = ap length grown.parts ∙ length-append grown.made grown.left in
    let answers = ap length grown.answers ∙ length-append had grown.done in
    let none : grown.left ≡ [] = nil_from_length grown.left (omega (arith, lengths, parts, answers, all)) in
    let whole : grown.made ≡ calls = sym (grown.parts ∙ (ap (λ cs. grown.made ++ cs) none ∙ append-nil grown.made)) in
    let still : HasMade desk groups task made g.start had = told_still desk groups task few made old g.start _ _ own free h g.follows in
    let ran : HasMade desk groups task (made ++ calls) new (had ++ grown.done) = made_ran desk groups task many made g.start new had calls grown.done own_too guards still (subst (λ cs. Ran desk many task g.start new cs grown.done) whole grown.ran) in
    subst (λ xs. HasMade desk groups task (made ++ calls) new xs) (sym grown.answers) ran
