-- Calls that were made one after another.
use Rattle.std.proofs.Common.{◌≡◌, ℕ, suc, ◌+◌, ◌<◌, length, take, drop, get_or, List, [], ◌∷◌, ◌++◌, refl, sym, ap, subst, ◌∙◌, append_assoc, append-nil, length-append, arith}
use Rattle.std.specs.Prelude.{Contains, Result, Ok, Err, OnErr, IsErr}
use Rattle.std.proofs.lemmas.List.{take_more, take-append-drop, length-take-le}
use Rattle.std.proofs.lemmas.List.Elements.{Contains-append_left}
use Rattle.std.proofs.lemmas.Result.{MatchResult-from_err, IfOk-from_err}
use Rattle.lw_calls.specs.declared.call.Call.{Call}
use Rattle.lw_calls.specs.declared.entry.Entry.{Entry}
use Rattle.lw_calls.specs.declared.group.Hold.{Hold}
use Rattle.lw_calls.specs.declared.touch.Role.{Role}
use Rattle.lw_calls.specs.declared.touch.Role.TheVariants.{Task}
use Rattle.lw_calls.specs.Entries.{count_of}
use Rattle.lw_machine.specs.Desk.{Desk}
use Rattle.lw_order.specs.Promised.{Follows}
use Rattle.lw_order.proofs.HistoryLaws.{follows_itself, follows_on, fewer_follow}
use Rattle.lw_locks.specs.declared.answer.Answer.{Answer}
use Rattle.lw_locks.specs.Called.{Called, Stepped, CalledEach, SteppedEach}
use Rattle.lw_locks.specs.Promised.{Done, Ran, Grown, GroupDone, held_roles}
use Rattle.lw_locks.specs.Seen.{SeenPass, SeenHolder}
use Rattle.lw_locks.proofs.Seats.{done_after}

-- what holds anyway holds after a failure
pub on_error : {A E : Type 0} (o : Result A E) (P : Type 0) → P → OnErr o P
on_error (Ok a) P h = tt
on_error (Err e) P h = h

-- two lists that are the same are so in front of their last elements, and there
pub snoc_same : {X : Type 0} (xs ys : List X) (x y : X) → xs ++ x ∷ [] ≡ ys ++ y ∷ [] → (xs ≡ ys) × (x ≡ y)
snoc_same [] [] x y h = (refl, cc h)
snoc_same [] (b ∷ ys) x y h = absurd (let lengths = ap length h ∙ length-append (b ∷ ys) (y ∷ []) in omega (arith, lengths))
snoc_same (a ∷ xs) [] x y h = absurd (let lengths = sym (ap length h) ∙ length-append (a ∷ xs) (x ∷ []) in omega (arith, lengths))
snoc_same (a ∷ xs) (b ∷ ys) x y h =
    let rest = snoc_same xs ys x y (cc h) in
    let first : a ≡ b = cc h in
    (ap (λ z. z ∷ xs) first ∙ ap (λ zs. b ∷ zs) rest.0, rest.1)

module _ (desk : Desk) (roles : List Role) (task : ℕ) where
  pub ran_lengths : (old new : List Entry) (calls : List Call) (answers : List Answer) → Ran desk roles task old new calls answers → length calls ≡ length answers
  ran_lengths old new [] [] ran = refl
  ran_lengths old new (c ∷ cs) (a ∷ rest) ran = ap suc (ran_lengths ran.0 new cs rest ran.2)
  ran_lengths old new [] (a ∷ rest) ran = absurd ran
  ran_lengths old new (c ∷ cs) [] ran = absurd ran

  ran_on : (old mid new : List Entry) (calls : List Call) (answers : List Answer) (more : List Call) (said : List Answer) → Ran desk roles task old mid calls answers → Ran desk roles task mid new more said → Ran desk roles task old new (calls ++ more) (answers ++ said)
  ran_on old mid new [] [] more said ran on = subst (λ h. Ran desk roles task h new more said) ran on
  ran_on old mid new (c ∷ cs) (a ∷ rest) more said ran on = (ran.0, ran.1, ran_on ran.0 mid new cs rest more said ran.2 on)
  ran_on old mid new [] (a ∷ rest) more said ran on = absurd ran
  ran_on old mid new (c ∷ cs) [] more said ran on = absurd ran

  -- before the first call
  pub grown_none : (history : List Entry) (calls : List Call) (had : List Answer) → Grown desk roles task history history calls had had
  grown_none history calls had = record { made = []; left = calls; parts = refl; done = []; answers = sym (append-nil had); ran = refl }

  -- one call
  pub grown_one : (old new : List Entry) (call : Call) (answer : Answer) (had has : List Answer) → Done desk roles task old new call answer.reply answer.ticket → has ≡ had ++ answer ∷ [] → Grown desk roles task old new (call ∷ []) had has
  grown_one old new call answer had has done pushed = record { made = call ∷ []; left = []; parts = refl; done = answer ∷ []; answers = pushed; ran = (new, done, refl) }

  -- of more calls the first ones are the same
  pub grown_more : (old new : List Entry) (calls rest : List Call) (had has : List Answer) → Grown desk roles task old new calls had has → Grown desk roles task old new (calls ++ rest) had has
  grown_more old new calls rest had has g =
      record { made = g.made; left = g.left ++ rest; parts = ap (λ cs. cs ++ rest) g.parts ∙ append_assoc g.made g.left rest; done = g.done; answers = g.answers; ran = g.ran }

  -- none is left where there are as many answers more as calls
  none_left : (old new : List Entry) (calls : List Call) (had has : List Answer) (g : Grown desk roles task old new calls had has) → length has ≡ length had + length calls → calls ≡ g.made
  none_left old new calls had has g many =
      let lengths = ran_lengths old new g.made g.done g.ran in
      let all = ap length g.parts ∙ length-append g.made g.left in
      let answers = ap length g.answers ∙ length-append had g.done in
      let none : length g.left ≡ 0 = omega (arith, lengths, all, answers, many) in
      g.parts ∙ (ap (λ cs. g.made ++ cs) (empty g.left none) ∙ append-nil g.made)
    where
      empty : (cs : List Call) → length cs ≡ 0 → cs ≡ []
      empty [] h = refl
      empty (c ∷ cs) h = absurd (cc h)

  -- further calls after all of these
  pub grown_on : (old mid new : List Entry) (calls more : List Call) (had has said : List Answer) → Grown desk roles task old mid calls had has → length has ≡ length had + length calls → Grown desk roles task mid new more has said → Grown desk roles task old new (calls ++ more) had said
  grown_on old mid new calls more had has said g many on =
      record {
        made = g.made ++ on.made;
        left = on.left;
        parts = ap (λ cs. cs ++ more) (none_left old mid calls had has g many) ∙ (ap (λ cs. g.made ++ cs) on.parts ∙ sym (append_assoc g.made on.made on.left));
        done = g.done ++ on.done;
        answers = on.answers ∙ (ap (λ xs. xs ++ on.done) g.answers ∙ append_assoc had g.done on.done);
        ran = ran_on old mid new g.made g.done on.made on.done g.ran on.ran;
      }

  -- one call that had its answer, and calls that had none
  pub ran_one : (old new : List Entry) (call : Call) (had has front : List Answer) (answer : Answer) → Grown desk roles task old new (call ∷ []) had has → has ≡ front ++ answer ∷ [] → length has ≡ length had + 1 → Done desk roles task old new call answer.reply answer.ticket
  ran_one old new call had has front answer g is many = from g.made g.left g.done g.parts g.answers (let lengths = ap length g.answers ∙ length-append had g.done in omega (arith, lengths, many)) g.ran
    where
      from : (made left : List Call) (done : List Answer) → call ∷ [] ≡ made ++ left → has ≡ had ++ done → length done ≡ 1 → Ran desk roles task old new made done → Done desk roles task old new call answer.reply answer.ticket
      from made left [] parts answers one ran = absurd (cc one)
      from [] left (a ∷ rest) parts answers one ran = absurd ran
      from (c ∷ d ∷ ms) left (a ∷ []) parts answers one ran = absurd ran.2
      from (c ∷ cs) left (a ∷ b ∷ rest) parts answers one ran = absurd (omega (arith, one))
      from (c ∷ []) left (a ∷ []) parts answers one ran =
          let same_call : c ≡ call = cc parts in
          let same_answer : a ≡ answer = (snoc_same had front a answer (sym answers ∙ is)).1 in
          let last : Done desk roles task old new c a.reply a.ticket = subst (λ h. Done desk roles task old h c a.reply a.ticket) (sym ran.2) ran.1 in
          subst (λ (x : Answer). Done desk roles task old new call x.reply x.ticket) same_answer (subst (λ x. Done desk roles task old new x a.reply a.ticket) same_call last)

  pub ran_none : (old new : List Entry) (calls : List Call) (had has : List Answer) → Grown desk roles task old new calls had has → length has < length had + 1 → new ≡ old
  ran_none old new calls had has g few = from g.made g.done (let lengths = ap length g.answers ∙ length-append had g.done in omega (arith, lengths, few)) g.ran
    where
      from : (made : List Call) (done : List Answer) → length done ≡ 0 → Ran desk roles task old new made done → new ≡ old
      from made (a ∷ rest) none ran = absurd (cc none)
      from (c ∷ cs) [] none ran = absurd ran
      from [] [] none ran = ran

-- A group that began later, after steps that touch none of the fewer roles.
pub group_after : (desk : Desk) (few some many : List Role) (task : ℕ) (old mid new : List Entry) (calls : List Call) (had has : List Answer) → ((role : Role) → Contains few role → Contains some role) → Follows few old mid → GroupDone desk some many task mid new calls had has → GroupDone desk few many task old new calls had has
group_after desk few some many task old mid new calls had has among f g =
    record { start = g.start; follows = follows_on few old mid g.start f (fewer_follow few some mid g.start among g.follows); grown = g.grown }

-- A group of which no call was made.
pub group_none : (desk : Desk) (few many : List Role) (task : ℕ) (history : List Entry) (calls : List Call) (had : List Answer) → GroupDone desk few many task history history calls had had
group_none desk few many task history calls had = record { start = history; follows = follows_itself few history; grown = grown_none desk many task history calls had }

-- A group of one call that was made, and of one that failed.
pub once_done : (desk : Desk) (few many : List Role) (task : ℕ) (old new : List Entry) (call : Call) (had has front : List Answer) (answer : Answer) → ((role : Role) → Contains few role → Contains many role) → GroupDone desk few many task old new (call ∷ []) had has → has ≡ front ++ answer ∷ [] → length has ≡ length had + 1 → Done desk few task old new call answer.reply answer.ticket
once_done desk few many task old new call had has front answer among g is one =
    done_after desk few many task old g.start new call answer.reply answer.ticket among g.follows (ran_one desk many task g.start new call had has front answer g.grown is one)

pub once_failed : (desk : Desk) (few many : List Role) (task : ℕ) (old new : List Entry) (calls : List Call) (had has : List Answer) → GroupDone desk few many task old new calls had has → length has < length had + 1 → Follows few old new
once_failed desk few many task old new calls had has g none = subst (Follows few old) (sym (ran_none desk many task g.start new calls had has g.grown none)) g.follows

-- Calls that a task makes one after another, and has made up to a number of them.
pub record Going (desk : Desk) (old now : SeenHolder) (calls : List Call) (had has : List Answer) (i : ℕ) : Type 0 where
  pub task : now.task ≡ old.task
  pub roles : now.seat.roles ≡ old.seat.roles
  pub counted : count_of old.task now.seat.history ≡ count_of old.task old.seat.history + i
  pub many : length has ≡ length had + i
  pub grown : Grown desk old.seat.roles old.task old.seat.history now.seat.history (take i calls) had has

pub going_none : (desk : Desk) (old : SeenHolder) (calls : List Call) (had : List Answer) → Going desk old old calls had had 0
going_none desk old calls had = record { task = refl; roles = refl; counted = omega arith; many = omega arith; grown = grown_none desk old.seat.roles old.task old.seat.history [] had }

module _ (desk : Desk) (old now : SeenHolder) (calls : List Call) (had has : List Answer) (i : ℕ) (g : Going desk old now calls had has i) where
  pub going_more : {E : Type 0} (new : SeenHolder) (more : List Answer) (call : Call) (a : Answer) → Stepped {E = E} desk now new call (Ok a) → i < length calls → call ≡ get_or calls i call → more ≡ has ++ a ∷ [] → Going desk old new calls had more (i + 1)
  going_more new more call a s below is pushed =
      let counted = g.counted in
      let again = subst (λ t. count_of t new.seat.history ≡ count_of t now.seat.history + 1) g.task s.counted in
      let many = g.many in
      let longer = ap length pushed ∙ length-append has (a ∷ []) in
      let last : take (i + 1) calls ≡ take i calls ++ call ∷ [] = take_more calls i call below ∙ ap (λ x. take i calls ++ x ∷ []) (sym is) in
      let done = subst (λ t. Done desk old.seat.roles t now.seat.history new.seat.history call a.reply a.ticket) g.task (subst (λ rs. Done desk rs now.task now.seat.history new.seat.history call a.reply a.ticket) g.roles s.done) in
      let one = grown_one desk old.seat.roles old.task now.seat.history new.seat.history call a has more done pushed in
      let front = length-take-le i calls (omega (arith, below)) in
      let all = grown_on desk old.seat.roles old.task old.seat.history now.seat.history new.seat.history (take i calls) (call ∷ []) had has more g.grown (g.many ∙ ap (λ n. length had + n) (sym front)) one in
      record {
        task = s.task ∙ g.task;
        roles = s.roles ∙ g.roles;
        counted = omega (arith, counted, again);
        many = omega (arith, many, longer);
        grown = subst (λ cs. Grown desk old.seat.roles old.task old.seat.history new.seat.history cs had more) (sym last) all;
      }

  pub going_failed : {A E F : Type 0} (new : SeenHolder) (call : Call) (e : F) (o : Result A E) → Stepped desk now new call (Err e) → i < length calls → IsErr o → SteppedEach desk old.seat.roles old new calls had has o
  going_failed new call e o s below failed =
      let many = g.many in
      let front = subst (λ h. Grown desk old.seat.roles old.task old.seat.history h (take i calls) had has) (sym s.same) g.grown in
      record {
        task = s.task ∙ g.task;
        roles = s.roles ∙ g.roles;
        done = record {
          start = old.seat.history;
          follows = follows_itself old.seat.roles old.seat.history;
          grown = subst (λ cs. Grown desk old.seat.roles old.task old.seat.history new.seat.history cs had has) (take-append-drop i calls) (grown_more desk old.seat.roles old.task old.seat.history new.seat.history (take i calls) (drop i calls) had has front);
        };
        all = MatchResult-from_err o (λ _. length has ≡ length had + length calls) (λ _. length has < length had + length calls) failed (λ _. omega (arith, many, below));
      }

-- A group of which no call was made.
pub called_none : {A E : Type 0} (desk : Desk) (hold : Hold) (seen : SeenPass) (calls : List Call) (had : List Answer) (o : Result A E) → 0 < length calls → IsErr o → CalledEach desk hold seen seen calls had had o
called_none desk hold seen calls had o some failed =
    record {
      task = refl;
      done = group_none desk (Task seen.task ∷ []) (Task seen.task ∷ held_roles desk.sizes.slots hold) seen.task seen.history calls had;
      all = MatchResult-from_err o (λ _. length had ≡ length had + length calls) (λ _. length had < length had + length calls) failed (λ _. omega (arith, some));
    }

pub each_none : {A E : Type 0} (desk : Desk) (held : List Role) (old : SeenHolder) (calls : List Call) (had : List Answer) (o : Result A E) → 0 < length calls → IsErr o → SteppedEach desk held old old calls had had o
each_none desk held old calls had o some failed =
    record {
      task = refl;
      roles = refl;
      done = group_none desk old.seat.roles held old.task old.seat.history calls had;
      all = MatchResult-from_err o (λ _. length had ≡ length had + length calls) (λ _. length had < length had + length calls) failed (λ _. omega (arith, some));
    }

-- One call in a group of its own.
module _ {E : Type 0} (desk : Desk) (hold : Hold) (old new : SeenPass) (call : Call) (calls : List Call) (had has : List Answer) (is : calls ≡ call ∷ []) where
  pub once_called : {A F : Type 0} (x : A) (front : List Answer) (answer : Answer) → has ≡ front ++ answer ∷ [] → CalledEach {E = F} desk hold old new calls had has (Ok x) → Called {E = E} desk old new call (Ok answer)
  once_called x front answer pushed e =
      let few = Task old.task ∷ [] in
      let many = Task old.task ∷ held_roles desk.sizes.slots hold in
      let done = subst (λ cs. GroupDone desk few many old.task old.history new.history cs had has) is e.done in
      let one : length has ≡ length had + 1 = subst (λ (cs : List Call). length has ≡ length had + length cs) is e.all in
      record {
        task = e.task;
        done = once_done desk few many old.task old.history new.history call had has front answer (λ r h. Contains-append_left few (held_roles desk.sizes.slots hold) r h) done pushed one;
        failed = tt;
      }

  pub once_not_called : {A F : Type 0} (e : F) (o : Result Answer E) → IsErr o → CalledEach {A = A} desk hold old new calls had has (Err e) → Called desk old new call o
  once_not_called e o failed each =
      let few = Task old.task ∷ [] in
      let many = Task old.task ∷ held_roles desk.sizes.slots hold in
      let none : length has < length had + 1 = subst (λ (cs : List Call). length has < length had + length cs) is each.all in
      record {
        task = each.task;
        done = IfOk-from_err o (λ a. Done desk few old.task old.history new.history call a.reply a.ticket) failed;
        failed = on_error o (Follows few old.history new.history) (once_failed desk few many old.task old.history new.history calls had has each.done none);
      }
