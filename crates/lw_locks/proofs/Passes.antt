-- A task that holds what lay behind a lock, and a pass after it gave that back.
use Rattle.std.proofs.Common.{◌≡◌, ℕ, ◌+◌, ◌<◌, ◌≤◌, ◌==◌, false, length, List, [], ◌∷◌, ◌++◌, sym, ap, subst, ◌∙◌}
use Rattle.std.specs.Prelude.{All, Contains, Result, Ok, Err}
use Rattle.std.proofs.lemmas.List.Elements.{All-nil, All-cons, Contains-push, Contains-append_right}
use Rattle.atomic_table.specs.Seated.{TableId}
use Rattle.lw_calls.specs.declared.call.Call.{Call}
use Rattle.lw_calls.specs.declared.entry.Entry.{Entry}
use Rattle.lw_calls.specs.declared.group.Hold.{Hold}
use Rattle.lw_calls.specs.declared.reply.Reply.{Reply}
use Rattle.lw_calls.specs.declared.touch.CallClass.{CallClass}
use Rattle.lw_calls.specs.declared.touch.Role.{Role}
use Rattle.lw_calls.specs.declared.touch.Role.TheVariants.{Task, Slot, Info}
use Rattle.lw_calls.specs.Entries.{count_of}
use Rattle.lw_calls.specs.declared.touch.CallClass.TheVariants.{OnLayers}
use Rattle.lw_calls.specs.Touches.{class_of}
use Rattle.lw_machine.proofs.Untouched.{differ_back}
use Rattle.lw_engine_trait.specs.Steps.{Relations}
use Rattle.lw_engine_trait.proofs.ClassLaws.{pair_apart}
use Rattle.lw_machine.specs.Desk.{Desk}
use Rattle.lw_order.specs.Roles.{same_role, without}
use Rattle.lw_order.specs.Promised.{Follows}
use Rattle.lw_order.specs.Seen.{SeenSeat}
use Rattle.lw_order.proofs.HistoryLaws.{count_of_follows}
use Rattle.lw_order.proofs.RoleLaws.{still_there}
use Rattle.lw_locks.specs.Called.{MayCall, MayCallEach, Called, Stepped, CalledEach, SteppedEach}
use Rattle.lw_locks.specs.Promised.{Done, GroupDone, held_roles}
use Rattle.lw_locks.specs.Held.{IsCell, IsInfo, IsHolding, IsLayer, IsLayerInfo}
use Rattle.lw_locks.specs.Seen.{SeenPass, SeenHolder, shown}
use Rattle.lw_locks.specs.declared.answer.Answer.{Answer}
use Rattle.lw_locks.specs.Joins.{WasJoined, IsLonger, Took, Gave}
use Rattle.lw_locks.proofs.Seats.{longer_by, their_longer, seat_joined, regs_longer, cell_longer, info_longer, seat_at, regs_at, cell_at, info_at, without_last, done_after}
use Rattle.lw_locks.proofs.Running.{group_after}

-- A task's part when its seat was joined with another, and when a role, not its own, was taken off it.
pub holding_joined : {I C R : Type 0} (relations : Relations I C R) (name : TableId) (desk : Desk) (task made : ℕ) (mine theirs both : SeenSeat) (regs : R) → WasJoined desk mine theirs both → IsHolding relations name desk task made mine regs → IsHolding relations name desk task made both regs
holding_joined relations name desk task made mine theirs both regs was had =
    let longer = longer_by desk mine theirs both was in
    record {
      seat = seat_joined desk mine theirs both was name had.seat;
      regs = regs_longer desk mine both longer relations task regs had.regs;
      counted = had.counted ∙ sym (count_of_follows task mine.roles mine.history both.history had.regs.has longer.follows);
    }

pub holding_given : {I C R : Type 0} (relations : Relations I C R) (name : TableId) (desk : Desk) (off : Role) (task made : ℕ) (whole left : SeenSeat) (regs : R) → left.word ≡ whole.word → left.history ≡ whole.history → left.roles ≡ without off whole.roles → same_role off (Task task) ≡ false
    → IsHolding relations name desk task made whole regs → IsHolding relations name desk task made left regs
holding_given relations name desk off task made whole left regs word same roles apart had =
    record {
      seat = seat_at desk whole left same name word had.seat;
      regs = regs_at desk whole left same relations task regs (subst (λ rs. Contains rs (Task task)) (sym roles) (still_there off (Task task) whole.roles apart had.regs.has)) had.regs;
      counted = had.counted ∙ ap (count_of task) (sym same);
    }

-- A role that is none of a pass's.
pub apart_alone : (off : Role) (mine : SeenHolder) → mine.seat.roles ≡ Task mine.task ∷ [] → same_role off (Task mine.task) ≡ false → All (λ r. same_role off r ≡ false) mine.seat.roles
apart_alone off mine alone apart =
    let P : Role → Type 0 = λ r. same_role off r ≡ false in
    subst (All P) (sym alone) (All-cons P (Task mine.task) [] apart (All-nil P))

-- A pass has its task's role.
pub has_own : (mine : SeenHolder) → mine.seat.roles ≡ Task mine.task ∷ [] → Contains mine.seat.roles (Task mine.task)
has_own mine alone = subst (λ rs. Contains rs (Task mine.task)) (sym alone) (Contains-push [] (Task mine.task))

-- A task that was given the roles and the history of a seat.
module _ (desk : Desk) (mine : SeenHolder) (theirs : SeenSeat) (both : SeenHolder) (took : Took desk mine theirs both) where
  pub longer : IsLonger mine.seat both.seat
  longer = longer_by desk mine.seat theirs both.seat took.joined

  same_count : Contains mine.seat.roles (Task mine.task) → count_of both.task both.seat.history ≡ count_of mine.task mine.seat.history
  same_count has = ap (λ t. count_of t both.seat.history) took.task ∙ count_of_follows mine.task mine.seat.roles mine.seat.history both.seat.history has longer.follows

  pub may_still : (call : Call) → Contains mine.seat.roles (Task mine.task) → MayCall desk mine.task mine.seat.history call → MayCall desk both.task both.seat.history call
  may_still call has may = record { fits = may.fits; room = subst (λ n. n < 4294967295) (sym (same_count has)) may.room }

  pub may_each_still : (kind : CallClass) (calls : List Call) → Contains mine.seat.roles (Task mine.task) → MayCallEach desk kind mine.task mine.seat.history calls → MayCallEach desk kind both.task both.seat.history calls
  may_each_still kind calls has may =
      record { class = may.class; fits = may.fits; some = may.some; room = subst (λ n. n + length calls ≤ 4294967295) (sym (same_count has)) may.room }

  pub cell_held : {I C R : Type 0} (relations : Relations I C R) (cell : C) → IsCell relations desk theirs cell → IsCell relations desk both.seat cell
  cell_held relations cell is = cell_longer desk theirs both.seat (their_longer desk mine.seat theirs both.seat took.joined) relations cell is

  pub cell_kept : {I C R : Type 0} (relations : Relations I C R) (cell : C) → IsCell relations desk mine.seat cell → IsCell relations desk both.seat cell
  cell_kept relations cell is = cell_longer desk mine.seat both.seat longer relations cell is

  pub info_got : {I C R : Type 0} (relations : Relations I C R) (info : I) → IsInfo relations desk theirs info → IsInfo relations desk both.seat info
  info_got relations info is = info_longer desk theirs both.seat (their_longer desk mine.seat theirs both.seat took.joined) relations info is

  pub done_wider : (new : List Entry) (call : Call) (r : Reply) (ticket : ℕ) → Done desk both.seat.roles both.task both.seat.history new call r ticket → Done desk mine.seat.roles mine.task mine.seat.history new call r ticket
  done_wider new call r ticket done =
      done_after desk mine.seat.roles both.seat.roles mine.task mine.seat.history both.seat.history new call r ticket longer.among longer.follows
      (subst (λ t. Done desk both.seat.roles t both.seat.history new call r ticket) took.task done)

  -- It has the seat's one role, and after a step that takes none away still.
  pub has_off : (off : Role) (stepped : SeenHolder) → theirs.roles ≡ off ∷ [] → stepped.seat.roles ≡ both.seat.roles → Contains stepped.seat.roles off
  has_off off stepped their same =
      subst (λ rs. Contains rs off) (sym (same ∙ took.joined.roles)) (Contains-append_right mine.seat.roles theirs.roles off (subst (λ rs. Contains rs off) (sym their) (Contains-push [] off)))

  -- It has its former roles when it gave that one back.
  pub roles_back : (name : TableId) (off : Role) (stepped left : SeenHolder) (given : SeenSeat) → theirs.roles ≡ off ∷ [] → stepped.seat.roles ≡ both.seat.roles → Gave name desk off stepped left given → All (λ r. same_role off r ≡ false) mine.seat.roles → left.seat.roles ≡ mine.seat.roles
  roles_back name off stepped left given their same gave apart =
      gave.roles ∙ (ap (without off) (same ∙ (took.joined.roles ∙ ap (λ rs. mine.seat.roles ++ rs) their)) ∙ without_last off mine.seat.roles apart)

  -- a pass's own role alone
  pub alone_back : (name : TableId) (off : Role) (stepped left : SeenHolder) (given : SeenSeat) → theirs.roles ≡ off ∷ [] → stepped.seat.roles ≡ both.seat.roles → stepped.task ≡ both.task → Gave name desk off stepped left given → mine.seat.roles ≡ Task mine.task ∷ [] → same_role off (Task mine.task) ≡ false → left.seat.roles ≡ Task left.task ∷ []
  alone_back name off stepped left given their same task gave alone apart =
      roles_back name off stepped left given their same gave (apart_alone off mine alone apart) ∙ (alone ∙ ap (λ t. Task t ∷ []) (sym (gave.task ∙ (task ∙ took.task))))

  -- a pass that holds a slot, or LayerInfo
  pub still_has : mine.seat.roles ≡ Task mine.task ∷ [] → Contains both.seat.roles (Task both.task)
  still_has alone = subst (λ t. Contains both.seat.roles (Task t)) (sym took.task) (longer.among (Task mine.task) (has_own mine alone))

  pub roles_held : (held : Role) → theirs.roles ≡ held ∷ [] → mine.seat.roles ≡ Task mine.task ∷ [] → both.seat.roles ≡ Task mine.task ∷ held ∷ []
  roles_held held their alone = took.joined.roles ∙ (ap (λ rs. rs ++ theirs.roles) alone ∙ ap (λ rs. Task mine.task ∷ rs) their)

  pub apart_two : (held off : Role) → theirs.roles ≡ held ∷ [] → mine.seat.roles ≡ Task mine.task ∷ [] → same_role off (Task mine.task) ≡ false → same_role off held ≡ false → All (λ r. same_role off r ≡ false) both.seat.roles
  apart_two held off their alone apart other =
      let P : Role → Type 0 = λ r. same_role off r ≡ false in
      subst (All P) (sym (roles_held held their alone)) (All-cons P (Task mine.task) (held ∷ []) apart (All-cons P held [] other (All-nil P)))

  pub each_wider : {A E : Type 0} (name : TableId) (off : Role) (stepped left : SeenHolder) (given : SeenSeat) (held : List Role) (calls : List Call) (had has : List Answer) (o : Result A E) → Gave name desk off stepped left given → left.seat.roles ≡ mine.seat.roles
      → SteppedEach desk held both stepped calls had has o → SteppedEach desk held mine left calls had has o
  each_wider name off stepped left given held calls had has o gave back s =
      let inner = subst (λ t. GroupDone desk both.seat.roles held t both.seat.history stepped.seat.history calls had has) took.task s.done in
      let wider = group_after desk mine.seat.roles both.seat.roles held mine.task mine.seat.history both.seat.history stepped.seat.history calls had has longer.among longer.follows inner in
      record { task = gave.task ∙ (s.task ∙ took.task); roles = back; done = subst (λ h. GroupDone desk mine.seat.roles held mine.task mine.seat.history h calls had has) (sym gave.history) wider; all = s.all }

-- What contracts say of a pass, from what holds of its task.
module _ (desk : Desk) (mine : SeenHolder) (seen : SeenPass) (alone : mine.seat.roles ≡ Task mine.task ∷ []) (is : shown mine ≡ seen) where
  pub may_own : (call : Call) → MayCall desk seen.task seen.history call → MayCall desk mine.task mine.seat.history call
  may_own call may = subst (λ (v : SeenPass). MayCall desk v.task v.history call) (sym is) may

  pub may_own_each : (kind : CallClass) (calls : List Call) → MayCallEach desk kind seen.task seen.history calls → MayCallEach desk kind mine.task mine.seat.history calls
  may_own_each kind calls may = subst (λ (v : SeenPass). MayCallEach desk kind v.task v.history calls) (sym is) may

  pub done_seen : (new : List Entry) (call : Call) (r : Reply) (ticket : ℕ) → Done desk mine.seat.roles mine.task mine.seat.history new call r ticket → Done desk (Task seen.task ∷ []) seen.task seen.history new call r ticket
  done_seen new call r ticket done = subst (λ (v : SeenPass). Done desk (Task v.task ∷ []) v.task v.history new call r ticket) is (subst (λ rs. Done desk rs mine.task mine.seat.history new call r ticket) alone done)

  pub follows_seen : (new : List Entry) → Follows mine.seat.roles mine.seat.history new → Follows (Task seen.task ∷ []) seen.history new
  follows_seen new f = subst (λ (v : SeenPass). Follows (Task v.task ∷ []) v.history new) is (subst (λ rs. Follows rs mine.seat.history new) alone f)

  pub called_each : {A E : Type 0} (hold : Hold) (left : SeenHolder) (held : List Role) (calls : List Call) (had has : List Answer) (o : Result A E) → held ≡ Task mine.task ∷ held_roles desk.sizes.slots hold → SteppedEach desk held mine left calls had has o → CalledEach desk hold seen (shown left) calls had has o
  called_each hold left held calls had has o roles s =
      let own = subst (λ rs. GroupDone desk rs held mine.task mine.seat.history left.seat.history calls had has) alone s.done in
      let named = subst (λ rs. GroupDone desk (Task mine.task ∷ []) rs mine.task mine.seat.history left.seat.history calls had has) roles own in
      record {
        task = s.task ∙ ap (λ (v : SeenPass). v.task) is;
        done = subst (λ (v : SeenPass). GroupDone desk (Task v.task ∷ []) (Task v.task ∷ held_roles desk.sizes.slots hold) v.task v.history left.seat.history calls had has) is named;
        all = s.all;
      }

  -- one call, between the taking of a lock and its giving back
  pub called_back : {E : Type 0} (name : TableId) (off : Role) (theirs : SeenSeat) (both stepped left : SeenHolder) (given : SeenSeat) (call : Call) (o : Result Answer E) → Took desk mine theirs both → Gave name desk off stepped left given → Stepped desk both stepped call o → Called desk seen (shown left) call o
  called_back name off theirs both stepped left given call (Ok a) took gave s =
      let made = subst (λ h. Done desk both.seat.roles both.task both.seat.history h call a.reply a.ticket) (sym gave.history) s.done in
      record {
        task = gave.task ∙ (s.task ∙ (took.task ∙ ap (λ (v : SeenPass). v.task) is));
        done = done_seen left.seat.history call a.reply a.ticket (done_wider desk mine theirs both took left.seat.history call a.reply a.ticket made);
        failed = tt;
      }
  called_back name off theirs both stepped left given call (Err e) took gave s =
      record {
        task = gave.task ∙ (s.task ∙ (took.task ∙ ap (λ (v : SeenPass). v.task) is));
        done = tt;
        failed = follows_seen left.seat.history (subst (Follows mine.seat.roles mine.seat.history) (sym (gave.history ∙ s.same)) (longer desk mine theirs both took).follows);
      }

  -- calls in a group, between the taking of its lock and its giving back
  pub called_each_back : {A E : Type 0} (hold : Hold) (name : TableId) (off : Role) (theirs : SeenSeat) (both stepped left : SeenHolder) (given : SeenSeat) (held : List Role) (calls : List Call) (had has : List Answer) (o : Result A E) → Took desk mine theirs both → Gave name desk off stepped left given
      → left.seat.roles ≡ mine.seat.roles → held ≡ Task mine.task ∷ held_roles desk.sizes.slots hold → SteppedEach desk held both stepped calls had has o → CalledEach desk hold seen (shown left) calls had has o
  called_each_back hold name off theirs both stepped left given held calls had has o took gave back roles s =
      called_each hold left held calls had has o roles (each_wider desk mine theirs both took name off stepped left given held calls had has o gave back s)

  -- a call that can't fail
  pub done_back : (name : TableId) (off : Role) (theirs : SeenSeat) (both stepped left : SeenHolder) (given : SeenSeat) (call : Call) (r : Reply) (ticket : ℕ) → Took desk mine theirs both → Gave name desk off stepped left given → Done desk both.seat.roles both.task both.seat.history stepped.seat.history call r ticket
      → Done desk (Task seen.task ∷ []) seen.task seen.history left.seat.history call r ticket
  done_back name off theirs both stepped left given call r ticket took gave done =
      done_seen left.seat.history call r ticket (done_wider desk mine theirs both took left.seat.history call r ticket (subst (λ h. Done desk both.seat.roles both.task both.seat.history h call r ticket) (sym gave.history) done))

-- What lay behind a lock, with the role that is given back.
pub info_back : {I C R : Type 0} (relations : Relations I C R) (name : TableId) (desk : Desk) (stepped left : SeenHolder) (given : SeenSeat) (info : I) → Gave name desk Info stepped left given → IsInfo relations desk stepped.seat info → IsLayerInfo relations name desk given info
info_back relations name desk stepped left given info gave is =
    record {
      seat = record { word = gave.word; known = gave.known };
      roles = gave.given_roles;
      info = info_at desk stepped.seat given gave.given_history relations info (subst (λ rs. Contains rs Info) (sym gave.given_roles) (Contains-push [] Info)) is;
    }

pub layer_back : {I C R : Type 0} (relations : Relations I C R) (name : TableId) (desk : Desk) (slot : ℕ) (stepped left : SeenHolder) (given : SeenSeat) (cell : C) → Gave name desk (Slot slot) stepped left given → relations.number cell ≡ slot → IsCell relations desk stepped.seat cell → IsLayer relations name desk slot given cell
layer_back relations name desk slot stepped left given cell gave number is =
    let has : Contains given.roles (Slot slot) = subst (λ rs. Contains rs (Slot slot)) (sym gave.given_roles) (Contains-push [] (Slot slot)) in
    record {
      seat = record { word = gave.word; known = gave.known };
      roles = gave.given_roles;
      number = number;
      cell = cell_at desk stepped.seat given gave.given_history relations cell (subst (λ n. Contains given.roles (Slot n)) (sym number) has) is;
    }

-- of a call on two layers the second slot is another than the first
pub second_apart : (call : Call) (source slot : ℕ) → class_of call ≡ OnLayers source slot → (slot == source) ≡ false
second_apart call source slot class = differ_back source slot (pair_apart call source slot class)
