-- Seats that were joined or split: what stands for its part at one of them stands for it at the other.
use Rattle.std.proofs.Common.{◌≡◌, ℕ, false, length, List, [], ◌∷◌, ◌++◌, refl, sym, ap, subst, ◌∙◌, append_assoc}
use Rattle.std.specs.Prelude.{All, Contains}
use Rattle.std.proofs.lemmas.List.Elements.{All-head, All-tail, All-append, Contains-append_left, Contains-append_right}
use Rattle.atomic_table.specs.Seated.{TableId}
use Rattle.lw_calls.specs.declared.call.Call.{Call}
use Rattle.lw_calls.specs.declared.entry.Entry.{Entry}
use Rattle.lw_calls.specs.declared.reply.Reply.{Reply}
use Rattle.lw_calls.specs.declared.touch.Role.{Role}
use Rattle.lw_calls.specs.declared.touch.Role.TheVariants.{Task, Slot, Info}
use Rattle.lw_calls.specs.Entries.{count_of}
use Rattle.lw_machine.specs.Desk.{Desk}
use Rattle.lw_machine.specs.History.{machine}
use Rattle.lw_machine.specs.Step.{reply}
use Rattle.lw_machine.specs.Parts.{slot_part, info_part}
use Rattle.lw_order.specs.Roles.{same_role, without, LeavesAlone}
use Rattle.lw_order.specs.Promised.{Follows}
use Rattle.lw_order.specs.Seen.{SeenSeat}
use Rattle.lw_order.proofs.RoleLaws.{same_role_itself, quiet_fewer}
use Rattle.lw_order.proofs.HistoryLaws.{follows_on, fewer_follow}
use Rattle.lw_engine_trait.specs.Steps.{Relations}
use Rattle.lw_locks.specs.Joins.{IsHistory, WasJoined, IsLonger}
use Rattle.lw_locks.specs.Promised.{Done}
use Rattle.lw_locks.specs.Held.{IsSeat, AreRegs, IsCell, IsInfo}
use Rattle.lw_locks.proofs.Later.{later}

-- A seat is no shorter than before a join, or two.
pub longer_by : (desk : Desk) (mine theirs both : SeenSeat) → WasJoined desk mine theirs both → IsLonger mine both
longer_by desk mine theirs both was =
    record { among = λ r h. subst (λ rs. Contains rs r) (sym was.roles) (Contains-append_left mine.roles theirs.roles r h); follows = was.follows }

pub longer_on : (a b c : SeenSeat) → IsLonger a b → IsLonger b c → IsLonger a c
longer_on a b c f g =
    record {
      among = λ r h. g.among r (f.among r h);
      follows = follows_on a.roles a.history b.history c.history f.follows (fewer_follow a.roles b.roles b.history c.history f.among g.follows);
    }

-- What stands for its part at a seat does so at a longer one.
module _ (desk : Desk) (mine both : SeenSeat) (longer : IsLonger mine both) where
  pub regs_longer : {I C R : Type 0} (relations : Relations I C R) (task : ℕ) (regs : R) → AreRegs relations desk task mine regs → AreRegs relations desk task both regs
  regs_longer relations task regs are =
      record { has = longer.among (Task task) are.has; stand = subst (relations.regs_is regs) (later desk mine.roles (Task task) mine.history both.history are.has longer.follows) are.stand }

  pub cell_longer : {I C R : Type 0} (relations : Relations I C R) (cell : C) → IsCell relations desk mine cell → IsCell relations desk both cell
  cell_longer relations cell is =
      record { has = longer.among (Slot (relations.number cell)) is.has; stands = subst (relations.cell_is cell) (later desk mine.roles (Slot (relations.number cell)) mine.history both.history is.has longer.follows) is.stands }

  pub info_longer : {I C R : Type 0} (relations : Relations I C R) (info : I) → IsInfo relations desk mine info → IsInfo relations desk both info
  info_longer relations info is =
      record { has = longer.among Info is.has; stands = subst (relations.info_is desk.sizes info) (later desk mine.roles Info mine.history both.history is.has longer.follows) is.stands }

module _ (desk : Desk) (mine theirs both : SeenSeat) (was : WasJoined desk mine theirs both) where
  -- the other seat's former history
  pub their_longer : IsLonger theirs both
  their_longer = record { among = λ r h. subst (λ rs. Contains rs r) (sym was.roles) (Contains-append_right mine.roles theirs.roles r h); follows = was.other_follows }

  pub seat_joined : (name : TableId) → IsSeat name desk mine → IsSeat name desk both
  seat_joined name seat = record { word = was.word ∙ seat.word; known = was.known }

-- A seat that has another history's roles, and the same history: what stands for its part still does.
module _ (desk : Desk) (old new : SeenSeat) (same : new.history ≡ old.history) where
  pub regs_at : {I C R : Type 0} (relations : Relations I C R) (task : ℕ) (regs : R) → Contains new.roles (Task task) → AreRegs relations desk task old regs → AreRegs relations desk task new regs
  regs_at relations task regs has are = record { has = has; stand = subst (λ h. relations.regs_is regs ((machine desk h).registers task)) (sym same) are.stand }

  pub cell_at : {I C R : Type 0} (relations : Relations I C R) (cell : C) → Contains new.roles (Slot (relations.number cell)) → IsCell relations desk old cell → IsCell relations desk new cell
  cell_at relations cell has is = record { has = has; stands = subst (λ h. relations.cell_is cell (slot_part (machine desk h) (relations.number cell))) (sym same) is.stands }

  pub info_at : {I C R : Type 0} (relations : Relations I C R) (info : I) → Contains new.roles Info → IsInfo relations desk old info → IsInfo relations desk new info
  info_at relations info has is = record { has = has; stands = subst (λ h. relations.info_is desk.sizes info (info_part (machine desk h))) (sym same) is.stands }

  pub seat_at : (name : TableId) → new.word ≡ old.word → IsSeat name desk old → IsSeat name desk new
  seat_at name word seat = record { word = word ∙ seat.word; known = subst (IsHistory desk.sizes) (sym same) seat.known }

-- a role that was put after others, which don't have it, and taken away again
pub without_last : (off : Role) (roles : List Role) → All (λ r. same_role off r ≡ false) roles → without off (roles ++ off ∷ []) ≡ roles
without_last off [] h = rw (same_role_itself off) refl
without_last off (r ∷ rs) h =
    let P : Role → Type 0 = λ role. same_role off role ≡ false in
    rw (All-head P r rs h) (ap (λ xs. r ∷ xs) (without_last off rs (All-tail P r rs h)))

-- A call that was made after a join was made: none of the steps between touches the seat's own roles.
pub done_after : (desk : Desk) (few many : List Role) (task : ℕ) (old mid new : List Entry) (call : Call) (r : Reply) (ticket : ℕ) → ((role : Role) → Contains few role → Contains many role) → Follows few old mid → Done desk many task mid new call r ticket → Done desk few task old new call r ticket
done_after desk few many task old mid new call r ticket among f done =
    let a = done.added in
    let p : mid ++ a.between ≡ old ++ (f.rest ++ a.between) = ap (λ h. h ++ a.between) f.prefix ∙ append_assoc old f.rest a.between in
    record {
      added = record {
        between = f.rest ++ a.between;
        history = subst (λ h. new ≡ h ++ record { task = task; seq = count_of task h; call = call } ∷ []) p a.history;
        quiet = All-append (LeavesAlone few) f.rest a.between f.quiet (quiet_fewer few many a.between among a.quiet);
        place = subst (λ h. ticket ≡ length h) p a.place;
      };
      says = subst (λ h. r ≡ reply (machine desk h) task call) p done.says;
    }
