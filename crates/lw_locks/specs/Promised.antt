-- What a caller of the locked desk learns: its call stands at its ticket in the one history, and was answered as the machine
-- answers there.
use Rattle.std.specs.Prelude.{◌≡◌, ℕ, List, [], ◌∷◌, ◌++◌, map}
use Rattle.std.specs.List.{range_with_len}
use Rattle.lw_calls.specs.declared.call.Call.{Call}
use Rattle.lw_calls.specs.declared.entry.Entry.{Entry}
use Rattle.lw_calls.specs.declared.group.Hold.{Hold}
use Rattle.lw_calls.specs.declared.group.Hold.TheVariants.{Slot as OneSlot, All as AllLayers}
use Rattle.lw_calls.specs.declared.reply.Reply.{Reply as TheReply}
use Rattle.lw_calls.specs.declared.touch.Role.{Role}
use Rattle.lw_calls.specs.declared.touch.Role.TheVariants.{Slot, Info}
use Rattle.lw_calls.specs.declared.touch.CallClass.{CallClass}
use Rattle.lw_calls.specs.declared.touch.CallClass.TheVariants.{OnLayer, OnAll}
use Rattle.lw_locks.specs.declared.answer.Answer.{Answer}
use Rattle.lw_machine.specs.Desk.{Desk}
use Rattle.lw_machine.specs.History.{machine}
use Rattle.lw_machine.specs.Step.{reply}
use Rattle.lw_order.specs.Promised.{Follows, Added}

-- A call of a task was made: the new history goes on from the old one by steps that touch none of the roles, and ends in the
-- call's own step, whose place is the ticket. The reply is the machine's at that place.
pub record Done
    (desk : Desk) (roles : List Role) (task : ℕ) (old new : List Entry) (call : Call) (said : TheReply)
    (ticket : ℕ) : Type 0 where
  pub added : Added roles old new task call ticket
  pub says : said ≡ reply (machine desk (old ++ added.between)) task call

-- the class of the calls in a group that holds this
abbrev pub class_under : Hold → CallClass
class_under (OneSlot slot) = OnLayer slot
class_under AllLayers = OnAll

-- the roles that such a group has beside its task's, in the order in which their locks are taken
abbrev pub held_roles : ℕ → Hold → List Role
held_roles slots (OneSlot slot) = Slot slot ∷ []
held_roles slots AllLayers = Info ∷ map (λ s. Slot s) (range_with_len 0 slots)

-- The calls of a task were made one after another, and had these answers. No step before or between them touches one of the
-- roles.
abbrev pub Ran : Desk → List Role → ℕ → List Entry → List Entry → List Call → List Answer → Type 0
Ran desk roles task old new [] [] = new ≡ old
Ran desk roles task old new (c ∷ cs) (a ∷ rest) =
    (mid : List Entry) × Done desk roles task old mid c a.reply a.ticket × Ran desk roles task mid new cs rest
Ran desk roles task old new calls answers = ⊥

-- The first of the calls were made, the answers to which came after what was there.
pub record Grown
    (desk : Desk) (roles : List Role) (task : ℕ) (old new : List Entry) (calls : List Call) (had has : List Answer) : Type 0 where
  pub made : List Call
  pub left : List Call
  pub parts : calls ≡ made ++ left
  pub done : List Answer
  pub answers : has ≡ had ++ done
  pub ran : Ran desk roles task old new made done

-- The first of a group's calls were made as under one holding of its locks. No step up to where all were held touches one of the
-- task's own roles, and no other task's step from there on one of those that it then had.
pub record GroupDone
    (desk : Desk) (own held : List Role) (task : ℕ) (old new : List Entry) (calls : List Call)
    (had has : List Answer) : Type 0 where
  pub start : List Entry
  pub follows : Follows own old start
  pub grown : Grown desk held task start new calls had has
