-- What a task's calls left of the history that its pass knows.
use Rattle.std.specs.Prelude.{◌≡◌, ◌⊎◌, ℕ, ◌+◌, ◌<◌, ◌≤◌, ◌==◌, Bool, true, false, not, ◌&&◌, ◌||◌, if◌then◌else◌, List, []}
use Rattle.std.specs.Prelude.{◌∷◌, ◌++◌, length, map, take, All}
use Rattle.std.specs.List.{list_any}
use Rattle.lw_calls.specs.declared.call.Call.{Call}
use Rattle.lw_calls.specs.declared.entry.Entry.{Entry}
use Rattle.lw_calls.specs.declared.group.Group.{Group}
use Rattle.lw_calls.specs.declared.reply.Reply.{Reply}
use Rattle.lw_calls.specs.declared.touch.Touch.{Touch}
use Rattle.lw_calls.specs.Orders.{meets, is_open}
use Rattle.lw_calls.specs.Plan.{Plan, task_calls, task_groups, group_fits, groups_fit}
use Rattle.lw_calls.specs.Touches.{touch_of}
use Rattle.lw_machine.specs.Desk.{Desk}
use Rattle.lw_machine.specs.History.{replies_of}
use Rattle.lw_order.specs.Numbered.{CallsFit}
use Rattle.lw_locks.specs.declared.answer.Answer.{Answer}

-- the task's calls in a history, in their order
abbrev pub calls_of : ℕ → List Entry → List Call
calls_of task [] = []
calls_of task (e ∷ es) = if e.task == task then e.call ∷ calls_of task es else calls_of task es

-- the places of the task's steps, where the first step of all has this one
abbrev pub places_of : ℕ → ℕ → List Entry → List ℕ
places_of task first [] = []
places_of task first (e ∷ es) = if e.task == task then first ∷ places_of task (first + 1) es else places_of task (first + 1) es

-- a task that made so many calls is within one of the groups that holds what is touched
abbrev pub is_within : List Group → ℕ → Touch → Bool
is_within groups made touch = list_any (λ g. is_open made g && meets g.hold touch) groups

-- From the first to the last call of each group of a task that made so many calls before, no step of another task touches what
-- the group holds.
abbrev pub keeps_apart : List Group → ℕ → ℕ → List Entry → Bool
keeps_apart groups task made [] = true
keeps_apart groups task made (e ∷ es) =
    ((e.task == task) || not (is_within groups made (touch_of e.task e.call)))
    && keeps_apart groups task ((if e.task == task then 1 else 0) + made) es

-- Just these calls of a task stand in the history, in their order. It was told these replies of the machine, and as tickets the
-- places in the history. Its groups were kept.
pub record HasTold
    (desk : Desk) (groups : List Group) (task : ℕ) (made : List Call) (history : List Entry) (said : List Reply)
    (places : List ℕ) : Type 0 where
  pub calls : calls_of task history ≡ made
  pub replies : said ≡ replies_of desk task history
  pub tickets : places ≡ places_of task 0 history
  pub apart : CallsFit desk.sizes history → keeps_apart groups task 0 history ≡ true

-- the same where replies and tickets are those of answers
abbrev pub HasMade : Desk → List Group → ℕ → List Call → List Entry → List Answer → Type 0
HasMade desk groups task made history answers =
    HasTold desk groups task made history (map (λ a. a.reply) answers) (map (λ a. a.ticket) answers)

-- Words of this crate's private contracts.

-- the first calls of a plan's task were made, one for each answer
abbrev pub HasBegun : Desk → Plan → ℕ → List Entry → List Answer → Type 0
HasBegun desk plan task history answers =
    HasMade desk (task_groups plan task) task (take (length answers) (task_calls plan task)) history answers

-- a task that made so many calls is within none of its groups
abbrev pub IsFree : List Group → ℕ → Type 0
IsFree groups made = All (λ g. is_open made g ≡ false) groups

-- A task that made so many calls has these groups left, which are ahead of it, and is past all others.
pub record IsAhead (calls : List Call) (groups left : List Group) (made : ℕ) : Type 0 where
  pub past : List Group
  pub parts : groups ≡ past ++ left
  pub over : All (λ g. g.last < made) past
  pub ahead : All (λ g. made ≤ g.first) left
  pub fit : groups_fit calls left ≡ true
  pub within : made ≤ length calls

-- The group is the next one of a task that made so many calls: it fits, and the task is within no group up to its first call, and
-- within no other one up to its last call.
pub record IsNext (calls : List Call) (groups : List Group) (made : ℕ) (next : Group) : Type 0 where
  pub fits : group_fits calls next ≡ true
  pub ahead : made ≤ next.first
  pub free : (n : ℕ) → made ≤ n → n ≤ next.first → IsFree groups n
  pub alone : (n : ℕ) → made ≤ n → n ≤ next.last → All (λ g. (is_open n g ≡ false) ⊎ (g ≡ next)) groups
