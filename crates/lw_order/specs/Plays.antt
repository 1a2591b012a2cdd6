-- For private contracts.
-- The steps on an order word: how a view is made, cut in two and joined, and what a seat learns.
use Rattle.std.specs.Prelude.{◌≡◌, ℕ, List, [], All}
use Rattle.lw_calls.specs.declared.sizes.Sizes.{Sizes}
use Rattle.lw_calls.specs.declared.call.Call.{Call}
use Rattle.lw_calls.specs.declared.call.Call.TheVariants.{RegClear}
use Rattle.lw_calls.specs.declared.entry.Entry.{Entry}
use Rattle.lw_calls.specs.declared.touch.Role.{Role}
use Rattle.lw_order.specs.declared.view.Old.{Old}
use Rattle.lw_order.specs.declared.view.View.{View}
use Rattle.lw_order.specs.Roles.{all_roles, HasEachOnce}
use Rattle.lw_order.specs.Numbered.{IsNumbered, TasksBelow, CallsFit}
use Rattle.lw_order.specs.Promised.{Follows, Added}
use Rattle.lw_order.specs.Rule.{IsRoleWithin}

-- a view with no former histories to learn of
abbrev pub view_of : List Entry → List Role → View
view_of history roles = record { history = history; roles = roles; olds = [] }

-- the view of the first seat
abbrev pub first_view : Sizes → View
first_view sizes = view_of [] (all_roles sizes.slots sizes.tasks)

-- the view of a seat that was joined to another
abbrev pub spent_view : View
spent_view = view_of [] []

-- what the view is, to be remembered after a join
abbrev pub old_of : View → Old
old_of v = record { history = v.history; roles = v.roles }

-- the load that follows a join: the seat learns that its history goes on from both former ones, and that its roles are
-- ones of these sizes, none of them twice
pub record Learned (sizes : Sizes) (before after : View) : Type 0 where
  pub view : after ≡ view_of before.history before.roles
  pub olds_follow : All (λ o. Follows o.roles o.history before.history) before.olds
  pub numbered : IsNumbered before.history
  pub tasks_fit : TasksBelow sizes.tasks before.history
  pub calls_fit : CallsFit sizes before.history
  pub roles_fit : All (IsRoleWithin sizes) before.roles
  pub once : HasEachOnce before.roles

-- the stamp: the seat knows the whole history, with its own step at the end
pub record Stamped (sizes : Sizes) (task : ℕ) (call : Call) (found : ℕ) (before after : View) : Type 0 where
  pub view : after ≡ view_of after.history before.roles
  pub added : Added before.roles before.history after.history task call found
  pub numbered : IsNumbered after.history
  pub tasks_fit : TasksBelow sizes.tasks after.history
  pub calls_fit : CallsFit sizes after.history

-- sizes for a load or a stamp that nobody picked
abbrev pub no_sizes : Sizes
no_sizes = record { version = 0; width = 0; height = 0; depth = 0; slots = 0; tasks = 0; hooks = 0; bitmaps = 0 }

-- a call for a stamp that nobody picked
abbrev pub no_call : Call
no_call = RegClear 0
