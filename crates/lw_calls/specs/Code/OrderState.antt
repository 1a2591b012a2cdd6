-- For private contracts.
-- What the code keeps of a past while an order is read, for its proofs.
use Rattle.std.specs.Prelude.{ℕ, ◌+◌, ◌==◌, Bool, false, not, ◌&&◌, ◌||◌, nat_lt, if◌then◌else◌, List, [], ◌∷◌, length, map}
use Rattle.std.specs.Prelude.{Option, Some, None}
use Rattle.std.specs.List.{list_all, range_with_len, slice_get, slice_index_or}
use Rattle.lw_calls.specs.declared.touch.Touch.{Touch}
use Rattle.lw_calls.specs.declared.group.Group.{Group}
use Rattle.lw_calls.specs.declared.progress.Progress.{Progress}
use Rattle.lw_calls.specs.Plan.{Plan, task_calls, task_groups}
use Rattle.lw_calls.specs.Orders.{occurrences, meets, is_open}

-- a task that made no call and comes to its first group next
abbrev pub no_progress : Progress
no_progress = record { made = 0; group = 0 }

-- How many of a task's groups are over where it made so many calls: those at the front whose last call was made.
abbrev pub groups_over : ℕ → List Group → ℕ
groups_over made [] = 0
groups_over made (g ∷ gs) = if nat_lt g.last made then 1 + groups_over made gs else 0

-- what is kept of a task with these groups that made so many calls
abbrev pub progress_at : List Group → ℕ → Progress
progress_at groups made = record { made = made; group = groups_over made groups }

-- what is kept of each task after the past
abbrev pub progress_after : Plan → List ℕ → List Progress
progress_after plan past = map (λ t. progress_at (task_groups plan t) (occurrences t past)) (range_with_len 0 plan.sizes.tasks)

-- the group, if there is one, is open and holds what the call touches
abbrev pub is_held_by : ℕ → Touch → Option Group → Bool
is_held_by made touch None = false
is_held_by made touch (Some g) = is_open made g && meets g.hold touch

-- the task is within a group that holds what the call touches
abbrev pub is_held : List Group → Touch → Progress → Bool
is_held groups touch p = is_held_by p.made touch (slice_get groups p.group)

-- no other task is within a group that holds what the call of this task touches
abbrev pub is_free : Plan → List Progress → ℕ → Touch → Bool
is_free plan states task touch =
    list_all (λ t. (t == task) || not (is_held (task_groups plan t) touch (slice_index_or states t no_progress)))
    (range_with_len 0 plan.sizes.tasks)

-- one group more is over where the task comes to the last call of the next group
abbrev pub over_more : ℕ → ℕ → Option Group → ℕ
over_more made group None = group
over_more made group (Some g) = if nat_lt g.last made then group + 1 else group

-- what is kept of the task after one call more
abbrev pub progress_more : List Group → Progress → Progress
progress_more groups p = record { made = p.made + 1; group = over_more (p.made + 1) p.group (slice_get groups p.group) }

-- each task made all its calls
abbrev pub are_all_made : Plan → List Progress → Bool
are_all_made plan states =
    list_all (λ t. (slice_index_or states t no_progress).made == length (task_calls plan t)) (range_with_len 0 plan.sizes.tasks)
