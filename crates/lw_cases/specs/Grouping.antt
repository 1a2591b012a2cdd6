-- Worked cases.
-- Calls that are to stand in a group, and the worked plans of arrangements and damage.
use Rattle.std.specs.Prelude.{ℕ, ◌-◌, Bool, List, [], ◌∷◌, length}
use Rattle.lw_calls.specs.declared.call.Call.{Call}
use Rattle.lw_calls.specs.declared.group.Hold.{Hold}
use Rattle.lw_calls.specs.declared.group.Hold.TheVariants.{Slot, All}
use Rattle.lw_calls.specs.declared.group.Group.{Group}
use Rattle.lw_calls.specs.Plan.{Plan, group_fits}
use Rattle.lw_cases.specs.Plans.{fill}
use Rattle.lw_cases.specs.Placing.{placed_by_rows, windows_opened, widened_in_clip}
use Rattle.lw_cases.specs.Sharing.{served_by_another, drawn_by_another, opened_by_the_second}
use Rattle.lw_cases.specs.FramePainting.{frame_resized, frame_and_inner_uncovered, activity_passed_on}
use Rattle.lw_cases.specs.Telling.{grown_while_active}
use Rattle.lw_cases.specs.OwnDamage.{damage_beside}

-- these calls, which are all calls of a task, fit as one group that holds this
abbrev pub fit_as : Hold → List Call → Bool
fit_as hold calls = group_fits calls (record { first = 0; last = length calls - 1; hold = hold })

-- a lock on the first layer, from one of a task's calls to another
abbrev pub lock_from : ℕ → ℕ → Group
lock_from first last = record { first = first; last = last; hold = Slot 0 }

-- a hold of all layers, from one of a task's calls to another
abbrev pub hold_from : ℕ → ℕ → Group
hold_from first last = record { first = first; last = last; hold = All }

-- a fill of a layer's first pixel
abbrev pub fill_first : ℕ → Call
fill_first slot = fill slot 0 0 0 0

-- three fills of the first layer
abbrev pub three_fills : List Call
three_fills = fill_first 0 ∷ fill_first 0 ∷ fill_first 0 ∷ []

-- the worked plans of arrangements and damage
abbrev pub arrangement_plans : List Plan
arrangement_plans =
    placed_by_rows ∷ windows_opened ∷ widened_in_clip ∷ served_by_another ∷ drawn_by_another ∷ opened_by_the_second ∷
    frame_resized ∷ frame_and_inner_uncovered ∷ activity_passed_on ∷ grown_while_active ∷ damage_beside ∷ []
