-- What the plans of demos promise.
use Rattle.std.specs.Prelude.{◌≡◌, ℕ, ◌≤◌, List, [], ◌∷◌, take, drop, pos}
use Rattle.lw_calls.specs.declared.make.Kind.TheVariants.{Simple, Smart}
use Rattle.lw_calls.specs.declared.call.Call.{Call}
use Rattle.lw_calls.specs.declared.call.Call.TheVariants.{Create, ToFront, SetA, ReadPixel, Fill}
use Rattle.lw_calls.specs.Plan.{IsPlan}
use Rattle.lw_gen.specs.Demo.{layer_between, demo_calls, demo_plan}

-- The plan of a demo may be run, whatever its number.
abbrev pub DemosArePlans : Type 0
DemosArePlans = (number tasks : ℕ) → 1 ≤ tasks → tasks ≤ 16 → IsPlan (demo_plan number tasks)

-- Calls that the two tasks of demo 7 draw, worked out from the rule, apart from these definitions.
abbrev pub first_drawn : List Call
first_drawn =
    ToFront 1
    ∷ ToFront 2
    ∷ SetA 2 2
    ∷ SetA 2 1
    ∷ ReadPixel 2 (pos 190) (pos 146)
    ∷ ToFront 2
    ∷ ToFront 1
    ∷ Fill 1 (record { min_x = pos 252; min_y = pos 35; max_x = pos 259; max_y = pos 45 })
    ∷ []

abbrev pub second_drawn : List Call
second_drawn =
    Fill 4 (record { min_x = pos 114; min_y = pos 25; max_x = pos 118; max_y = pos 26 })
    ∷ Fill 3 (record { min_x = pos 235; min_y = pos 61; max_x = pos 240; max_y = pos 67 })
    ∷ Fill 5 (record { min_x = pos 47; min_y = pos 183; max_x = pos 57; max_y = pos 196 })
    ∷ SetA 5 2
    ∷ SetA 4 2
    ∷ SetA 4 2
    ∷ ReadPixel 3 (pos 177) (pos 78)
    ∷ []

-- The first three calls of the second task, whose band has the columns 320 to 639.
abbrev pub second_created : List Call
second_created =
    Create 3 (layer_between Simple 320 0 639 127)
    ∷ Create 4 (layer_between Smart 328 32 639 200)
    ∷ Create 5 (layer_between Smart 320 64 631 255)
    ∷ []

-- The first calls, those that follow them, and the last call of each task.
pub record DrawsTheseCalls : Type 0 where
  pub created : take 3 (demo_calls 7 2 1) ≡ second_created
  pub first : take 8 (drop 3 (demo_calls 7 2 0)) ≡ first_drawn
  pub second : take 7 (drop 3 (demo_calls 7 2 1)) ≡ second_drawn
  pub first_end : drop 499 (demo_calls 7 2 0)
      ≡ Fill 1 (record { min_x = pos 305; min_y = pos 34; max_x = pos 308; max_y = pos 34 }) ∷ []
  pub second_end : drop 499 (demo_calls 7 2 1) ≡ ReadPixel 4 (pos 57) (pos 87) ∷ []
