-- Worked cases.
-- Sizes and plans at their limits.
use Rattle.std.specs.Prelude.{ℕ, List, [], ◌∷◌, replicate, codes}
use Rattle.lw_calls.specs.declared.sizes.Sizes.{Sizes}
use Rattle.lw_calls.specs.declared.call.Call.{Call}
use Rattle.lw_calls.specs.declared.call.Call.TheVariants.{RegClear}
use Rattle.lw_calls.specs.Plan.{Plan, no_assets}

-- the least and the greatest sizes of version 1
abbrev pub least_sizes : Sizes
least_sizes = record { version = 1; width = 1; height = 1; depth = 1; slots = 0; tasks = 1; hooks = 0; bitmaps = 0 }

abbrev pub greatest_sizes : Sizes
greatest_sizes = record {
  version = 1;
  width = 1024;
  height = 1024;
  depth = 8;
  slots = 64;
  tasks = 16;
  hooks = 4294967295;
  bitmaps = 16;
}

-- the greatest ones of the versions 2 and 3
abbrev pub second_sizes : Sizes
second_sizes = record greatest_sizes { version = 2; width = 2048; height = 2048; slots = 128 }

abbrev pub third_sizes : Sizes
third_sizes = record second_sizes { version = 3; slots = 1024 }

-- so many calls
abbrev pub clears : ℕ → List Call
clears count = replicate count (RegClear 7)

-- A plan of such sizes, but without bitmaps, with so many layer names and 16 tasks, of which the first has so many calls and the
-- others none. Its pairs name slots that there aren't.
abbrev pub filled : Sizes → ℕ → ℕ → Plan
filled sizes names calls =
    record {
      sizes = record sizes { bitmaps = 0 };
      slot_names = replicate names (codes "n");
      task_names = replicate 16 (codes "t");
      bitmap_names = [];
      calls = clears calls ∷ replicate 15 [];
      groups = replicate 16 [];
      pairs = record { outer = 5000; inner = 5000 } ∷ [];
      assets = no_assets;
    }

-- the fullest plans of the versions
abbrev pub filled_plan : Plan
filled_plan = filled greatest_sizes 64 4096

abbrev pub second_filled : Plan
second_filled = filled second_sizes 128 16384

abbrev pub third_filled : Plan
third_filled = filled third_sizes 1024 16384

-- the same where the first task has these calls, and where the second one has these
abbrev pub first_calling : List Call → Plan
first_calling calls = record filled_plan { calls = calls ∷ replicate 15 [] }

abbrev pub second_calling : List Call → Plan
second_calling calls = record filled_plan { calls = [] ∷ calls ∷ replicate 14 [] }
