-- The plan of a demo, by its number and its number of tasks (this project's own).
use Rattle.std.specs.Prelude.{ℕ, false, ◌+◌, ◌-◌, ◌*◌, ◌/◌, ◌%◌, List, [], ◌∷◌, ◌++◌, map, pos, None}
use Rattle.std.specs.Fmt.{decimal}
use Rattle.std.specs.List.{flat_map, range_with_len}
use Rattle.lw_calls.specs.declared.sizes.Sizes.{Sizes}
use Rattle.lw_calls.specs.declared.make.Kind.{Kind}
use Rattle.lw_calls.specs.declared.make.Kind.TheVariants.{Simple, Smart}
use Rattle.lw_calls.specs.declared.make.Place.TheVariants.{Front}
use Rattle.lw_calls.specs.declared.make.Make.{Make}
use Rattle.lw_calls.specs.declared.call.Call.{Call}
use Rattle.lw_calls.specs.declared.call.Call.TheVariants.{Create}
use Rattle.lw_calls.specs.Plan.{Plan, no_assets}
use Rattle.lw_gen.specs.Generator.{words, calls_from}

-- the screen, and three layers a task
abbrev pub demo_sizes : ℕ → Sizes
demo_sizes tasks =
    record { version = 1; width = 640; height = 256; depth = 2; slots = 3 * tasks; tasks = tasks; hooks = 0; bitmaps = 0 }

-- the name of a task: t, and its number
abbrev pub task_name : ℕ → List ℕ
task_name task = 116 ∷ decimal task

-- the names of its layers: the task's name, and then a, b or c
abbrev pub layer_names : ℕ → List (List ℕ)
layer_names task = (task_name task ++ 97 ∷ []) ∷ (task_name task ++ 98 ∷ []) ∷ (task_name task ++ 99 ∷ []) ∷ []

-- a layer of this kind with these bounds, in front of all others
abbrev pub layer_between : Kind → ℕ → ℕ → ℕ → ℕ → Make
layer_between kind x0 y0 x1 y1 = record {
  kind = kind;
  place = Front;
  x = pos x0;
  y = pos y0;
  w = pos ((x1 + 1) - x0);
  h = pos ((y1 + 1) - y0);
  backdrop = false;
  hook = None;
  bits_w = 0;
  bits_h = 0;
}

-- a task's first three calls create its layers, whose slots are first, first + 1 and first + 2, in the columns left to right
abbrev pub creations : ℕ → ℕ → ℕ → List Call
creations first left right =
    Create first (layer_between Simple left 0 right 127)
    ∷ Create (first + 1) (layer_between Smart (left + 8) 32 right 200)
    ∷ Create (first + 2) (layer_between Smart left 64 (right - 8) 255)
    ∷ []

-- The 500 calls of a task whose band has so many columns: its layers are created, and the others are drawn by its word, which
-- starts as the sum of the demo's number and the task's.
abbrev pub band_calls : ℕ → ℕ → ℕ → List Call
band_calls number task columns =
    creations (3 * task) (task * columns) ((task * columns + columns) - 1)
    ++ calls_from 497 (3 * task) columns ((number + task) % words)

-- Each task has a band of the screen's columns, all of them as wide as fits.
abbrev pub demo_calls : ℕ → ℕ → ℕ → List Call
demo_calls number tasks task = band_calls number task (640 / tasks)

-- the plan of a demo of 1 to 16 tasks
abbrev pub demo_plan : ℕ → ℕ → Plan
demo_plan number tasks =
    let all = range_with_len 0 tasks in
    record {
      sizes = demo_sizes tasks;
      slot_names = flat_map layer_names all;
      task_names = map task_name all;
      bitmap_names = [];
      calls = map (demo_calls number tasks) all;
      groups = map (λ task. []) all;
      pairs = [];
      assets = no_assets;
    }
