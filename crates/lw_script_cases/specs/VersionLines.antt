-- Worked cases.
-- Scripts whose first line tells their version, and what becomes of them where it is another or none.
use Rattle.std.specs.Prelude.{ℕ, List, [], ◌∷◌, ◌++◌, drop, codes}
use Rattle.lw_calls.specs.declared.make.Kind.TheVariants.{Smart}
use Rattle.lw_calls.specs.declared.call.Call.TheVariants.{ToFront, SetHook}
use Rattle.lw_calls.specs.declared.group.Hold.TheVariants.{All}
use Rattle.lw_calls.specs.Plan.{Plan}
use Rattle.lw_cases.specs.Plans.{one_task, of_version, grouped, with_hooks, six_hooks, create, create_super}
use Rattle.lw_script_cases.specs.WholeScripts.{script, created, of_version_2}

-- the bytes after the first line, where that is `layers 2`
abbrev pub without_version : List ℕ → List ℕ
without_version bytes = drop 9 bytes

-- a screen of 2048 columns, on which nothing is
abbrev pub wide_screen_script : List ℕ
wide_screen_script = script (codes "layers 2/screen 2048 1 1/task a/end/")

-- lines that are skipped, and the same below them
abbrev pub wide_screen_below_comments : List ℕ
wide_screen_below_comments = script (codes "# note//#layers 7/") ++ wide_screen_script

-- a layer whose hook is replaced, and which then is covered and uncovered
abbrev pub hook_replaced_script : List ℕ
hook_replaced_script =
    script (codes "layers 2/screen 16 1 2/task a/create w simple front 0 0 3 0 hook 0/hook w 5/")
    ++ script (codes "create c smart front 0 0 3 0/close c/end/")

-- the same with `layers 1`, with the first line behind the screen's, and with the layer's own hook again
abbrev pub hook_replaced_in_version_1 : List ℕ
hook_replaced_in_version_1 = script (codes "layers 1/") ++ without_version hook_replaced_script

abbrev pub version_behind_screen : List ℕ
version_behind_screen = script (codes "screen 16 1 2/layers 2/task a/end/")

abbrev pub own_hook_again : List ℕ
own_hook_again = script (codes "layers 2/screen 16 1 2/task a/create w simple front 0 0 3 0 hook 0/hook w 0/")

-- hooks of two layers, between other calls and in a hold
abbrev pub hooks_in_hold_script : List ℕ
hooks_in_hold_script =
    of_version_2 created
    ++ script (codes "create v super front 0 0 7 3 8 4/hook v 1/hold/front w/hook w 0/hook v 4/release/end/")

abbrev pub hooks_in_hold_plan : Plan
hooks_in_hold_plan =
    grouped
    (of_version 2
    (with_hooks six_hooks
    (one_task 16 4 1 (codes "w" ∷ codes "v" ∷ [])
    (create 0 Smart 0 0 7 3 ∷ create_super 1 0 0 7 3 8 4 ∷ SetHook 1 1 ∷ ToFront 0 ∷ SetHook 0 0 ∷ SetHook 1 4 ∷ []))))
    (record { first = 3; last = 5; hold = All })
