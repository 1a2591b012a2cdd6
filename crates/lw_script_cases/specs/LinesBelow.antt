-- Worked cases.
-- Lines below other lines: what stands above them is taken as it is, good or not.
use Rattle.std.specs.Prelude.{ℕ, List, [], ◌∷◌, ◌++◌, Option, Some, None, Result, Ok, Err, codes}
use Rattle.std.specs.List.{flat_map, range_with_len}
use Rattle.std.specs.Fmt.{decimal}
use Rattle.lw_grammar.specs.declared.form.Form.{Form}
use Rattle.lw_grammar.specs.declared.reason.Reason.{Reason}
use Rattle.lw_grammar.specs.Demands.{◌>>=◌}
use Rattle.lw_grammar.specs.Statements.{Statement, Line}
use Rattle.lw_grammar.specs.Lines.{lines}
use Rattle.lw_grammar.specs.Told.{stands_for, told}
use Rattle.lw_grammar.specs.Script.{Setting, words_read, line_made, line_read, added}
use Rattle.lw_script_cases.specs.WholeScripts.{script, in_task_a, created, of_version_2}

-- the statements for which lines stand whose words make lines, put on those of the lines above them
abbrev pub and_line : Result Line Reason → List Statement → List Statement
and_line (Ok line) above = added (stands_for (told above) line) above
and_line (Err reason) above = above

abbrev pub statements_below : Form → List Statement → List (List ℕ) → List Statement
statements_below form above [] = above
statements_below form above (line ∷ ls) =
    statements_below form (and_line (words_read line
    >>= (λ ws. line_made form (told above).version (told above).section (told above).rows_due (told above).row_width ws)) above)
    ls

-- the first reason, if there is one
abbrev pub reason_of : Result Line Reason → Option Reason
reason_of (Ok line) = None
reason_of (Err reason) = Some reason

-- the first reason of a line below the lines of these bytes
abbrev pub reason_below : Setting → List ℕ → List ℕ → Option Reason
reason_below s above line = reason_of (line_read s (told (statements_below s.form [] (lines above))) (script line))

-- a task with a created layer that names hook 2, and one with an opened window that does
abbrev pub created_with_hook : List ℕ
created_with_hook = in_task_a ++ script (codes "create w smart front 0 0 7 3 hook 2/")

abbrev pub opened_with_hook : List ℕ
opened_with_hook = in_task_a ++ script (codes "open w simple behind 0 0 9 14 nocare hook 2 ''/")

-- in version 2, one whose layer got it
abbrev pub hook_set : List ℕ
hook_set = of_version_2 created ++ script (codes "hook w 2/")

-- the first of two tasks names hook 2
abbrev pub hook_of_another_task : List ℕ
hook_of_another_task = created_with_hook ++ script (codes "end/task b/")

-- the greatest hook that a script can name
abbrev pub greatest_hook : List ℕ
greatest_hook = in_task_a ++ script (codes "create w smart front 0 0 7 3 hook 4294967295/")

-- a task with two layers, of which the first is being updated
abbrev pub updating : List ℕ
updating = in_task_a ++ script (codes "create w smart front 0 0 7 3/create v smart front 0 0 7 3/refresh w/")

-- a task with so many super-bitmap layers, each second one a window
abbrev pub supers : ℕ → List ℕ
supers n =
    in_task_a ++ flat_map (λ i. script (codes "create s") ++ decimal i ++ script (codes " super front 0 0 7 3 8 4/open t")
    ++ decimal i ++ script (codes " super front 0 0 8 4 8 4 ''/")) (range_with_len 0 n)
