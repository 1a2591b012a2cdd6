-- What a demo writes.
use Rattle.std.specs.Prelude.{ℕ, ◌*◌, ◌==◌, List, [], ◌++◌, codes}
use Rattle.std.specs.List.{count_by, flat_map, range_with_len, sum_by}
use Rattle.lw_planes.specs.Bitmap.{Bitmap}
use Rattle.lw_calls.specs.Written.{line_of, spaced}
use Rattle.lw_machine.specs.Finals.{run_final}
use Rattle.lw_gen.specs.Demo.{demo_plan}
use Rattle.lw_apart.specs.InTurn.{in_turn}

-- how many pixels of a bitmap have this pen
abbrev pub pixels_with : Bitmap → ℕ → ℕ
pixels_with screen pen = sum_by (λ row. count_by (λ p. p == pen) row) screen.rows

-- the line on a pen: its number, and how many pixels have it
abbrev pub pen_line : Bitmap → ℕ → List ℕ
pen_line screen pen = line_of (codes "pen" ++ spaced pen ++ spaced (pixels_with screen pen))

-- The six lines of a demo that leaves this screen: the demo's number and its number of tasks, how many calls these make, and a
-- line on each of the four pens.
abbrev pub demo_lines : ℕ → ℕ → Bitmap → List ℕ
demo_lines number tasks screen =
    line_of (codes "demo" ++ spaced number ++ spaced tasks) ++ line_of (codes "calls" ++ spaced (500 * tasks))
    ++ flat_map (pen_line screen) (range_with_len 0 4)

-- What a demo writes, whatever the order of its run: the six lines of the machine's screen after the order in which each task
-- comes after the one before it.
unfoldable pub demo_text : ℕ → ℕ → List ℕ
demo_text number tasks = demo_lines number tasks (run_final (demo_plan number tasks) [] (in_turn (demo_plan number tasks))).planes
