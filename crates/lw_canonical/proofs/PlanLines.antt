-- The lines of the plan that good lines spell are these lines in the order of the canonical text.
use Rattle.std.proofs.Common.{◌≡◌, ℕ, ◌+◌, ◌==◌, Bool, true, false, List, [], ◌∷◌, ◌++◌, length, map, cond, flat_map, filter, reverse, slice_index_or, refl, sym, ap, ap₂, ◌∙◌, arith, append_assoc}
use Rattle.std.specs.List.{range_with_len}
use Rattle.lw_calls.specs.declared.call.Call.{Call}
use Rattle.lw_calls.specs.declared.group.Group.{Group}
use Rattle.lw_calls.specs.Plan.{Plan, task_calls, task_groups}
use Rattle.lw_grammar.specs.Statements.{Statement, LayersLine, TaskLine, EndLine, Line, StatementLine}
use Rattle.lw_grammar.specs.Told.{NamedPair, told, plan_of, pair_among}
use Rattle.lw_grammar.specs.Script.{Setting, may_end}
use Rattle.lw_grammar.specs.GoodLines.{AreGoodLines}
use Rattle.lw_canonical.specs.Canonical.{lines_of_task, lines_of_glyph, lines_of_version, first_lines_of_plan, lines_of_plan}
use Rattle.lw_canonical.proofs.Rearranged.{is_of_bitmaps, is_task_line, as_lines, stated, glyphs_in_order, screen_line_of, base_of, arranged_lines, AreLinesWritten}
use Rattle.lw_grammar.proofs.ScriptSizes.{whole_ends}
use Rattle.lw_grammar.proofs.ScriptTasks.{calls_listed, groups_listed}
use Rattle.lw_canonical.proofs.ByNumber.{gathered_same, gathered_next, gathered_made, found_itself}
use Rattle.lw_grammar.proofs.ScriptRunnable.{rows_done}
use Rattle.lw_canonical.proofs.BitmapLines.{bitmaps_given}
use Rattle.lw_canonical.proofs.FreeCalls.{AreFoundPairs}
use Rattle.lw_canonical.proofs.FreeLines.{all_free}
use Rattle.lw_canonical.proofs.PairsFound.{pairs_named, found_pairs}
use Rattle.lw_canonical.proofs.GroupLines.{lines_from_woven}
use Rattle.lw_canonical.proofs.TaskLines.{task_lines, all_task_lines, AreUnder, tasks_closed}
use Rattle.std.proofs.lemmas.List.{map_push, reverse-append, reverse-reverse}
use Rattle.std.proofs.lemmas.Grind.{reverse_onto}

-- The lines of the plan's glyphs.
plan_glyphs : (hooks : ℕ) (above : List Statement) → flat_map (λ i. lines_of_glyph (32 + i) (slice_index_or (plan_of hooks (told above)).assets.glyphs i [])) (range_with_len 0 95) ≡ glyphs_in_order above
plan_glyphs hooks above = gathered_made (λ i rows. lines_of_glyph (32 + i) rows) (λ i. (told above).glyphs (32 + i)) [] 95

-- The lines of a plan's tasks, whose windows of two layers are these.
module _ (p : Plan) (pairs : List NamedPair) (mapped : map (pair_among p.slot_names) pairs ≡ p.pairs) (found : AreFoundPairs p.slot_names pairs) where
  -- those of one task
  abbrev one_task : List ℕ → List Call → List Group → List Line
  one_task name calls groups = task_lines p pairs mapped found name calls groups

  abbrev all_tasks : List (List ℕ) → List (List Call) → List (List Group) → List Line
  all_tasks ns css gss = all_task_lines p pairs mapped found ns css gss

  -- the lines of tasks by number are those of their names, calls and groups
  tasks_by_number : (ns : List (List ℕ)) (css : List (List Call)) (gss : List (List Group)) → length css ≡ length ns → length gss ≡ length ns → flat_map (λ t. one_task (slice_index_or ns t []) (slice_index_or css t []) (slice_index_or gss t [])) (range_with_len 0 (length ns)) ≡ all_tasks ns css gss
  tasks_by_number [] css gss h k = refl
  tasks_by_number (n ∷ ns) [] gss h k = absurd (omega arith)
  tasks_by_number (n ∷ ns) (cs ∷ css) [] h k = absurd (omega arith)
  tasks_by_number (n ∷ ns) (cs ∷ css) (gs ∷ gss) h k =
      ap (λ (t : List Line). one_task n cs gs ++ t) (gathered_next (λ t. one_task (slice_index_or (n ∷ ns) t []) (slice_index_or (cs ∷ css) t []) (slice_index_or (gs ∷ gss) t [])) 0 (length ns) ∙ tasks_by_number ns css gss (omega arith) (omega arith))

  -- the lines of a plan's task
  lines_of_one : (t : ℕ) → lines_of_task p t ≡ one_task (slice_index_or p.task_names t []) (task_calls p t) (task_groups p t)
  lines_of_one t =
      ap (λ (ls : List Line). StatementLine (TaskLine (slice_index_or p.task_names t [])) ∷ ls ++ StatementLine EndLine ∷ []) (lines_from_woven p (task_calls p t) (task_groups p t) 0 (task_calls p t))

-- The lines of the plan's tasks.
pub plan_tasks : (s : Setting) (ls : List Line) → AreGoodLines s (stated ls) → AreLinesWritten s ls → may_end s.form (told (stated ls)).section ≡ true → flat_map (lines_of_task (plan_of s.hooks (told (stated ls)))) (range_with_len 0 (length (told (stated ls)).tasks)) ≡ reverse (filter is_task_line ls)
plan_tasks s ls g written w =
    let above : List Statement = stated ls in
    let names : List (List ℕ) = (told above).names in
    let bitmaps : List (List ℕ) = (told above).bitmap_names in
    let pairs : List NamedPair = (told above).pairs in
    let p : Plan = plan_of s.hooks (told above) in
    let found : AreFoundPairs names pairs = found_pairs names pairs (pairs_named s ls written) in
    let under : AreUnder p pairs refl found s ls = record { good = g; written = written; placed = λ n e. (e, refl); stored = found_itself bitmaps; among = λ q k. k; free = all_free s ls written } in
    gathered_same (lines_of_task p) (λ t. one_task p pairs refl found (slice_index_or (told above).tasks t []) (slice_index_or (told above).calls t []) (slice_index_or (told above).groups t [])) 0 (length (told above).tasks) (λ t low high. lines_of_one p pairs refl found t) ∙
    tasks_by_number p pairs refl found (told above).tasks (told above).calls (told above).groups (calls_listed above) (groups_listed above) ∙
    sym (tasks_closed p pairs refl found s ls under (whole_ends s.form above w).calls)

-- a version has one line or none
version_turned : (version : ℕ) → reverse (lines_of_version version) ≡ lines_of_version version
version_turned version = step (version == 2)
  where
    step : (t : Bool) → (let list : List Statement = cond t (LayersLine ∷ []) [] in reverse list ≡ list)
    step true = refl
    step false = refl

-- the plan's lines above its tasks
turned : (bitmaps glyphs first : List Statement) (screen : Statement) → reverse first ≡ first → first ++ screen ∷ glyphs ++ reverse bitmaps ≡ reverse (bitmaps ++ (reverse glyphs ++ screen ∷ first))
turned bitmaps glyphs first screen same =
    let two : reverse (screen ∷ first) ≡ first ++ screen ∷ [] = reverse_onto first screen [] ∙ ap (λ (t : List Statement). t ++ screen ∷ []) same in
    let base : reverse (reverse glyphs ++ screen ∷ first) ≡ first ++ screen ∷ glyphs = reverse-append (reverse glyphs) (screen ∷ first) ∙ ap₂ (λ (x y : List Statement). x ++ y) two (reverse-reverse glyphs) ∙ append_assoc first (screen ∷ []) glyphs in
    sym (reverse-append bitmaps (reverse glyphs ++ screen ∷ first) ∙ ap (λ (t : List Statement). t ++ reverse bitmaps) base)

plan_base : (s : Setting) (above : List Statement) → AreGoodLines s above → may_end s.form (told above).section ≡ true → first_lines_of_plan (plan_of s.hooks (told above)) ≡ reverse (base_of above)
plan_base s above g w =
    let first : List Statement = lines_of_version (told above).version in
    let screen : Statement = screen_line_of above in
    let bitmaps = bitmaps_given s above g (rows_done s above g (whole_ends s.form above w).assets) in
    ap₂ (λ (x y : List Statement). first ++ screen ∷ x ++ y) (plan_glyphs s.hooks above) bitmaps ∙
    turned (filter is_of_bitmaps above) (glyphs_in_order above) first screen (version_turned (told above).version)

-- as lines
lines_turned : (fs : List Statement) → map (λ f. StatementLine f) (reverse fs) ≡ reverse (as_lines fs)
lines_turned [] = refl
lines_turned (f ∷ fs) =
    ap (map (λ f. StatementLine f)) (reverse_onto fs f []) ∙ (map_push (λ f. StatementLine f) (reverse fs) f ∙ (ap (λ (ls : List Line). ls ++ StatementLine f ∷ []) (lines_turned fs) ∙ sym (reverse_onto (as_lines fs) (StatementLine f) [])))

-- The lines of the plan of good lines are these lines in the order of the canonical text.
pub plan_lines : (s : Setting) (ls : List Line) → AreGoodLines s (stated ls) → AreLinesWritten s ls → may_end s.form (told (stated ls)).section ≡ true → lines_of_plan (plan_of s.hooks (told (stated ls))) ≡ reverse (arranged_lines ls)
plan_lines s ls g written w =
    let base : List Statement = base_of (stated ls) in
    ap₂ (λ (x y : List Line). x ++ y) (ap (map (λ f. StatementLine f)) (plan_base s (stated ls) g w) ∙ lines_turned base) (plan_tasks s ls g written w) ∙
    sym (reverse-append (filter is_task_line ls) (as_lines base))
