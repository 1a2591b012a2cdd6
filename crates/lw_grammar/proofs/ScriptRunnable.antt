-- An input that bytes spell may be run.
use Rattle.std.proofs.Common.{◌≡◌, ℕ, ◌<◌, ◌≤◌, ◌==◌, Bool, true, false, cond, nat_lt, List, [], length, IsTrue, All, refl, sym, subst, arith}
use Rattle.lw_calls.specs.declared.sizes.Sizes.{Sizes}
use Rattle.lw_calls.specs.Limits.{limits_of, call_fits}
use Rattle.lw_grammar.specs.Statements.{Statement}
use Rattle.lw_grammar.specs.Told.{told, plan_of}
use Rattle.lw_grammar.specs.Script.{Setting, are_assets_due, may_end, ScriptInput, input_from, SpellsInput}
use Rattle.lw_grammar.specs.Laws.{IsRunnableInput}
use Rattle.lw_grammar.specs.GoodLines.{AreGoodLines}
use Rattle.lw_grammar.proofs.ScriptOutcome.{rows_in_assets, of_lines}
use Rattle.lw_grammar.proofs.ScriptSizes.{counted, has_screen, when, sized, begun_tasks, whole_ends, all_glyphs, none_due, bitmaps_made, bitmaps_named, order_small}
use Rattle.lw_grammar.proofs.ScriptTasks.{view_of, IsTaskFit, HaveBegun, TasksAre, tasks_fit, calls_listed, groups_listed, zip_at, zip_first, every_task, nothing_fits}
use Rattle.std.proofs.lemmas.Bool.{eqb-true, ltb-true}

-- no rows are due where no bitmap may stand
pub rows_done : (s : Setting) (above : List Statement) → AreGoodLines s above → are_assets_due (told above).section ≡ false → (told above).rows_due ≡ 0
rows_done s above g e = go ((told above).rows_due == 0) refl
  where
    go : (t : Bool) → ((told above).rows_due == 0) ≡ t → (told above).rows_due ≡ 0
    go true d = eqb-true _ 0 d
    go false d = let due = rows_in_assets s above g d in absurd (cc)

-- The plan of good lines below which an input may end may be run.
pub runs_from_good : (s : Setting) (above : List Statement) (place : ℕ) → AreGoodLines s above → may_end s.form (told above).section ≡ true → IsRunnableInput s (input_from s (told above) place)
runs_from_good s above place g e =
    let ends = whole_ends s.form above e in
    let counts = counted s above g in
    let size = when (has_screen (told above).section) _ ends.screen (sized s above g) in
    let P : Bool → Type 0 = λ b. cond b (nat_lt 0 (length (told above).tasks)) (length (told above).tasks == 0) ≡ true in
    let some : 0 < length (told above).tasks = ltb-true _ _ (subst P ends.begun (begun_tasks s above g)) in
    let z : Sizes = (plan_of s.hooks (told above)).sizes in
    let Q : Bool → Type 0 = λ b. TasksAre b z (view_of above) in
    let begun : HaveBegun z (view_of above) = subst Q ends.begun (tasks_fit z s above g refl refl (omega arith) (omega arith)).tasks in
    let fits = every_task z (view_of above) begun in
    record {
      plan = record {
        limits = record {
          some_version = size.some_version;
          version = omega (arith, size.small_version);
          some_columns = size.sizes.columns.0;
          columns = size.sizes.columns.1;
          some_rows = size.sizes.rows.0;
          rows = size.sizes.rows.1;
          some_planes = size.sizes.planes.0;
          planes = size.sizes.planes.1;
          slots = counts.names;
          some_task = omega arith;
          tasks = counts.tasks;
          bitmaps = counts.bitmaps;
        };
        slots = refl;
        tasks = refl;
        bitmaps = refl;
        lists = calls_listed above;
        group_lists = groups_listed above;
        supplied = bitmaps_named above [];
        assets = record {
          glyphs = refl;
          rows = all_glyphs s above g;
          bitmaps = bitmaps_made s above g [] (none_due above (rows_done s above g ends.assets));
        };
        few = zip_first (IsTaskFit z) (λ calls. length calls ≤ (limits_of z.version).calls) _ _ (λ calls groups h. h.few) fits;
        fit = zip_first (IsTaskFit z) (λ calls. All (λ c. IsTrue (call_fits z c)) calls) _ _ (λ calls groups h. h.fit) fits;
        groups = λ task. (zip_at (IsTaskFit z) _ _ [] [] fits (nothing_fits z) task).grouped;
      };
      hooks = refl;
      order = order_small s above g;
    }

-- Every input that bytes spell may be run.
pub spelled_runnable : (s : Setting) (bytes : List ℕ) (input : ScriptInput) → SpellsInput s bytes input → IsRunnableInput s input
spelled_runnable s bytes input k =
    let l = of_lines s bytes input k in
    subst (λ (p : ScriptInput). IsRunnableInput s p) (sym l.is) (runs_from_good s l.reached.statements _ l.read.good l.read.ended)
