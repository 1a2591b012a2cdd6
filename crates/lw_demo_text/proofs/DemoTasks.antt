-- The lines of a demo's script, task by task, tell the demo's plan.
use Rattle.std.proofs.Common.{◌≡◌, ℕ, zero, suc, ◌+◌, ◌-◌, ◌*◌, ◌/◌, ◌%◌, ◌<◌, ◌≤◌, ◌==◌, Bool, true, false, ◌||◌, List, [], ◌∷◌, ◌++◌, length, map, pos, replicate, refl, sym, ap, subst, ◌∙◌, arith, append_assoc, append-nil, length-append}
use Rattle.std.specs.Prelude.{if◌then◌else◌}
use Rattle.std.specs.List.{flat_map, range_with_len}
use Rattle.std.specs.Fmt.{digits, signed_decimal}
use Rattle.lw_region.specs.Rectangle.{within}
use Rattle.lw_calls.specs.declared.make.Kind.TheVariants.{Simple, Smart}
use Rattle.lw_calls.specs.declared.call.Call.{Call}
use Rattle.lw_calls.specs.declared.call.Call.TheVariants.{Create, ToFront}
use Rattle.lw_calls.specs.declared.group.Group.{Group}
use Rattle.lw_grammar.specs.declared.verb.PartVerb.TheVariants.{Screen as ScreenVerb, Task as TaskVerb, End as EndVerb}
use Rattle.lw_grammar.specs.declared.verb.Verb.TheVariants.{Part}
use Rattle.lw_grammar.specs.Verbs.{verb_of}
use Rattle.lw_grammar.specs.declared.verb.BareVerb.TheVariants.{Front as FrontVerb}
use Rattle.lw_grammar.specs.declared.verb.NumberVerb.TheVariants.{APen as APenVerb}
use Rattle.lw_grammar.specs.declared.verb.PairVerb.TheVariants.{Read as ReadVerb}
use Rattle.lw_grammar.specs.Statements.{Act, BareAct, NumberAct, PairAct, FillAct, ScreenLine, TaskLine, EndLine, line_by, rectangle}
use Rattle.lw_grammar.specs.Told.{Section, AssetsAreDue, CallsAreDue, TasksAreDue, Told, nothing_told, spelled_call, plan_of}
use Rattle.lw_grammar.specs.Script.{are_assets_due, are_tasks_due, are_numbers_due, is_nothing_due}
use Rattle.lw_grammar.proofs.ScriptTasks.{onto_pushed}
use Rattle.lw_gen.specs.Generator.{stirred, picked, fill_after, pen_after, read_after, call_after, calls_from}
use Rattle.lw_gen.specs.Demo.{task_name, layer_names, layer_between, creations, demo_calls, demo_plan}
use Rattle.lw_gen.proofs.Plans.{picked_below, band_inside}
use Rattle.lw_demo_text.specs.DemoText.{DemoTextsReadBack}
use Rattle.lw_canonical.proofs.PlainWords.{is_plain}
use Rattle.lw_demo_text.proofs.DemoNames.{layer_name, of_tasks, tasks_named, one_named, two_named, layers_named, IsNamed, new_task, new_layers, known_layer}
use Rattle.lw_demo_text.proofs.ReadOn.{alone, IsReached, nothing_reached, line_more, plan_reads_back}
use Rattle.lw_canonical.proofs.ReadsForward.{line_reads}
use Rattle.lw_demo_text.proofs.DemoLines.{in_demo, tests_pass, few_in_demo, IsReadable, call_more}
use Rattle.lw_demo_text.proofs.DemoCalls.{creation_between, created_between, front_readable, pen_readable, read_readable, fill_readable, simple_readable, smart_readable}
use Rattle.std.proofs.lemmas.Bool.{and_from}
use Rattle.std.proofs.lemmas.Nat.{le-div}
use Rattle.std.proofs.lemmas.List.{map-id}
use Rattle.std.proofs.lemmas.List.Concat.{flat_map-append}
use Rattle.std.proofs.lemmas.List.FromFn.{map-range_with_len_more}

-- A task's calls below its line, where the tasks down to it have these names, and those above it these calls and groups.
module _ (tasks : List (List ℕ)) (few_tasks : length tasks ≤ 16) (calls : List (List Call)) (groups : List (List Group)) where
  abbrev told_after : List (List ℕ) → ℕ → List Call → Told
  told_after names n done = in_demo CallsAreDue tasks names n (calls ++ done ∷ []) groups

  -- one call more on a layer that is named
  one_more : (old new : List (List ℕ)) (l : List ℕ) (slot n : ℕ) (done : List Call) (act : Act) (c : Call) → n < 4096 → IsNamed old new l slot → IsReadable l act → spelled_call [] act (slot ∷ []) ≡ c → IsReached (told_after old n done) → IsReached (told_after new (n + 1) (done ++ c ∷ []))
  one_more old new l slot n done act c more named r is reached =
      subst (λ all. IsReached (in_demo CallsAreDue tasks new (n + 1) all groups)) (onto_pushed c calls done) (call_more tasks old new l slot n (calls ++ done ∷ []) groups act c few_tasks more named r is reached)

  -- a layer more, of each kind
  simple_more : (old new : List (List ℕ)) (l : List ℕ) (slot n x0 y0 x1 y1 : ℕ) (done : List Call) → n < 4096 → IsNamed old new l slot → x0 ≤ x1 → x1 < 1000 → y0 ≤ y1 → y1 < 1000 → IsReached (told_after old n done) → IsReached (told_after new (n + 1) (done ++ Create slot (layer_between Simple x0 y0 x1 y1) ∷ []))
  simple_more old new l slot n x0 y0 x1 y1 done more named wide right high lower reached =
      one_more old new l slot n done (creation_between Simple x0 y0 x1 y1) (Create slot (layer_between Simple x0 y0 x1 y1)) more named (simple_readable l named.plain named.name x0 y0 x1 y1 wide right high lower) (created_between Simple x0 y0 x1 y1 slot wide high) reached

  smart_more : (old new : List (List ℕ)) (l : List ℕ) (slot n x0 y0 x1 y1 : ℕ) (done : List Call) → n < 4096 → IsNamed old new l slot → x0 ≤ x1 → x1 < 1000 → y0 ≤ y1 → y1 < 1000 → IsReached (told_after old n done) → IsReached (told_after new (n + 1) (done ++ Create slot (layer_between Smart x0 y0 x1 y1) ∷ []))
  smart_more old new l slot n x0 y0 x1 y1 done more named wide right high lower reached =
      one_more old new l slot n done (creation_between Smart x0 y0 x1 y1) (Create slot (layer_between Smart x0 y0 x1 y1)) more named (smart_readable l named.plain named.name x0 y0 x1 y1 wide right high lower) (created_between Smart x0 y0 x1 y1 slot wide high) reached

  module _ (task : ℕ) (low : task < 16) where
    abbrev names : List (List ℕ)
    names = layers_named (suc task)

    -- a task's three layers are created
    created_more : (left right : ℕ) → left + 16 ≤ right → right < 640 → IsReached (told_after (layers_named task) 0 []) → IsReached (told_after names 3 (creations (3 * task) left right))
    created_more left right wide inside reached =
        let new = new_layers task low in
        let none = layers_named task in
        let back = simple_more none (one_named task none) (layer_name task 0) (3 * task) 0 left 0 right 127 [] (omega arith) new.back (omega (arith, wide)) (omega (arith, inside)) (omega arith) (omega arith) reached in
        let middle = smart_more (one_named task none) (two_named task none) (layer_name task 1) (3 * task + 1) 1 (left + 8) 32 right 200 _ (omega arith) new.middle (omega (arith, wide)) (omega (arith, inside)) (omega arith) (omega arith) back in
        smart_more (two_named task none) names (layer_name task 2) (3 * task + 2) 2 left 64 (right - 8) 255 _ (omega arith) new.front (omega (arith, wide)) (omega (arith, inside)) (omega arith) (omega arith) middle

    module _ (columns : ℕ) (some : 0 < columns) (few : columns ≤ 640) where
      -- a call that is drawn
      chosen_more : (a b c : Bool) (layer n x : ℕ) (done : List Call) → layer < 3 → n < 4096 → IsReached (told_after names n done) → IsReached (told_after names (n + 1) (done ++ (if a then fill_after (3 * task + layer) columns x else (if b then pen_after (3 * task + layer) x else (if c then (ToFront (3 * task + layer), x) else read_after (3 * task + layer) columns x))).0 ∷ []))
      chosen_more true b c layer n x done small more reached =
          let named = known_layer task layer low small in
          let left = picked_below columns (stirred x) some in
          let upper = picked_below 192 (stirred (stirred x)) (omega arith) in
          let right = picked_below 16 (stirred (stirred (stirred x))) (omega arith) in
          let lower = picked_below 16 (stirred (stirred (stirred (stirred x)))) (omega arith) in
          let x0 = picked columns (stirred x) in
          let y0 = picked 192 (stirred (stirred x)) in
          let x1 = x0 + picked 16 (stirred (stirred (stirred x))) in
          let y1 = y0 + picked 16 (stirred (stirred (stirred (stirred x)))) in
          one_more names names (layer_name task layer) (3 * task + layer) n done (FillAct (rectangle (pos x0) (pos y0) (pos x1) (pos y1))) _ more named (fill_readable (layer_name task layer) named.plain named.name x0 y0 x1 y1 (omega arith) (omega (arith, left, few, right)) (omega arith) (omega (arith, upper, lower))) refl reached
      chosen_more false true c layer n x done small more reached =
          let named = known_layer task layer low small in
          one_more names names (layer_name task layer) (3 * task + layer) n done (NumberAct APenVerb (pos (picked 4 (stirred x)))) _ more named (pen_readable (layer_name task layer) named.plain named.name (picked 4 (stirred x)) (picked_below 4 (stirred x) (omega arith))) refl reached
      chosen_more false false true layer n x done small more reached =
          let named = known_layer task layer low small in
          one_more names names (layer_name task layer) (3 * task + layer) n done (BareAct FrontVerb) _ more named (front_readable (layer_name task layer) named.plain named.name) refl reached
      chosen_more false false false layer n x done small more reached =
          let named = known_layer task layer low small in
          let column = picked_below columns (stirred x) some in
          let row = picked_below 192 (stirred (stirred x)) (omega arith) in
          one_more names names (layer_name task layer) (3 * task + layer) n done (PairAct ReadVerb (pos (picked columns (stirred x))) (pos (picked 192 (stirred (stirred x))))) _ more named (read_readable (layer_name task layer) named.plain named.name (picked columns (stirred x)) (picked 192 (stirred (stirred x))) (omega (arith, column, few)) (omega (arith, row))) refl reached

      -- all that are drawn
      drawn_more : (count n x : ℕ) (done : List Call) → n + count ≤ 4096 → IsReached (told_after names n done) → IsReached (told_after names (n + count) (done ++ calls_from count (3 * task) columns x))
      drawn_more zero n x done long reached =
          let e : n ≡ n + 0 = omega arith in
          let same = sym (append-nil done) in
          subst IsReached (λ i. told_after names (e i) (same i)) reached
      drawn_more (suc count) n x done long reached =
          let next = call_after (3 * task) columns x in
          let layer = picked 3 (stirred x) in
          let choice : ℕ = picked 4 (stirred (stirred x)) in
          let one = chosen_more (choice == 0) (choice == 1) (choice == 2) layer n (stirred (stirred x)) done (picked_below 3 (stirred x) (omega arith)) (omega (arith, long)) reached in
          let e : (n + 1) + count ≡ n + suc count = omega arith in
          let same = append_assoc done (next.0 ∷ []) (calls_from count (3 * task) columns next.1) in
          subst IsReached (λ i. told_after names (e i) (same i)) (drawn_more count (n + 1) next.1 (done ++ next.0 ∷ []) (omega (arith, long)) one)

many_layers : (n : ℕ) → length (layers_named n) ≡ 3 * n
many_layers zero = refl
many_layers (suc n) =
    let a = length-append (layers_named n) (layer_name n 0 ∷ []) in
    let b = length-append (one_named n (layers_named n)) (layer_name n 1 ∷ []) in
    let c = length-append (two_named n (layers_named n)) (layer_name n 2 ∷ []) in
    let rest = many_layers n in
    omega (arith, a, b, c, rest)

many_tasks : (n : ℕ) → length (tasks_named n) ≡ n
many_tasks zero = refl
many_tasks (suc n) =
    let a = length-append (tasks_named n) (task_name n ∷ []) in
    let rest = many_tasks n in
    omega (arith, a, rest)

-- a task's first line and its last one
begun : (section : Section) (k n : ℕ) (calls : List (List Call)) (groups : List (List Group)) → k < 16 → are_numbers_due section ≡ false → is_nothing_due section ≡ false → (are_assets_due section || are_tasks_due section) ≡ true → IsReached (in_demo section (tasks_named k) (layers_named k) n calls groups) → IsReached (in_demo CallsAreDue (tasks_named (suc k)) (layers_named k) 0 (calls ++ [] ∷ []) (groups ++ [] ∷ []))
unfolding verb_of
begun section k n calls groups low numbers due belongs reached =
    let t = in_demo section (tasks_named k) (layers_named k) n calls groups in
    let u = in_demo CallsAreDue (tasks_named (suc k)) (layers_named k) 0 (calls ++ [] ∷ []) (groups ++ [] ∷ []) in
    let f = TaskLine (task_name k) in
    let new = new_task k low in
    let few = few_in_demo CallsAreDue (tasks_named (suc k)) (layers_named k) 0 (calls ++ [] ∷ []) (groups ++ [] ∷ []) (let m = many_tasks (suc k) in omega (arith, m, low)) (let m = many_layers k in omega (arith, m, low)) (omega arith) in
    line_more t u f reached (line_reads alone t f (Part TaskVerb) (task_name k ∷ []) refl (and_from (is_plain (task_name k)) true new.plain refl) (omega arith) refl refl (λ i. line_by (Part TaskVerb) (new.name i ∷ [])) refl numbers belongs (tests_pass t f refl refl refl new.new refl few refl refl)) refl due refl

ended : (k n : ℕ) (calls : List (List Call)) (groups : List (List Group)) → k ≤ 16 → n ≤ 4096 → IsReached (in_demo CallsAreDue (tasks_named k) (layers_named k) n calls groups) → IsReached (in_demo TasksAreDue (tasks_named k) (layers_named k) n calls groups)
unfolding verb_of
ended k n calls groups low long reached =
    let t = in_demo CallsAreDue (tasks_named k) (layers_named k) n calls groups in
    let few = few_in_demo TasksAreDue (tasks_named k) (layers_named k) n calls groups (let m = many_tasks k in omega (arith, m, low)) (let m = many_layers k in omega (arith, m, low)) long in
    line_more t (in_demo TasksAreDue (tasks_named k) (layers_named k) n calls groups) EndLine reached (line_reads alone t EndLine (Part EndVerb) [] refl refl (omega arith) refl refl refl refl refl refl (tests_pass t EndLine refl refl refl refl refl few refl refl)) refl refl refl

-- What the lines of so many tasks of a demo tell.
module _ (number tasks : ℕ) (few : tasks ≤ 16) where
  abbrev section_after : ℕ → Section
  section_after zero = AssetsAreDue
  section_after (suc k) = TasksAreDue

  abbrev calls_in_last : ℕ → ℕ
  calls_in_last zero = 0
  calls_in_last (suc k) = 500

  abbrev calls_of : ℕ → List (List Call)
  calls_of k = of_tasks (demo_calls number tasks) k

  abbrev groups_of : ℕ → List (List Group)
  groups_of k = of_tasks (λ task. []) k

  abbrev told_by : ℕ → Told
  told_by k = in_demo (section_after k) (tasks_named k) (layers_named k) (calls_in_last k) (calls_of k) (groups_of k)

  -- a task more
  task_more : (k : ℕ) → k < tasks → IsReached (in_demo CallsAreDue (tasks_named (suc k)) (layers_named k) 0 (calls_of k ++ [] ∷ []) (groups_of (suc k))) → IsReached (told_by (suc k))
  task_more k low reached =
      let columns = 640 / tasks in
      let wide : 40 ≤ columns = le-div 40 640 tasks (omega (arith, low)) (omega (arith, few)) in
      let inside = band_inside tasks k low in
      let left = k * columns in
      let right = (k * columns + columns) - 1 in
      let names_few : length (tasks_named (suc k)) ≤ 16 = let m = many_tasks (suc k) in omega (arith, m, low, few) in
      let made = created_more (tasks_named (suc k)) names_few (calls_of k) (groups_of (suc k)) k (omega (arith, low, few)) left right (omega (arith, wide)) (omega (arith, wide, inside)) reached in
      let drawn = drawn_more (tasks_named (suc k)) names_few (calls_of k) (groups_of (suc k)) k (omega (arith, low, few)) columns (omega (arith, wide)) (omega (arith, inside)) 497 3 ((number + k) % 2147483648) (creations (3 * k) left right) (omega arith) made in
      ended (suc k) 500 (calls_of (suc k)) (groups_of (suc k)) (omega (arith, low, few)) (omega arith) drawn

  all_tasks : (k : ℕ) → k ≤ tasks → IsReached (told_by zero) → IsReached (told_by k)
  all_tasks zero low reached = reached
  all_tasks (suc zero) low reached = task_more 0 (omega (arith, low)) (begun AssetsAreDue 0 0 [] [] (omega arith) refl refl refl reached)
  all_tasks (suc (suc k)) low reached =
      task_more (suc k) (omega (arith, low)) (begun TasksAreDue (suc k) 500 (calls_of (suc k)) (groups_of (suc k)) (omega (arith, low, few)) refl refl refl (all_tasks (suc k) (omega (arith, low)) reached))

  -- the screen
  screen_read : IsReached (told_by zero)
  unfolding digits within verb_of
  screen_read =
      let f = ScreenLine (pos 640) (pos 256) (pos 2) in
      line_more nothing_told (told_by zero) f nothing_reached (line_reads alone nothing_told f (Part ScreenVerb) (signed_decimal (pos 640) ∷ signed_decimal (pos 256) ∷ signed_decimal (pos 2) ∷ []) refl refl (omega arith) refl refl refl refl refl refl (tests_pass nothing_told f refl refl refl refl refl refl refl refl)) refl refl refl

-- what tasks have, as the plan has it
of_all : {A : Type 0} (f : ℕ → A) (n : ℕ) → of_tasks f n ≡ map f (range_with_len 0 n)
of_all f zero = refl
of_all f (suc n) =
    let next : n + 1 ≡ suc n = omega arith in
    ap (λ l. l ++ f n ∷ []) (of_all f n) ∙ (sym (map-range_with_len_more f 0 n n (omega arith)) ∙ ap (λ k. map f (range_with_len 0 k)) next)

all_layers : (n : ℕ) → layers_named n ≡ flat_map layer_names (range_with_len 0 n)
all_layers zero = refl
all_layers (suc n) =
    let numbers : of_tasks (λ m. m) (suc n) ≡ range_with_len 0 (suc n) = of_all (λ m. m) (suc n) ∙ map-id (range_with_len 0 (suc n)) in
    let before : of_tasks (λ m. m) n ≡ range_with_len 0 n = of_all (λ m. m) n ∙ map-id (range_with_len 0 n) in
    let three : layers_named (suc n) ≡ layers_named n ++ layer_names n =
    append_assoc (one_named n (layers_named n)) (layer_name n 1 ∷ []) (layer_name n 2 ∷ []) ∙ append_assoc (layers_named n) (layer_name n 0 ∷ []) (layer_name n 1 ∷ layer_name n 2 ∷ []) in
    three
    ∙ (ap (λ l. l ++ layer_names n) (all_layers n)
    ∙ (sym (flat_map-append layer_names (range_with_len 0 n) (n ∷ []))
    ∙ ap (flat_map layer_names) (ap (λ l. l ++ n ∷ []) (sym before) ∙ numbers)))

-- The plan that they tell is the demo's.
plan_is : (number tasks : ℕ) (few : tasks ≤ 16) → plan_of 0 (told_by number tasks few tasks) ≡ demo_plan number tasks
plan_is number tasks few =
    let slots = many_layers tasks in
    let count = many_tasks tasks in
    let layers = all_layers tasks in
    let names = of_all task_name tasks in
    let calls = of_all (demo_calls number tasks) tasks in
    let groups : of_tasks (λ task. []) tasks ≡ map (λ task. []) (range_with_len 0 tasks) = of_all {A = List Group} (λ task. []) tasks in
    λ i. record {
      sizes = record { version = 1; width = 640; height = 256; depth = 2; slots = slots i; tasks = count i; hooks = 0; bitmaps = 0 };
      slot_names = layers i;
      task_names = names i;
      bitmap_names = [];
      calls = calls i;
      groups = groups i;
      pairs = [];
      assets = record { glyphs = replicate 95 (replicate 8 0); bitmaps = [] };
    }

pub demo_texts_read_back : DemoTextsReadBack
demo_texts_read_back number zero some few = absurd (omega (arith, some))
demo_texts_read_back number (suc k) some few =
    plan_reads_back (told_by number (suc k) few (suc k)) (demo_plan number (suc k)) (all_tasks number (suc k) few (suc k) (omega arith) (screen_read number (suc k) few)) refl (plan_is number (suc k) few)
