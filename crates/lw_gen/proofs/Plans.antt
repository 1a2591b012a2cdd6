-- The plan of a demo may be run.
use Rattle.std.proofs.Common.{◌≡◌, ℕ, zero, suc, ◌+◌, ◌-◌, ◌*◌, ◌/◌, ◌%◌, ◌<◌, ◌≤◌, ◌==◌, Bool, true, false, List, [], ◌∷◌, ◌++◌}
use Rattle.std.proofs.Common.{length, map, pos, negsuc, None, replicate, All, IsTrue, slice_index_or, refl, sym, ap, subst, arith}
use Rattle.std.specs.Prelude.{if◌then◌else◌}
use Rattle.std.specs.List.{flat_map, range_with_len}
use Rattle.std.proofs.lemmas.Bool.{and_from, lt-ltb, le-leb}
use Rattle.std.proofs.lemmas.Int.{ints}
use Rattle.std.proofs.lemmas.Nat.{div-add-mod', mul-le, le-div}
use Rattle.std.proofs.lemmas.List.FromFn.{length-map-range_with_len, length-range_with_len, get_or-range_with_len}
use Rattle.std.proofs.lemmas.List.Elements.{All-nil, All-cons, All-append, All-map, All-from_get_or, All-replicate}
use Rattle.lw_region.specs.Rectangle.{within}
use Rattle.lw_planes.specs.Sizes.{IsPlanes}
use Rattle.lw_region.proofs.Within.{within_true}
use Rattle.lw_region.proofs.Columns.{le_true}
use Rattle.lw_calls.specs.declared.sizes.Sizes.{Sizes}
use Rattle.lw_calls.specs.declared.make.Kind.{Kind}
use Rattle.lw_calls.specs.declared.make.Kind.TheVariants.{Simple, Smart}
use Rattle.lw_calls.specs.declared.group.Group.{Group}
use Rattle.lw_calls.specs.declared.call.Call.{Call}
use Rattle.lw_calls.specs.declared.call.Call.TheVariants.{Create, ToFront}
use Rattle.lw_calls.specs.Limits.{is_coordinate, kind_fits, make_fits, axis_fits, call_fits}
use Rattle.lw_calls.specs.Plan.{task_calls, groups_fit}
use Rattle.lw_gen.specs.Generator.{stirred, picked, fill_after, pen_after, read_after, call_after, calls_from}
use Rattle.lw_gen.specs.Demo.{layer_names, layer_between, creations, band_calls, demo_calls, demo_plan}
use Rattle.lw_gen.specs.Laws.{DemosArePlans}

-- what is picked is below the number of answers
pub picked_below : (n x : ℕ) → 0 < n → picked n x < n
unfolding picked
picked_below n x some = omega (arith, some)

-- a task's band lies on the screen
pub band_inside : (tasks task : ℕ) → task < tasks → task * (640 / tasks) + 640 / tasks ≤ 640
band_inside tasks task few =
    let whole = div-add-mod' 640 tasks in
    let wide : (task + 1) * (640 / tasks) ≤ tasks * (640 / tasks) =
    mul-le (task + 1) (640 / tasks) tasks (640 / tasks) (omega (arith, few)) (omega arith) in
    omega (arith, whole, wide)

-- small numbers are coordinates and extents
coordinate : (n : ℕ) → n < 1000 → is_coordinate (pos n) ≡ true
coordinate n small = within_true (negsuc 32767) (pos n) (pos 32767) (omega (arith, ints)) (omega (arith, ints))

extent : (n : ℕ) → 1 ≤ n → n < 1000 → within (pos 1) (pos n) (pos 65536) ≡ true
extent n some small = within_true (pos 1) (pos n) (pos 65536) (omega (arith, ints)) (omega (arith, ints))

axis : (low more : ℕ) → low < 640 → more < 16 → axis_fits (pos low) (pos (low + more)) ≡ true
unfolding axis_fits
axis low more left few =
    and_from _ _ (and_from _ _ (coordinate low (omega (arith, left))) (coordinate (low + more) (omega (arith, left, few))))
    (le_true (pos low) (pos (low + more)) (omega (arith, ints)))

-- a call that is drawn fits, where its three slots do
module _ (s : Sizes) (first columns : ℕ) (slots : first + 2 < s.slots) (some : 0 < columns) (few : columns ≤ 640) where
  abbrev pub Fits : Call → Type 0
  Fits c = IsTrue (call_fits s c)

  fill_fits : (slot x : ℕ) → slot < s.slots → Fits (fill_after slot columns x).0
  fill_fits slot x low =
      let left = picked_below columns (stirred x) some in
      let upper = picked_below 192 (stirred (stirred x)) (omega arith) in
      let right = picked_below 16 (stirred (stirred (stirred x))) (omega arith) in
      let lower = picked_below 16 (stirred (stirred (stirred (stirred x)))) (omega arith) in
      and_from _ _ (lt-ltb slot s.slots low)
      (and_from _ _
      (axis (picked columns (stirred x)) (picked 16 (stirred (stirred (stirred x)))) (omega (arith, left, few)) right)
      (axis (picked 192 (stirred (stirred x))) (picked 16 (stirred (stirred (stirred (stirred x)))))
      (omega (arith, upper)) lower))

  pen_fits : (slot x : ℕ) → slot < s.slots → Fits (pen_after slot x).0
  pen_fits slot x low =
      let pen = picked_below 4 (stirred x) (omega arith) in
      and_from _ _ (lt-ltb slot s.slots low) (le-leb (picked 4 (stirred x)) 255 (omega (arith, pen)))

  read_fits : (slot x : ℕ) → slot < s.slots → Fits (read_after slot columns x).0
  read_fits slot x low =
      let column = picked_below columns (stirred x) some in
      let row = picked_below 192 (stirred (stirred x)) (omega arith) in
      and_from _ _ (lt-ltb slot s.slots low)
      (and_from _ _ (coordinate (picked columns (stirred x)) (omega (arith, column, few)))
      (coordinate (picked 192 (stirred (stirred x))) (omega (arith, row))))

  chosen_fits : (a b c : Bool) (slot x : ℕ) → slot < s.slots
      → Fits (if a then fill_after slot columns x
      else (if b then pen_after slot x else (if c then (ToFront slot, x) else read_after slot columns x))).0
  chosen_fits true b c slot x low = fill_fits slot x low
  chosen_fits false true c slot x low = pen_fits slot x low
  chosen_fits false false true slot x low = lt-ltb slot s.slots low
  chosen_fits false false false slot x low = read_fits slot x low

  drawn_fits : (x : ℕ) → Fits (call_after first columns x).0
  drawn_fits x =
      let layer = picked_below 3 (stirred x) (omega arith) in
      let choice : ℕ = picked 4 (stirred (stirred x)) in
      chosen_fits (choice == 0) (choice == 1) (choice == 2) (first + picked 3 (stirred x)) (stirred (stirred x))
      (omega (arith, layer, slots))

  drawn_fit : (count x : ℕ) → All Fits (calls_from count first columns x)
  drawn_fit zero x = All-nil Fits
  drawn_fit (suc count) x =
      All-cons Fits (call_after first columns x).0 (calls_from count first columns (call_after first columns x).1) (drawn_fits x)
      (drawn_fit count (call_after first columns x).1)

  -- a layer that is created fits, and so do a task's three
  between_fits : (kind : Kind) (x0 y0 x1 y1 : ℕ) → x0 ≤ x1 → x1 < 640 → y0 ≤ y1 → y1 < 256 → kind_fits kind None 0 0 ≡ true
      → make_fits s (layer_between kind x0 y0 x1 y1) ≡ true
  between_fits kind x0 y0 x1 y1 wide right high low ok =
      and_from _ _
      (and_from _ _ (and_from _ _ (coordinate x0 (omega (arith, wide, right))) (coordinate y0 (omega (arith, high, low))))
      (and_from _ _ (extent ((x1 + 1) - x0) (omega (arith, wide, right)) (omega (arith, wide, right)))
      (extent ((y1 + 1) - y0) (omega (arith, high, low)) (omega (arith, high, low)))))
      ok

  created_fit : (left right : ℕ) → left + 16 ≤ right → right < 640 → All Fits (creations first left right)
  created_fit left right wide low =
      let back = Create first (layer_between Simple left 0 right 127) in
      let middle = Create (first + 1) (layer_between Smart (left + 8) 32 right 200) in
      let front = Create (first + 2) (layer_between Smart left 64 (right - 8) 255) in
      All-cons Fits back (middle ∷ front ∷ [])
      (and_from _ _ (lt-ltb first s.slots (omega (arith, slots)))
      (between_fits Simple left 0 right 127 (omega (arith, wide)) low (omega arith) (omega arith) refl))
      (All-cons Fits middle (front ∷ [])
      (and_from _ _ (lt-ltb (first + 1) s.slots (omega (arith, slots)))
      (between_fits Smart (left + 8) 32 right 200 (omega (arith, wide)) low (omega arith) (omega arith) refl))
      (All-cons Fits front []
      (and_from _ _ (lt-ltb (first + 2) s.slots slots)
      (between_fits Smart left 64 (right - 8) 255 (omega (arith, wide)) (omega (arith, low)) (omega arith)
      (omega arith) refl)) (All-nil Fits)))

  pub band_fits : (number task : ℕ) → first ≡ 3 * task → 17 ≤ columns → task * columns + columns ≤ 640
      → All Fits (band_calls number task columns)
  band_fits number task is wide inside =
      let P : ℕ → Type 0 =
      λ n. All Fits
      (creations n (task * columns) ((task * columns + columns) - 1)
      ++ calls_from 497 n columns ((number + task) % 2147483648)) in
      subst P is
      (All-append Fits (creations first (task * columns) ((task * columns + columns) - 1))
      (calls_from 497 first columns ((number + task) % 2147483648))
      (created_fit (task * columns) ((task * columns + columns) - 1) (omega (arith, wide)) (omega (arith, wide, inside)))
      (drawn_fit 497 ((number + task) % 2147483648)))

many_drawn : (count first columns x : ℕ) → length (calls_from count first columns x) ≡ count
many_drawn zero first columns x = refl
many_drawn (suc count) first columns x = ap suc (many_drawn count first columns (call_after first columns x).1)

many_names : (a n : ℕ) → length (flat_map layer_names (range_with_len a n)) ≡ 3 * n
many_names a zero = refl
many_names a (suc n) = let rest = many_names (a + 1) n in omega (arith, rest)

-- what holds of each task holds of all
all_tasks : (P : ℕ → Type 0) (n : ℕ) → ((t : ℕ) → t < n → P t) → All P (range_with_len 0 n)
all_tasks P n each =
    All-from_get_or P (range_with_len 0 n) 0
    (λ i low. let below : i < n = subst (λ k. i < k) (length-range_with_len 0 n) low in
    subst P (sym (get_or-range_with_len 0 n i 0 below)) (each (0 + i) (omega (arith, below))))

pub no_group : (ts : List ℕ) (n : ℕ) → slice_index_or {A = List Group} (map (λ task. []) ts) n [] ≡ []
no_group [] n = refl
no_group (t ∷ ts) zero = refl
no_group (t ∷ ts) (suc n) = no_group ts n

pub are_plans : DemosArePlans
are_plans number tasks some few = record {
  limits = record {
    some_version = omega arith;
    version = omega arith;
    some_columns = omega arith;
    columns = omega arith;
    some_rows = omega arith;
    rows = omega arith;
    some_planes = omega arith;
    planes = omega arith;
    slots = omega (arith, few);
    some_task = some;
    tasks = few;
    bitmaps = omega arith;
  };
  slots = many_names 0 tasks;
  tasks = length-map-range_with_len _ 0 tasks;
  bitmaps = refl;
  lists = length-map-range_with_len _ 0 tasks;
  group_lists = length-map-range_with_len _ 0 tasks;
  supplied = refl;
  assets = record {
    glyphs = refl;
    rows = All-replicate (λ (g : List ℕ). length g ≡ 8) 95 (replicate 8 0) refl;
    bitmaps = All-nil IsPlanes;
  };
  few = All-map (λ cs. length cs ≤ 4096) (demo_calls number tasks) (range_with_len 0 tasks)
      (all_tasks (λ t. length (demo_calls number tasks t) ≤ 4096) tasks
      (λ t low. let many = many_drawn 497 (3 * t) (640 / tasks) ((number + t) % 2147483648) in omega (arith, many)));
  fit = All-map (λ cs. All (λ c. IsTrue (call_fits (demo_plan number tasks).sizes c)) cs) (demo_calls number tasks)
      (range_with_len 0 tasks)
      (all_tasks (λ t. All (λ c. IsTrue (call_fits (demo_plan number tasks).sizes c)) (demo_calls number tasks t)) tasks (λ t low.
      let wide : 40 ≤ 640 / tasks = le-div 40 640 tasks (omega (arith, some)) (omega (arith, few)) in
      let inside = band_inside tasks t low in
      band_fits (demo_plan number tasks).sizes (3 * t) (640 / tasks) (omega (arith, low)) (omega (arith, wide))
      (omega (arith, inside)) number t refl (omega (arith, wide)) inside));
  groups = λ task. subst (λ gs. IsTrue (groups_fit (task_calls (demo_plan number tasks) task) gs))
      (sym (no_group (range_with_len 0 tasks) task)) refl;
}
