-- The tasks of a demo keep apart: each has three slots and a band of the screen's columns.
use Rattle.std.proofs.Common.{◌≡◌, ℕ, zero, suc, ◌+◌, ◌-◌, ◌*◌, ◌/◌, ◌%◌, ◌<◌, ◌≤◌, ◌==◌, Bool, true, false, List, [], ◌∷◌, map}
use Rattle.std.proofs.Common.{ℤ, pos, ◌+ℤ◌, ◌-ℤ◌, ◌≤ℤ◌, unsigned_abs, All, refl, sym, ap, subst, inl, inr, ◌∙◌, arith}
use Rattle.std.specs.Prelude.{if◌then◌else◌}
use Rattle.std.specs.List.{range_with_len}
use Rattle.std.proofs.lemmas.Bool.{cases_lt}
use Rattle.std.proofs.lemmas.Int.{ints}
use Rattle.std.proofs.lemmas.Nat.{div-mul-add, le-div}
use Rattle.std.proofs.lemmas.List.{get_or_past}
use Rattle.std.proofs.lemmas.List.FromFn.{length-map-range_with_len, get_or-map-range_with_len}
use Rattle.std.proofs.lemmas.List.Elements.{All-nil, All-cons, All-append}
use Rattle.lw_region.specs.Rectangle.{within}
use Rattle.lw_region.proofs.Within.{within_low, within_high}
use Rattle.lw_calls.specs.declared.make.Kind.{Kind}
use Rattle.lw_calls.specs.declared.make.Kind.TheVariants.{Simple, Smart}
use Rattle.lw_calls.specs.declared.call.Call.{Call}
use Rattle.lw_calls.specs.declared.call.Call.TheVariants.{Create, ToFront}
use Rattle.lw_calls.specs.Plan.{task_calls}
use Rattle.lw_gen.specs.Generator.{stirred, picked, fill_after, pen_after, read_after, call_after, calls_from}
use Rattle.lw_gen.specs.Demo.{layer_between, creations, band_calls, demo_calls, demo_plan}
use Rattle.lw_gen.proofs.Plans.{picked_below, are_plans}
use Rattle.lw_apart.specs.Apart.{Shares, IsOwn, KeepsApart, DemosShowNoOrder}
use Rattle.lw_apart.proofs.Runs.{leave_the_same}

-- three slots and so many columns for each task
abbrev bands : ℕ → Shares
bands columns = record { slot = λ s. s / 3; column = λ x. unsigned_abs x / columns }

-- a place from x0 to x1, and how far it lies right of a band's left edge
past_left : (x0 x1 left : ℕ) (x : ℤ) → left ≤ x0 → pos x0 ≤ℤ x → left ≤ unsigned_abs x
past_left x0 x1 left x from low = omega (arith, ints)

before_right : (x0 x1 right : ℕ) (x : ℤ) → x0 ≤ x1 → x1 < right → pos x0 ≤ℤ x → x ≤ℤ ((pos x0 +ℤ pos ((x1 + 1) - x0)) -ℤ pos 1)
    → unsigned_abs x < right
before_right x0 x1 right x wide to low high = omega (arith, ints)

module _ (task columns : ℕ) where
  in_band : (x0 x1 : ℕ) (x : ℤ) → task * columns ≤ x0 → x0 ≤ x1 → x1 < task * columns + columns
      → within (pos x0) x ((pos x0 +ℤ pos ((x1 + 1) - x0)) -ℤ pos 1) ≡ true → unsigned_abs x / columns ≡ task
  in_band x0 x1 x from wide to inside =
      let low = within_low (pos x0) x ((pos x0 +ℤ pos ((x1 + 1) - x0)) -ℤ pos 1) inside in
      let high = within_high (pos x0) x ((pos x0 +ℤ pos ((x1 + 1) - x0)) -ℤ pos 1) inside in
      let left = past_left x0 x1 (task * columns) x from low in
      let right = before_right x0 x1 (task * columns + columns) x wide to low high in
      let more : unsigned_abs x ≡ task * columns + (unsigned_abs x - task * columns) = omega (arith, left) in
      ap (λ n. n / columns) more ∙ div-mul-add task columns (unsigned_abs x - task * columns) (omega (arith, left, right))

  abbrev Own : Call → Type 0
  Own c = IsOwn (bands columns) task c

  -- the slots of the task's layers
  slot_own : (k : ℕ) → k < 3 → (3 * task + k) / 3 ≡ task
  slot_own k few = omega (arith, few)

  created_own : (kind : Kind) (k x0 y0 x1 y1 : ℕ) → k < 3 → task * columns ≤ x0 → x0 ≤ x1 → x1 < task * columns + columns
      → Own (Create (3 * task + k) (layer_between kind x0 y0 x1 y1))
  created_own kind k x0 y0 x1 y1 few from wide to = (slot_own k few, refl, λ x inside. in_band x0 x1 x from wide to inside)

  created_are_own : 17 ≤ columns → All Own (creations (3 * task) (task * columns) ((task * columns + columns) - 1))
  created_are_own wide =
      let left : ℕ = task * columns in
      let right : ℕ = (left + columns) - 1 in
      let back : Call = Create (3 * task) (layer_between Simple left 0 right 127) in
      let middle : Call = Create (3 * task + 1) (layer_between Smart (left + 8) 32 right 200) in
      let front : Call = Create (3 * task + 2) (layer_between Smart left 64 (right - 8) 255) in
      let first : 3 * task + 0 ≡ 3 * task = omega arith in
      All-cons Own back (middle ∷ front ∷ [])
      (subst (λ s. Own (Create s (layer_between Simple left 0 right 127))) first
      (created_own Simple 0 left 0 right 127 (omega arith) (omega arith) (omega (arith, wide)) (omega (arith, wide))))
      (All-cons Own middle (front ∷ [])
      (created_own Smart 1 (left + 8) 32 right 200 (omega arith) (omega arith) (omega (arith, wide)) (omega (arith, wide)))
      (All-cons Own front []
      (created_own Smart 2 left 64 (right - 8) 255 (omega arith) (omega arith) (omega (arith, wide)) (omega (arith, wide)))
      (All-nil Own)))

  chosen_own : (a b c : Bool) (slot x : ℕ) → slot / 3 ≡ task
      → Own (if a then fill_after slot columns x
      else (if b then pen_after slot x else (if c then (ToFront slot, x) else read_after slot columns x))).0
  chosen_own true b c slot x own = own
  chosen_own false true c slot x own = own
  chosen_own false false true slot x own = own
  chosen_own false false false slot x own = own

  drawn_own : (x : ℕ) → Own (call_after (3 * task) columns x).0
  drawn_own x =
      let choice : ℕ = picked 4 (stirred (stirred x)) in
      chosen_own (choice == 0) (choice == 1) (choice == 2) (3 * task + picked 3 (stirred x)) (stirred (stirred x))
      (slot_own (picked 3 (stirred x)) (picked_below 3 (stirred x) (omega arith)))

  drawn_are_own : (count x : ℕ) → All Own (calls_from count (3 * task) columns x)
  drawn_are_own zero x = All-nil Own
  drawn_are_own (suc count) x =
      let next =
      call_after (3 * task) columns x in
      All-cons Own next.0 (calls_from count (3 * task) columns next.1) (drawn_own x) (drawn_are_own count next.1)

  band_own : (number : ℕ) → 17 ≤ columns → All Own (band_calls number task columns)
  band_own number wide =
      All-append Own (creations (3 * task) (task * columns) ((task * columns + columns) - 1))
      (calls_from 497 (3 * task) columns ((number + task) % 2147483648))
      (created_are_own wide) (drawn_are_own 497 ((number + task) % 2147483648))

demos_keep_apart : (number tasks : ℕ) → 1 ≤ tasks → tasks ≤ 16 → KeepsApart (demo_plan number tasks)
demos_keep_apart number tasks some few =
    record {
      shares = bands (640 / tasks);
      own =
          λ task. elim (cases_lt task tasks) [ inl low ↦ inside task low | inr high ↦ outside task high ];
    }
  where
    lists : List (List Call)
    lists = map (demo_calls number tasks) (range_with_len 0 tasks)

    wide : 40 ≤ 640 / tasks
    wide = le-div 40 640 tasks (omega (arith, some)) (omega (arith, few))

    inside : (task : ℕ) → task < tasks → All (IsOwn (bands (640 / tasks)) task) (task_calls (demo_plan number tasks) task)
    inside task low =
        subst (All (IsOwn (bands (640 / tasks)) task))
        (sym (get_or-map-range_with_len (demo_calls number tasks) 0 tasks task task [] low (omega arith)))
        (band_own task (640 / tasks) number (omega (arith, wide)))

    outside : (task : ℕ) → tasks ≤ task → All (IsOwn (bands (640 / tasks)) task) (task_calls (demo_plan number tasks) task)
    outside task high =
        let many = length-map-range_with_len (demo_calls number tasks) 0 tasks in
        subst (All (IsOwn (bands (640 / tasks)) task))
        (sym (get_or_past (map (demo_calls number tasks) (range_with_len 0 tasks)) task [] (omega (arith, high, many))))
        (All-nil (IsOwn (bands (640 / tasks)) task))

pub demos_show : DemosShowNoOrder
demos_show number tasks hooks a b some few left right =
    leave_the_same (demo_plan number tasks) hooks a b (are_plans number tasks some few)
    (demos_keep_apart number tasks some few) left right
