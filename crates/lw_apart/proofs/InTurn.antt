-- Tasks without groups may make their calls one task after another.
use Rattle.std.proofs.Common.{◌≡◌, ℕ, zero, suc, ◌+◌, ◌<◌, ◌≤◌, ◌==◌, Bool, true, false, not, ◌&&◌, ◌||◌, List, [], ◌∷◌, ◌++◌}
use Rattle.std.proofs.Common.{length, replicate, Some, get_or, refl, ap, inl, inr, ◌∙◌, arith}
use Rattle.std.specs.Prelude.{if◌then◌else◌}
use Rattle.std.specs.List.{flat_map, list_any, range_with_len}
use Rattle.std.proofs.lemmas.Bool.{eqb-true, eqb-false, eq-eqb, ne_eqb, cases_lt, and_from, or_right}
use Rattle.std.proofs.lemmas.Option.{slice_get-get_or}
use Rattle.lw_calls.specs.declared.call.Call.{Call}
use Rattle.lw_calls.specs.declared.call.Call.TheVariants.{ToFront}
use Rattle.lw_calls.specs.Plan.{Plan, task_calls, task_groups}
use Rattle.lw_calls.specs.Touches.{touch_of}
use Rattle.lw_calls.specs.Orders.{occurrences, meets, is_open, keeps_off, may_come, keeps_groups}
use Rattle.lw_calls.proofs.OrdersComplete.{occurs_again, all_range, keeps_append}
use Rattle.lw_gen.specs.Demo.{demo_plan}
use Rattle.lw_gen.proofs.Plans.{no_group}
use Rattle.lw_apart.specs.InTurn.{in_turn, TasksMayGoInTurn, DemosMayGoInTurn}

-- how often a number stands in two lists, and in a list of one number
occurs_split : (t : ℕ) (xs ys : List ℕ) → occurrences t (xs ++ ys) ≡ occurrences t xs + occurrences t ys
occurs_split t [] ys = omega arith
occurs_split t (x ∷ xs) ys = let rest = occurs_split t xs ys in omega (arith, rest)

occurs_own : (k t : ℕ) → occurrences t (replicate k t) ≡ k
occurs_own zero t = refl
occurs_own (suc k) t =
    let rest = occurs_own k t in ap (λ b. (if b then 1 else 0) + occurrences t (replicate k t)) (eq-eqb t t refl) ∙ omega
    (arith, rest)

occurs_other : (k t u : ℕ) → (u ≡ t → ⊥) → occurrences t (replicate k u) ≡ 0
occurs_other zero t u other = refl
occurs_other (suc k) t u other =
    let rest = occurs_other k t u other in
    ap (λ b. (if b then 1 else 0) + occurrences t (replicate k u)) (ne_eqb u t other) ∙ omega (arith, rest)

-- a number that is no smaller than another, and not that one, is larger
further : (a t : ℕ) → a ≤ t → (a ≡ t → ⊥) → a + 1 ≤ t
further a t above other =
    elim (cases_lt a t) [ inl low ↦ omega (arith, low) | inr high ↦ absurd (other (omega (arith, above, high))) ]

module _ (plan : Plan) (bare : (task : ℕ) → task_groups plan task ≡ []) where
  abbrev block : ℕ → List ℕ
  block t = replicate (length (task_calls plan t)) t

  -- no call is kept off
  comes : (past : List ℕ) (t : ℕ) (c : Call) → may_come plan past t (Some c) ≡ true
  comes past t c =
      all_range (λ u. (u == t) || not (keeps_off plan past (touch_of t c) u)) plan.sizes.tasks
      (λ u low. or_right (u == t) (not (keeps_off plan past (touch_of t c) u))
      (ap (λ gs. not (list_any (λ g. is_open (occurrences u past) g && meets g.hold (touch_of t c)) gs)) (bare u)))

  -- the calls of a task may come in a row
  keeps_block : (k : ℕ) (past : List ℕ) (t : ℕ) → occurrences t past + k ≡ length (task_calls plan t)
      → keeps_groups plan past (replicate k t) ≡ true
  keeps_block zero past t many = refl
  keeps_block (suc k) past t many =
      let low : occurrences t past < length (task_calls plan t) = omega (arith, many) in
      let again = occurs_again t past in
      and_from _ _
      (ap (may_come plan past t) (slice_get-get_or (task_calls plan t) (occurrences t past) (ToFront 0) low) ∙
      comes past t (get_or (task_calls plan t) (occurrences t past) (ToFront 0)))
      (keeps_block k (past ++ t ∷ []) t (omega (arith, many, again)))

  keeps_blocks : (n a : ℕ) (past : List ℕ) → ((u : ℕ) → a ≤ u → occurrences u past ≡ 0)
      → keeps_groups plan past (flat_map block (range_with_len a n)) ≡ true
  keeps_blocks zero a past none = refl
  keeps_blocks (suc n) a past none =
      let first = none a (omega arith) in
      keeps_append plan past (block a) (flat_map block (range_with_len (a + 1) n))
      ∙ and_from _ _ (keeps_block (length (task_calls plan a)) past a (omega (arith, first)))
      (keeps_blocks n (a + 1) (past ++ block a) (λ u above.
      let before = none u (omega (arith, above)) in
      let other = occurs_other (length (task_calls plan a)) u a (λ same. omega (arith, same, above)) in
      occurs_split u past (block a) ∙ omega (arith, before, other)))

  -- each task's number stands as often as it has calls
  occurs_before : (n a t : ℕ) → t < a → occurrences t (flat_map block (range_with_len a n)) ≡ 0
  occurs_before zero a t low = refl
  occurs_before (suc n) a t low =
      let other = occurs_other (length (task_calls plan a)) t a (λ same. omega (arith, same, low)) in
      let rest = occurs_before n (a + 1) t (omega (arith, low)) in
      occurs_split t (block a) (flat_map block (range_with_len (a + 1) n)) ∙ omega (arith, other, rest)

  occurs_blocks : (n a t : ℕ) → a ≤ t → t < a + n
      → occurrences t (flat_map block (range_with_len a n)) ≡ length (task_calls plan t)
  occurs_blocks zero a t above low = absurd (omega (arith, above, low))
  occurs_blocks (suc n) a t above low =
      occurs_split t (block a) (flat_map block (range_with_len (a + 1) n)) ∙
      step (a == t) refl (λ more. occurs_blocks n (a + 1) t more (omega (arith, low)))
    where
      step : (b : Bool) → (a == t) ≡ b
          → (a + 1 ≤ t → occurrences t (flat_map block (range_with_len (a + 1) n)) ≡ length (task_calls plan t))
          → occurrences t (block a) + occurrences t (flat_map block (range_with_len (a + 1) n)) ≡ length (task_calls plan t)
      step true is more =
          let same : a ≡ t = eqb-true a t is in
          let here : occurrences t (block a) ≡ length (task_calls plan t) =
          ap (λ u. occurrences t (block u)) same ∙ occurs_own (length (task_calls plan t)) t in
          let rest = occurs_before n (a + 1) t (omega (arith, same)) in
          omega (arith, here, rest)
      step false is more =
          let other = eqb-false a t is in
          let here = occurs_other (length (task_calls plan a)) t a other in
          let rest = more (further a t above other) in
          omega (arith, here, rest)

pub may_go : TasksMayGoInTurn
may_go plan bare =
    and_from _ _ (keeps_blocks plan bare plan.sizes.tasks 0 [] (λ u above. refl))
    (all_range (λ t. occurrences t (in_turn plan) == length (task_calls plan t)) plan.sizes.tasks
    (λ t low. eq-eqb (occurrences t (in_turn plan)) (length (task_calls plan t))
    (occurs_blocks plan bare plan.sizes.tasks 0 t (omega arith) (omega (arith, low)))))

pub demos_may_go : DemosMayGoInTurn
demos_may_go number tasks = may_go (demo_plan number tasks) (no_group (range_with_len 0 tasks))
