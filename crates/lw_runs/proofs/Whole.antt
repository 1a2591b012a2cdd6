-- The history in which each task of a plan made all its calls is that of a legal order.
use Rattle.std.proofs.Common.{◌≡◌, ℕ, zero, suc, ◌+◌, ◌<◌, ◌==◌, Bool, true, false, not, ◌||◌, if◌then◌else◌, List, [], ◌∷◌, ◌++◌, length, refl, ap, sym, subst, ◌∙◌, arith, append_assoc, eq-eqb, Some}
use Rattle.std.specs.List.{list_all, slice_get, range_with_len}
use Rattle.std.proofs.lemmas.Bool.{and_parts, and_from}
use Rattle.std.proofs.lemmas.Bool.Decides.{nat_tests}
use Rattle.std.proofs.lemmas.List.{map-append}
use Rattle.std.proofs.lemmas.List.Elements.{All-head, All-tail}
use Rattle.std.proofs.lemmas.Option.{slice_get_within, get_or_from_slice_get}
use Rattle.lw_calls.specs.declared.call.Call.{Call}
use Rattle.lw_calls.specs.declared.entry.Entry.{Entry}
use Rattle.lw_calls.specs.declared.group.Group.{Group}
use Rattle.lw_calls.specs.declared.touch.Role.TheVariants.{Task}
use Rattle.lw_calls.specs.Entries.{count_of, entries, next_entry}
use Rattle.lw_calls.specs.Orders.{occurrences, keeps_off, may_come, keeps_groups, is_complete}
use Rattle.lw_calls.specs.Plan.{Plan, IsPlan, task_calls, task_groups}
use Rattle.lw_calls.specs.Touches.{touch_of}
use Rattle.lw_machine.specs.Desk.{Desk}
use Rattle.lw_order.specs.Numbered.{Numbered, TasksBelow}
use Rattle.lw_order.specs.Promised.{Follows}
use Rattle.lw_runs.specs.declared.answers.TaskAnswers.{TaskAnswers}
use Rattle.lw_order.specs.Seen.{SeenSeat}
use Rattle.lw_locks.specs.Closing.{AreFollowed}
use Rattle.lw_locks.specs.Joins.{IsHistory}
use Rattle.lw_locks.specs.Seen.{SeenPass}
use Rattle.lw_runs.specs.Made.{calls_of, is_within, keeps_apart}
use Rattle.lw_runs.specs.Whole.{HasAll, EachHasAll, AllHaveAll, order_of, IsOrdered}
use Rattle.lw_runs.proofs.ListLaws.{has_entry}
use Rattle.lw_runs.proofs.Ahead.{all_over}
use Rattle.lw_runs.proofs.Begun.{guards_free}
use Rattle.lw_runs.proofs.Making.{told_still}
use Rattle.lw_runs.proofs.MadeLaws.{calls_of_append, keeps_apart_append, length_calls_of}

-- how often a task stands in the order of a history
occurrences_in : (t : ℕ) (es : List Entry) → occurrences t (order_of es) ≡ count_of t es
occurrences_in t [] = refl
occurrences_in t (e ∷ es) = ap (λ n. (if e.task == t then 1 else 0) + n) (occurrences_in t es)

get_behind : {X : Type 0} (xs ys : List X) (y : X) → slice_get (xs ++ y ∷ ys) (length xs) ≡ Some y
get_behind [] ys y = refl
get_behind (x ∷ xs) ys y = get_behind xs ys y

own_first : (b : Bool) (c : Call) (cs : List Call) → b ≡ true → (if b then c ∷ cs else cs) ≡ c ∷ cs
own_first true c cs h = refl
own_first false c cs h = absurd (cc h)

same_test : (a b : ℕ) → (a == b) ≡ (b == a)
same_test a b = grind (arith, nat_tests)

all_in_range : (p : ℕ → Bool) (first n : ℕ) → ((u : ℕ) → u < first + n → p u ≡ true) → list_all p (range_with_len first n) ≡ true
all_in_range p first zero each = refl
all_in_range p first (suc n) each = and_from (p first) _ (each first (omega arith)) (all_in_range p (first + 1) n (λ u low. each u (omega (arith, low))))

module _ (plan : Plan) (desk : Desk) (whole : List Entry) (made : (t : ℕ) → t < plan.sizes.tasks → (said : TaskAnswers) × HasAll desk plan t whole said) (sizes : desk.sizes ≡ plan.sizes) (known : IsHistory desk.sizes whole) where
  -- the call of a step is its task's next one
  due : (front back : List Entry) (e : Entry) → whole ≡ front ++ e ∷ back → e.task < plan.sizes.tasks → slice_get (task_calls plan e.task) (count_of e.task front) ≡ Some e.call
  due front back e parts low =
      let t : ℕ = e.task in
      let own : calls_of t (e ∷ back) ≡ e.call ∷ calls_of t back = own_first (e.task == t) e.call (calls_of t back) (eq-eqb t t refl) in
      let all : task_calls plan t ≡ calls_of t front ++ e.call ∷ calls_of t back = sym (made t low).1.calls ∙ (ap (calls_of t) parts ∙ (calls_of_append t front (e ∷ back) ∙ ap (λ cs. calls_of t front ++ cs) own)) in
      ap (λ cs. slice_get cs (count_of t front)) all ∙ (ap (λ n. slice_get (calls_of t front ++ e.call ∷ calls_of t back) n) (sym (length_calls_of t front)) ∙ get_behind (calls_of t front) (calls_of t back) e.call)

  -- it may come there
  comes : (front back : List Entry) (e : Entry) → whole ≡ front ++ e ∷ back → e.task < plan.sizes.tasks → may_come plan (order_of front) e.task (slice_get (task_calls plan e.task) (occurrences e.task (order_of front))) ≡ true
  comes front back e parts low =
      let t : ℕ = e.task in
      let past : List ℕ = order_of front in
      let call : slice_get (task_calls plan t) (occurrences t past) ≡ Some e.call = ap (slice_get (task_calls plan t)) (occurrences_in t front) ∙ due front back e parts low in
      let test : ℕ → Bool = λ u. (u == t) || not (keeps_off plan past (touch_of t e.call) u) in
      ap (may_come plan past t) call ∙ all_in_range test 0 plan.sizes.tasks
      (λ u below.
      let gs : List Group = task_groups plan u in
      let at_most : u < plan.sizes.tasks = omega (arith, below) in
      let kept : keeps_apart gs u 0 whole ≡ true = (made u at_most).1.apart known.fits in
      let split = and_parts (keeps_apart gs u 0 front) _ (sym (ap (keeps_apart gs u 0) parts ∙ keeps_apart_append gs u 0 front (e ∷ back)) ∙ kept) in
      let here = (and_parts ((t == u) || not (is_within gs (count_of u front + 0) (touch_of t e.call))) _ split.1).0 in
      let many : count_of u front + 0 ≡ occurrences u past = (let same = occurrences_in u front in omega (arith, same)) in
      let P : ℕ → Type 0 = λ n. ((t == u) || not (is_within gs n (touch_of t e.call))) ≡ true in
      ap (λ b. b || not (is_within gs (occurrences u past) (touch_of t e.call))) (same_test u t) ∙ subst P many here)

  keeps : (front back : List Entry) → whole ≡ front ++ back → TasksBelow plan.sizes.tasks back → keeps_groups plan (order_of front) (order_of back) ≡ true
  keeps front [] parts low = refl
  keeps front (e ∷ es) parts low =
      let P : Entry → Type 0 = λ x. x.task < plan.sizes.tasks in
      let more : order_of (front ++ e ∷ []) ≡ order_of front ++ e.task ∷ [] = map-append (λ (x : Entry). x.task) front (e ∷ []) in
      and_from _ _ (comes front es e parts (All-head P e es low))
      (ap (λ past. keeps_groups plan past (order_of es)) (sym more) ∙ keeps (front ++ e ∷ []) es (parts ∙ sym (append_assoc front (e ∷ []) es)) (All-tail P e es low))

  stand : (front back : List Entry) → whole ≡ front ++ back → TasksBelow plan.sizes.tasks back → Numbered front back → entries plan front (order_of back) ≡ back
  stand front [] parts low numbered = refl
  stand front (e ∷ es) parts low numbered =
      let P : Entry → Type 0 = λ x. x.task < plan.sizes.tasks in
      let next : next_entry e.task (count_of e.task front) (slice_get (task_calls plan e.task) (count_of e.task front)) ≡ e ∷ [] =
      ap (next_entry e.task (count_of e.task front)) (due front es e parts (All-head P e es low)) ∙ ap (λ n. record { task = e.task; seq = n; call = e.call } ∷ []) (sym numbered.0) in
      ap (λ l. l ++ entries plan (front ++ l) (order_of es)) next ∙ ap (λ l. e ∷ l) (stand (front ++ e ∷ []) es (parts ∙ sym (append_assoc front (e ∷ []) es)) (All-tail P e es low) numbered.1)

  complete : is_complete plan (order_of whole) ≡ true
  complete =
      all_in_range (λ t. occurrences t (order_of whole) == length (task_calls plan t)) 0 plan.sizes.tasks
      (λ t below.
      let low : t < plan.sizes.tasks = omega (arith, below) in
      eq-eqb (occurrences t (order_of whole)) (length (task_calls plan t)) (occurrences_in t whole ∙ (sym (length_calls_of t whole) ∙ ap length (made t low).1.calls)))

  pub ordered : IsOrdered plan whole
  ordered =
      let low : TasksBelow plan.sizes.tasks whole = subst (λ s. TasksBelow s.tasks whole) sizes known.tasks in
      record { legal = and_from _ _ (keeps [] whole refl low) complete; stands = stand [] whole refl low known.numbered }

-- what each pass's task made in the history that it knows, it made in the whole one
pub all_have_all : (plan : Plan) (desk : Desk) (passes : List SeenPass) (whole : SeenSeat) (all : List TaskAnswers) → IsPlan plan → length all ≡ length passes → AreFollowed passes whole → EachHasAll desk plan passes all → AllHaveAll desk plan whole.history all
all_have_all plan desk passes whole all is many followed each t told got =
    let low : t < length all = slice_get_within all t told got in
    let p : (p : SeenPass) × (slice_get passes t ≡ Some p) = has_entry passes t (omega (arith, low, many)) in
    let had = each t p.0 told p.1 got in
    let goes : Follows (Task t ∷ []) p.0.history whole.history = subst (λ n. Follows (Task n ∷ []) p.0.history whole.history) had.0 (followed p.0 (t, slice_get_within passes t p.0 p.1, get_or_from_slice_get passes t p.0 p.0 p.1)).1 in
    let groups = task_groups plan t in
    let calls = task_calls plan t in
    told_still desk groups t (Task t ∷ []) calls p.0.history whole.history told.replies told.tickets.items (0, omega arith, refl) (guards_free desk.sizes.slots groups (length calls) (Task t ∷ []) (all_over calls groups (is.groups t))) had.1 goes
