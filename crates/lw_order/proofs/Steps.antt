-- Each kind of step on an order word keeps its rule.
use Rattle.std.proofs.Common.{◌≡◌, ◌≢◌, ℕ, zero, suc, ◌+◌, ◌<◌, ◌≤◌, ◌%◌, ◌^◌, ◌==◌, Bool, true, false, if◌then◌else◌, List, [], ◌∷◌, ◌++◌, map, length, set, refl, sym, ap, ◌∙◌, subst, ⊎_elim, arith, append_assoc, length-append}
use Rattle.std.specs.Prelude.{IsTrue, All, Contains, slice_index}
use Rattle.std.specs.List.{range_with_len}
use Rattle.std.proofs.lemmas.Bool.{eqb-true}
use Rattle.std.proofs.lemmas.List.Elements.{All-nil, All-cons, All-head, All-tail, All-append, All-push, All-map, All-weaker, All-contains, All-filter}
use mathlib.Core.Option.{some, some-injective, some-ne-none}
use lib.ListN.{get_elem?}
use Rattle.atomic_table.proofs.Lists.{at_set}
use Rattle.lw_calls.specs.declared.sizes.Sizes.{Sizes}
use Rattle.lw_calls.specs.declared.call.Call.{Call}
use Rattle.lw_calls.specs.declared.entry.Entry.{Entry}
use Rattle.lw_calls.specs.declared.touch.Role.{Role}
use Rattle.lw_calls.specs.declared.touch.Role.TheVariants.{Task, Slot, Info}
use Rattle.lw_calls.specs.Touches.{touch_of}
use Rattle.lw_calls.specs.Limits.{call_fits}
use Rattle.lw_calls.specs.Entries.{count_of}
use Rattle.lw_order.specs.declared.view.Old.{Old}
use Rattle.lw_order.specs.declared.view.View.{View}
use Rattle.lw_order.specs.Roles.{all_roles, without, LeavesAlone, HasEachOnce}
use Rattle.lw_order.specs.Owned.{Owns}
use Rattle.lw_order.specs.Numbered.{IsNumbered, TasksBelow, CallsFit}
use Rattle.lw_order.specs.Promised.{Follows, longer}
use Rattle.lw_order.specs.Rule.{IsRoleWithin, Stands, with_word, KeepsOrder}
use Rattle.lw_order.specs.Plays.{view_of, first_view, spent_view, old_of, Learned, Stamped}
use Rattle.lw_order.proofs.RoleLaws.{all_from_members, was_there, only_role, leaves_others}
use Rattle.lw_order.proofs.OnceLaws.{one_once, both_once, without_once, all_roles_once}
use Rattle.lw_order.proofs.HistoryLaws.{follows_itself, fewer_follow, numbered_push, numbered_prefix, tasks_prefix, calls_prefix, count_of_append, count_of_quiet, joins}
use Rattle.lw_order.proofs.Bound.{length_bound}
use Rattle.lw_order.proofs.ViewLaws.{stands_set, stands_push, not_of_another, held_once_set, held_once_split, held_once_join, held_once_first}

-- the numbers from a on, as many as n, are below a + n
range_below : (a n : ℕ) → All (λ k. k < a + n) (range_with_len a n)
range_below a zero = All-nil (λ k. k < a + zero)
range_below a (suc n) =
    All-cons (λ k. k < a + suc n) a (range_with_len (a + 1) n) (omega arith)
    (All-weaker (λ k. k < (a + 1) + n) (λ k. k < a + suc n) (λ k h. omega arith) (range_with_len (a + 1) n) (range_below (a + 1) n))

below_none : (n : ℕ) → All (λ k. k < n) (range_with_len 0 n)
below_none n = All-weaker (λ k. k < 0 + n) (λ k. k < n) (λ k h. omega arith) (range_with_len 0 n) (range_below 0 n)

all_roles_fit : (sizes : Sizes) → All (IsRoleWithin sizes) (all_roles sizes.slots sizes.tasks)
all_roles_fit sizes =
    All-append (IsRoleWithin sizes) (Info ∷ map (λ t. Task t) (range_with_len 0 sizes.tasks)) (map (λ s. Slot s) (range_with_len 0 sizes.slots))
    (All-cons (IsRoleWithin sizes) Info (map (λ t. Task t) (range_with_len 0 sizes.tasks)) tt
    (All-map (IsRoleWithin sizes) (λ t. Task t) (range_with_len 0 sizes.tasks) (below_none sizes.tasks)))
    (All-map (IsRoleWithin sizes) (λ s. Slot s) (range_with_len 0 sizes.slots) (below_none sizes.slots))

stands_alone : (sizes : Sizes) (whole : List Entry) (roles : List Role) (history : List Entry) → Follows roles history whole → All (IsRoleWithin sizes) roles → HasEachOnce roles → Stands sizes whole (view_of history roles)
stands_alone sizes whole roles history follows fits once =
    record { follows = follows; roles_fit = fits; once = once; olds_follow = All-nil (λ (o : Old). Follows o.roles o.history history) }

-- the start
pub starts : (sizes : Sizes) → sizes.tasks < 2 ^ 32 → KeepsOrder sizes (with_word 0) (first_view sizes ∷ [])
starts sizes fits = (
  [],
  record {
    word = refl;
    stands = one;
    held_once = held_once_first (first_view sizes);
    numbered = tt;
    tasks_fit = All-nil (λ (e : Entry). e.task < sizes.tasks);
    calls_fit = All-nil (λ (e : Entry). IsTrue (call_fits sizes e.call));
    steps_fit = λ task. omega arith;
    few_tasks = fits;
  },
)
  where
    first : Stands sizes [] (first_view sizes)
    first = stands_alone sizes [] (all_roles sizes.slots sizes.tasks) [] (follows_itself (all_roles sizes.slots sizes.tasks) []) (all_roles_fit sizes) (all_roles_once sizes.slots sizes.tasks)

    one : (seat : ℕ) (v : View) → get_elem? (first_view sizes ∷ []) seat ≡ some v → Stands sizes [] v
    one zero v e = subst (Stands sizes []) (some-injective (first_view sizes) v e) first
    one (suc seat) v e = absurd (some-ne-none v (sym e))

-- a split
pub splits : (sizes : Sizes) (words : List ℕ) (views : List View) (seat : ℕ) (v : View) (off : Role) → Contains v.roles off → KeepsOrder sizes words views → get_elem? views seat ≡ some v
    → KeepsOrder sizes words (set views seat (view_of v.history (without off v.roles)) ++ view_of v.history (off ∷ []) ∷ [])
splits sizes words views seat v off there (whole, k) at =
    let mine = k.stands seat v at in
    let among : (role : Role) → Contains (off ∷ []) role → Contains v.roles role = λ role h. subst (Contains v.roles) (only_role off role h) there in
    let fewer : (role : Role) → Contains (without off v.roles) role → Contains v.roles role = λ role h. was_there off role v.roles h in
    let left = stands_alone sizes whole (without off v.roles) v.history (fewer_follow (without off v.roles) v.roles v.history whole fewer mine.follows) (All-filter _ (IsRoleWithin sizes) v.roles mine.roles_fit) (without_once off v.roles mine.once) in
    let right = stands_alone sizes whole (off ∷ []) v.history (fewer_follow (off ∷ []) v.roles v.history whole among mine.follows)
    (all_from_members (IsRoleWithin sizes) (off ∷ []) (λ role h. All-contains (IsRoleWithin sizes) v.roles role mine.roles_fit (among role h))) (one_once off) in (
      whole,
      record {
        word = k.word;
        stands = stands_push sizes whole (set views seat (view_of v.history (without off v.roles))) (view_of v.history (off ∷ []))
            (stands_set sizes whole views seat (view_of v.history (without off v.roles)) (λ j u apart e. k.stands j u e) left) right;
        held_once = held_once_split views seat v off k.held_once at there;
        numbered = k.numbered;
        tasks_fit = k.tasks_fit;
        calls_fit = k.calls_fit;
        steps_fit = k.steps_fit;
        few_tasks = k.few_tasks;
      },
    )

-- the view of two seats that were joined
abbrev pub joined_view : View → View → View
joined_view v w = record { history = longer v.history w.history; roles = v.roles ++ w.roles; olds = old_of v ∷ old_of w ∷ [] }

-- a join
pub joins_seats : (sizes : Sizes) (words : List ℕ) (views : List View) (seat : ℕ) (v : View) (other : ℕ) (w : View) → KeepsOrder sizes words views → get_elem? views seat ≡ some v → ¬ (other ≡ seat) → get_elem? (set views seat (joined_view v w)) other ≡ some w
    → KeepsOrder sizes words (set (set views seat (joined_view v w)) other spent_view)
joins_seats sizes words views seat v other w (whole, k) at apart there =
    let both = joined_view v w in
    let theirs : get_elem? views other ≡ some w = ⊎_elim (λ (t : (other ≡ seat) × (both ≡ w)). absurd (apart t.0)) (λ (t : (other ≢ seat) × (get_elem? views other ≡ some w)). t.1) (at_set views seat other both w there) in
    let mine = k.stands seat v at in
    let other_stands = k.stands other w theirs in
    let learned = joins v.roles w.roles v.history w.history whole mine.follows other_stands.follows in
    let stands : Stands sizes whole both = record {
      follows = learned.both;
      roles_fit = All-append (IsRoleWithin sizes) v.roles w.roles mine.roles_fit other_stands.roles_fit;
      once = both_once v.roles w.roles mine.once other_stands.once (λ role here there. not_of_another views seat other v w role k.held_once at theirs apart here there);
      olds_follow = All-cons (λ (o : Old). Follows o.roles o.history both.history) (old_of v) (old_of w ∷ []) learned.own
          (All-cons (λ (o : Old). Follows o.roles o.history both.history) (old_of w) [] learned.other (All-nil (λ (o : Old). Follows o.roles o.history both.history)));
    } in
    let spent : Stands sizes whole spent_view = stands_alone sizes whole [] [] (record { rest = whole; prefix = refl; quiet = λ k d below j e none. absurd (omega arith) }) (All-nil (IsRoleWithin sizes)) tt in (
      whole,
      record {
        word = k.word;
        stands = stands_set sizes whole (set views seat both) other spent_view (λ j u away e. stands_set sizes whole views seat both (λ i x far f. k.stands i x f) stands j u e) spent;
        held_once = held_once_join views seat other v w both k.held_once at theirs refl;
        numbered = k.numbered;
        tasks_fit = k.tasks_fit;
        calls_fit = k.calls_fit;
        steps_fit = k.steps_fit;
        few_tasks = k.few_tasks;
      },
    )

-- the load after a join, of a word that stays 0
pub learns : (sizes : Sizes) (words : List ℕ) (views : List View) (seat : ℕ) (v : View) (known : Sizes) → sizes ≡ known → KeepsOrder sizes words views → get_elem? views seat ≡ some v
    → KeepsOrder sizes (set words 0 (slice_index words 0)) (set views seat (view_of v.history v.roles)) × Learned known v (view_of v.history v.roles)
learns sizes words views seat v known same (whole, k) at =
    let mine = k.stands seat v at in (
      (
        whole,
        record {
          word = ap (λ ws. set ws 0 (slice_index ws 0)) k.word;
          stands = stands_set sizes whole views seat (view_of v.history v.roles) (λ j u apart e. k.stands j u e) (stands_alone sizes whole v.roles v.history mine.follows mine.roles_fit mine.once);
          held_once = held_once_set views seat v (view_of v.history v.roles) k.held_once at (λ role h. h);
          numbered = k.numbered;
          tasks_fit = k.tasks_fit;
          calls_fit = k.calls_fit;
          steps_fit = k.steps_fit;
          few_tasks = k.few_tasks;
        },
      ),
      record {
        view = refl;
        olds_follow = mine.olds_follow;
        numbered = numbered_prefix v.roles v.history whole mine.follows k.numbered;
        tasks_fit = subst (λ (s : Sizes). TasksBelow s.tasks v.history) same (tasks_prefix sizes.tasks v.roles v.history whole mine.follows k.tasks_fit);
        calls_fit = subst (λ (s : Sizes). CallsFit s v.history) same (calls_prefix sizes v.roles v.history whole mine.follows k.calls_fit);
        roles_fit = subst (λ (s : Sizes). All (IsRoleWithin s) v.roles) same mine.roles_fit;
        once = mine.once;
      },
    )

-- what was learned after a join, of both former histories
pub learned_follows : (sizes : Sizes) (v w after : View) → Learned sizes (joined_view v w) after → Follows v.roles v.history after.history × Follows w.roles w.history after.history
learned_follows sizes v w after l =
    let joined = longer v.history w.history in
    let same : joined ≡ after.history = sym (ap (λ (x : View). x.history) l.view) in
    let goes_on : Old → Type 0 = λ o. Follows o.roles o.history joined in
    let own = All-head goes_on (old_of v) (old_of w ∷ []) l.olds_follow in
    let other = All-head goes_on (old_of w) [] (All-tail goes_on (old_of v) (old_of w ∷ []) l.olds_follow) in
    (subst (Follows v.roles v.history) same own, subst (Follows w.roles w.history) same other)

-- the step that a stamp adds to the whole history
abbrev pub step_of : ℕ → Call → List Entry → Entry
step_of task call whole = record { task = task; seq = count_of task whole; call = call }

one_more : (n : ℕ) (own : Bool) (most : ℕ) → (own ≡ true → n < most) → n ≤ most → n + ((if own then 1 else 0) + 0) ≤ most
one_more n true most h k = let below = h refl in omega arith
one_more n false most h k = omega arith

-- no task has too many steps after one more of a task that had room
steps_fit_after : (task : ℕ) (call : Call) (whole : List Entry) → count_of task whole < 4294967295 → ((t : ℕ) → count_of t whole ≤ 4294967295) → (t : ℕ) → count_of t (whole ++ step_of task call whole ∷ []) ≤ 4294967295
steps_fit_after task call whole room fit t =
    let more = one_more (count_of t whole) (task == t) 4294967295 (λ same. subst (λ k. count_of k whole < 4294967295) (eqb-true task t same) room) (fit t) in
    let sum = count_of_append t whole (step_of task call whole ∷ []) in
    omega arith

follows_more : (roles : List Role) (old whole : List Entry) (e : Entry) → Follows roles old whole → LeavesAlone roles e → Follows roles old (whole ++ e ∷ [])
follows_more roles old whole e f leaves = record {
  rest = f.rest ++ e ∷ [];
  prefix = ap (λ l. l ++ e ∷ []) f.prefix ∙ append_assoc old f.rest (e ∷ []);
  quiet = All-push (LeavesAlone roles) f.rest e f.quiet leaves;
}

none_more : (a b : ℕ) → b ≡ 0 → a + b ≡ a
none_more a b h = omega arith

grown : (n m : ℕ) → n + 1 < 18446744073709551616 → m ≡ n + 1 → (n + 1) % 2 ^ 64 ≡ m
grown n m fits is = omega arith

-- the word is the length of the history that has one step more
word_after : (words : List ℕ) (whole : List Entry) (e : Entry) → words ≡ with_word (length whole) → length whole + 1 < 18446744073709551616 → set words 8 ((slice_index words 8 + 1) % 2 ^ 64) ≡ with_word (length (whole ++ e ∷ []))
word_after words whole e is fits =
    ap (λ ws. set ws 8 ((slice_index ws 8 + 1) % 2 ^ 64)) is
    ∙ ap with_word (grown (length whole) (length (whole ++ e ∷ [])) fits (length-append whole (e ∷ [])))

-- the stamp
pub stamps : (sizes : Sizes) (words : List ℕ) (views : List View) (seat : ℕ) (v : View) (known : Sizes) (task : ℕ) (call : Call) → sizes ≡ known → Owns sizes.slots v.roles (touch_of task call) → IsTrue (call_fits sizes call) → count_of task v.history < 4294967295
    → KeepsOrder sizes words views → get_elem? views seat ≡ some v
    → (w : View) × KeepsOrder sizes (set words 8 ((slice_index words 8 + 1) % 2 ^ 64)) (set views seat w) × Stamped known task call (slice_index words 8) v w
stamps sizes words views seat v known task call same owns fits room (whole, k) at =
    let mine = k.stands seat v at in
    let e = step_of task call whole in
    let new = whole ++ e ∷ [] in
    let w = view_of new v.roles in
    let before = mine.follows in
    let is_within : task < sizes.tasks = All-contains (IsRoleWithin sizes) v.roles (Task task) mine.roles_fit owns.has_task in
    let had : count_of task whole ≡ count_of task v.history = ap (count_of task) before.prefix ∙ count_of_append task v.history before.rest ∙ none_more (count_of task v.history) (count_of task before.rest) (count_of_quiet task v.roles before.rest owns.has_task before.quiet) in
    let has_room : count_of task whole < 4294967295 = omega arith in
    let numbered : IsNumbered new = numbered_push whole e k.numbered refl in
    let tasks_fit : TasksBelow sizes.tasks new = All-push (λ (x : Entry). x.task < sizes.tasks) whole e k.tasks_fit is_within in
    let calls_fit : CallsFit sizes new = All-push (λ (x : Entry). IsTrue (call_fits sizes x.call)) whole e k.calls_fit fits in (
      w,
      (
        new,
        record {
          word = word_after words whole e k.word (length_bound sizes.tasks whole k.few_tasks k.tasks_fit k.steps_fit);
          stands = stands_set sizes new views seat w
              (λ j u apart f. let theirs = k.stands j u f in record {
                follows = follows_more u.roles u.history whole e theirs.follows
                    (leaves_others sizes v.roles u.roles e owns theirs.roles_fit (λ role here there. not_of_another views seat j v u role k.held_once at f apart here there));
                roles_fit = theirs.roles_fit;
                once = theirs.once;
                olds_follow = theirs.olds_follow;
              })
              (stands_alone sizes new v.roles new (follows_itself v.roles new) mine.roles_fit mine.once);
          held_once = held_once_set views seat v w k.held_once at (λ role h. h);
          numbered = numbered;
          tasks_fit = tasks_fit;
          calls_fit = calls_fit;
          steps_fit = steps_fit_after task call whole has_room k.steps_fit;
          few_tasks = k.few_tasks;
        },
      ),
      record {
        view = refl;
        added = record {
          between = before.rest;
          history = ap (λ l. l ++ step_of task call l ∷ []) before.prefix;
          quiet = before.quiet;
          place = ap (λ ws. slice_index ws 8) k.word ∙ ap length before.prefix;
        };
        numbered = numbered;
        tasks_fit = subst (λ (s : Sizes). TasksBelow s.tasks new) same tasks_fit;
        calls_fit = subst (λ (s : Sizes). CallsFit s new) same calls_fit;
      },
    )
