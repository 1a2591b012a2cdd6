-- Histories that go on from others, what their beginnings keep, and how many steps each task has.
use Rattle.std.proofs.Common.{◌≡◌, ℕ, ◌+◌, ◌<◌, ◌≤◌, ◌==◌, Bool, true, false, if◌then◌else◌, nat_lt, List, [], ◌∷◌, ◌++◌, length, refl, sym, ap, ◌∙◌, subst, arith, append_assoc, eq-eqb}
use Rattle.std.specs.Prelude.{IsTrue, All, Contains}
use Rattle.std.proofs.lemmas.Bool.{ltb-true, ltb-false}
use Rattle.std.proofs.lemmas.List.{append-nil}
use Rattle.std.proofs.lemmas.List.Elements.{All-nil, All-cons, All-head, All-tail, All-append, All-contains}
use Rattle.lw_calls.specs.declared.sizes.Sizes.{Sizes}
use Rattle.lw_calls.specs.declared.entry.Entry.{Entry}
use Rattle.lw_calls.specs.declared.call.Call.{Call}
use Rattle.lw_calls.specs.declared.touch.Role.{Role}
use Rattle.lw_calls.specs.declared.touch.Role.TheVariants.{Task}
use Rattle.lw_calls.specs.Touches.{touch_of, touches_role}
use Rattle.lw_calls.specs.Limits.{call_fits}
use Rattle.lw_calls.specs.Entries.{count_of}
use Rattle.lw_order.specs.Roles.{Quiet, LeavesAlone}
use Rattle.lw_order.specs.Numbered.{Numbered, IsNumbered, TasksBelow, CallsFit}
use Rattle.lw_order.specs.Promised.{Follows, Added, longer}
use Rattle.lw_order.proofs.RoleLaws.{quiet_fewer, quiet_front, quiet_end, quiet_both}

-- a history goes on from itself
pub follows_itself : (roles : List Role) (es : List Entry) → Follows roles es es
follows_itself roles es = record { rest = []; prefix = sym (append-nil es); quiet = All-nil (LeavesAlone roles) }

-- what goes on from a history that goes on from another, goes on from that one too
pub follows_on : (roles : List Role) (a b c : List Entry) → Follows roles a b → Follows roles b c → Follows roles a c
follows_on roles a b c f g = record {
  rest = f.rest ++ g.rest;
  prefix = g.prefix ∙ ap (λ l. l ++ g.rest) f.prefix ∙ append_assoc a f.rest g.rest;
  quiet = All-append (LeavesAlone roles) f.rest g.rest f.quiet g.quiet;
}

-- for fewer roles a history goes on from the same ones
pub fewer_follow : (few many : List Role) (old new : List Entry) → ((role : Role) → Contains few role → Contains many role) → Follows many old new → Follows few old new
fewer_follow few many old new among f = record { rest = f.rest; prefix = f.prefix; quiet = quiet_fewer few many f.rest among f.quiet }

-- two beginnings of one history: the longer goes on from the other
record Splits (xs ys r s : List Entry) : Type 0 where
  gap : List Entry
  longer_is : ys ≡ xs ++ gap
  rest_is : r ≡ gap ++ s

split_at : (xs ys r s : List Entry) → xs ++ r ≡ ys ++ s → length xs ≤ length ys → Splits xs ys r s
split_at [] ys r s e h = record { gap = ys; longer_is = refl; rest_is = e }
split_at (x ∷ xs) [] r s e h = absurd (omega arith)
split_at (x ∷ xs) (y ∷ ys) r s e h =
    let heads : x ≡ y = cc in
    let tails : xs ++ r ≡ ys ++ s = cc in
    let t = split_at xs ys r s tails (omega arith) in
    record { gap = t.gap; longer_is = λ i. sym heads i ∷ t.longer_is i; rest_is = t.rest_is }

-- of two beginnings of one history the longer goes on from the shorter, and the rest goes on from both
pub follows_between : (roles : List Role) (short long whole : List Entry) (s : List Entry) → Follows roles short whole → whole ≡ long ++ s → length short ≤ length long → Follows roles short long × Quiet roles s
follows_between roles short long whole s f e h =
    let t = split_at short long f.rest s (sym f.prefix ∙ e) h in
    let quiet : Quiet roles (t.gap ++ s) = subst (Quiet roles) t.rest_is f.quiet in
    (record { rest = t.gap; prefix = t.longer_is; quiet = quiet_front roles t.gap s quiet }, quiet_end roles t.gap s quiet)

-- what is numbered has numbered beginnings
numbered_front : (past front back : List Entry) → Numbered past (front ++ back) → Numbered past front
numbered_front past [] back h = tt
numbered_front past (e ∷ front) back h = (h.0, numbered_front (past ++ e ∷ []) front back h.1)

numbered_push_step : (past es : List Entry) (e : Entry) → Numbered past es → e.seq ≡ count_of e.task (past ++ es) → Numbered past (es ++ e ∷ [])
numbered_push_step past [] e h seq = (seq ∙ ap (count_of e.task) (append-nil past), tt)
numbered_push_step past (x ∷ es) e h seq = (h.0, numbered_push_step (past ++ x ∷ []) es e h.1 (seq ∙ ap (count_of e.task) (sym (append_assoc past (x ∷ []) es))))

-- a step with the next number of its task goes to the end
pub numbered_push : (es : List Entry) (e : Entry) → IsNumbered es → e.seq ≡ count_of e.task es → IsNumbered (es ++ e ∷ [])
numbered_push es e h seq = numbered_push_step [] es e h seq

-- a beginning of a numbered history is numbered
pub numbered_prefix : (roles : List Role) (old new : List Entry) → Follows roles old new → IsNumbered new → IsNumbered old
numbered_prefix roles old new f h = numbered_front [] old f.rest (subst IsNumbered f.prefix h)

all_front : {X : Type 0} (P : X → Type 0) (front back : List X) → All P (front ++ back) → All P front
all_front P [] back h = All-nil P
all_front P (x ∷ front) back h = All-cons P x front (All-head P x (front ++ back) h) (all_front P front back (All-tail P x (front ++ back) h))

-- a beginning's tasks are below the number
pub tasks_prefix : (tasks : ℕ) (roles : List Role) (old new : List Entry) → Follows roles old new → TasksBelow tasks new → TasksBelow tasks old
tasks_prefix tasks roles old new f h = all_front (λ e. e.task < tasks) old f.rest (subst (TasksBelow tasks) f.prefix h)

-- a beginning's calls fit
pub calls_prefix : (sizes : Sizes) (roles : List Role) (old new : List Entry) → Follows roles old new → CallsFit sizes new → CallsFit sizes old
calls_prefix sizes roles old new f h = all_front (λ e. IsTrue (call_fits sizes e.call)) old f.rest (subst (CallsFit sizes) f.prefix h)

-- the steps of a task in two histories
pub count_of_append : (task : ℕ) (xs ys : List Entry) → count_of task (xs ++ ys) ≡ count_of task xs + count_of task ys
count_of_append task [] ys = omega arith
count_of_append task (e ∷ xs) ys = let h = count_of_append task xs ys in omega arith

none_of_task : (task : ℕ) (e : Entry) (es : List Entry) → (e.task == task) ≡ false → count_of task es ≡ 0 → count_of task (e ∷ es) ≡ 0
none_of_task task e es other none = rw other (omega arith)

-- steps that leave a task's role alone are none of its steps
pub count_of_quiet : (task : ℕ) (roles : List Role) (es : List Entry) → Contains roles (Task task) → Quiet roles es → count_of task es ≡ 0
count_of_quiet task roles [] there q = refl
count_of_quiet task roles (e ∷ es) there q =
    none_of_task task e es
    (All-contains (λ role. touches_role (touch_of e.task e.call) role ≡ false) roles (Task task) (All-head (LeavesAlone roles) e es q) there)
    (count_of_quiet task roles es there (All-tail (LeavesAlone roles) e es q))

-- a task whose role is left alone has as many steps in the history that goes on
pub count_of_follows : (task : ℕ) (roles : List Role) (old new : List Entry) → Contains roles (Task task) → Follows roles old new → count_of task new ≡ count_of task old
count_of_follows task roles old new there f =
    let all : count_of task new ≡ count_of task old + count_of task f.rest = ap (count_of task) f.prefix ∙ count_of_append task old f.rest in
    let none = count_of_quiet task roles f.rest there f.quiet in
    omega arith

own_step : (task : ℕ) (e : Entry) → e.task ≡ task → count_of task (e ∷ []) ≡ 1
own_step task e own = rw (eq-eqb e.task task own) (omega arith)

-- a stamp gives its task one step more
pub count_of_added : (roles : List Role) (old new : List Entry) (task : ℕ) (call : Call) (ticket : ℕ) → Contains roles (Task task) → Added roles old new task call ticket → count_of task new ≡ count_of task old + 1
count_of_added roles old new task call ticket there a =
    let e : Entry = record { task = task; seq = count_of task (old ++ a.between); call = call } in
    let all : count_of task new ≡ count_of task (old ++ a.between) + count_of task (e ∷ []) = ap (count_of task) a.history ∙ count_of_append task (old ++ a.between) (e ∷ []) in
    let front = count_of_append task old a.between in
    let none = count_of_quiet task roles a.between there a.quiet in
    let one = own_step task e refl in
    omega arith

longer_step : (P : List Entry → Type 0) (a b : List Entry) (t : Bool) → nat_lt (length a) (length b) ≡ t → (length b ≤ length a → P a) → (length a ≤ length b → P b) → P (if t then b else a)
longer_step P a b true e h k = let below = ltb-true (length a) (length b) e in k (omega arith)
longer_step P a b false e h k = let above = ltb-false (length a) (length b) e in h (omega arith)

-- what holds of each of two histories where it is the longer one holds of the longer
pub longer_is : (P : List Entry → Type 0) (a b : List Entry) → (length b ≤ length a → P a) → (length a ≤ length b → P b) → P (longer a b)
longer_is P a b h k = longer_step P a b (nat_lt (length a) (length b)) refl h k

-- What a join learns: the history goes on from both former ones, and the whole one from it.
pub record Joins (mine theirs : List Role) (a b joined whole : List Entry) : Type 0 where
  pub own : Follows mine a joined
  pub other : Follows theirs b joined
  pub both : Follows (mine ++ theirs) joined whole

joins_longer : (mine theirs : List Role) (a b whole : List Entry) → Follows mine a whole → Follows theirs b whole → length a ≤ length b → Joins mine theirs a b b whole
joins_longer mine theirs a b whole f g h =
    let t = follows_between mine a b whole g.rest f g.prefix h in
    record { own = t.0; other = follows_itself theirs b; both = record { rest = g.rest; prefix = g.prefix; quiet = quiet_both mine theirs g.rest t.1 g.quiet } }

joins_own : (mine theirs : List Role) (a b whole : List Entry) → Follows mine a whole → Follows theirs b whole → length b ≤ length a → Joins mine theirs a b a whole
joins_own mine theirs a b whole f g h =
    let t = follows_between theirs b a whole f.rest g f.prefix h in
    record { own = follows_itself mine a; other = t.0; both = record { rest = f.rest; prefix = f.prefix; quiet = quiet_both mine theirs f.rest f.quiet t.1 } }

pub joins : (mine theirs : List Role) (a b whole : List Entry) → Follows mine a whole → Follows theirs b whole → Joins mine theirs a b (longer a b) whole
joins mine theirs a b whole f g = longer_is (λ h. Joins mine theirs a b h whole) a b (joins_own mine theirs a b whole f g) (joins_longer mine theirs a b whole f g)
