-- How long a history can be: no task has more steps than can be numbered.
use Rattle.std.proofs.Common.{◌≡◌, ℕ, zero, suc, ◌+◌, ◌*◌, ◌<◌, ◌≤◌, ◌^◌, ◌==◌, if◌then◌else◌, nat_lt, List, [], ◌∷◌, length, refl, sym, arith, suc-mul}
use Rattle.std.proofs.lemmas.Bool.Decides.{nat_tests}
use Rattle.std.proofs.lemmas.List.Elements.{All-head, All-tail}
use Rattle.lw_calls.specs.declared.entry.Entry.{Entry}
use Rattle.lw_calls.specs.Entries.{count_of}
use Rattle.lw_order.specs.Numbered.{TasksBelow}

-- the steps of the tasks below the number
total : ℕ → List Entry → ℕ
total zero es = 0
total (suc n) es = count_of n es + total n es

total_none : (n : ℕ) → total n [] ≡ 0
unfolding total
total_none zero = refl
total_none (suc n) = let h = total_none n in omega arith

-- 1 for a task below the number
abbrev counted : ℕ → ℕ → ℕ
counted task n = if nat_lt task n then 1 else 0

counted_none : (task : ℕ) → counted task 0 ≡ 0
counted_none task = grind (arith, nat_tests)

counted_one : (task n : ℕ) → task < n → counted task n ≡ 1
counted_one task n h = grind (arith, nat_tests)

counted_more : (task n : ℕ) → counted task (suc n) ≡ (if task == n then 1 else 0) + counted task n
counted_more task n = grind (arith, nat_tests)

-- one step counts once, for its own task
total_more : (n : ℕ) (e : Entry) (es : List Entry) → total n (e ∷ es) ≡ counted e.task n + total n es
unfolding total
total_more zero e es = let h = counted_none e.task in omega arith
total_more (suc n) e es =
    let before = total_more n e es in
    let here = counted_more e.task n in
    omega arith

-- each step is of a task below the number
length_total : (n : ℕ) (es : List Entry) → TasksBelow n es → length es ≡ total n es
length_total n [] h = sym (total_none n)
length_total n (e ∷ es) h =
    let rest : length es ≡ total n es = length_total n es (All-tail (λ (e : Entry). e.task < n) e es h) in
    let more = total_more n e es in
    let one = counted_one e.task n (All-head (λ (e : Entry). e.task < n) e es h) in
    omega arith

total_bound : (n most : ℕ) (es : List Entry) → ((task : ℕ) → count_of task es ≤ most) → total n es ≤ n * most
unfolding total
total_bound zero most es h = omega arith
total_bound (suc n) most es h = let here = h n in let rest = total_bound n most es h in omega (arith, suc-mul n most)

-- there is room for one more step below 2 ^ 64
pub length_bound : (tasks : ℕ) (es : List Entry) → tasks < 2 ^ 32 → TasksBelow tasks es → ((task : ℕ) → count_of task es ≤ 4294967295) → length es + 1 < 18446744073709551616
length_bound tasks es few below steps =
    let all : length es ≡ total tasks es = length_total tasks es below in
    let most : total tasks es ≤ tasks * 4294967295 = total_bound tasks 4294967295 es steps in
    let fits : tasks ≤ 4294967295 = omega arith in
    omega arith
