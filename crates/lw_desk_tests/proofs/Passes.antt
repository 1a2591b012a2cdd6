-- The passes of two tasks.
use Rattle.std.proofs.Common.{◌≡◌, ℕ, zero, suc, ◌<◌, length, List, [], ◌∷◌, ◌++◌, map, refl, ap, sym, subst, ◌∙◌, arith}
use Rattle.std.specs.Prelude.{Contains}
use Rattle.std.proofs.lemmas.List.{length-map}
use Rattle.lw_locks.specs.Closing.{task_of, HasEach}
use Rattle.lw_locks.specs.Seen.{SeenPass}

one_of_two : (t : ℕ) → t < 2 → Contains (0 ∷ 1 ∷ []) t
one_of_two zero low = (0, omega arith, refl)
one_of_two (suc zero) low = (1, omega arith, refl)
one_of_two (suc (suc t)) low = absurd (omega (arith, low))

-- there is one of each task
pub two_are_each : (passes : List SeenPass) (n : ℕ) → n ≡ 2 → map task_of passes ≡ 0 ∷ 1 ∷ [] → HasEach passes n
two_are_each passes n is are t low = subst (λ ts. Contains ts t) (sym are) (one_of_two t (omega (arith, is, low)))

pub two_are_many : (passes : List SeenPass) (n : ℕ) → n ≡ 2 → map task_of passes ≡ 0 ∷ 1 ∷ [] → length passes ≡ n
two_are_many passes n is are = sym (length-map passes task_of) ∙ (ap length are ∙ sym is)

tasks_with : (front : List SeenPass) (p : SeenPass) → map task_of (front ++ p ∷ []) ≡ map task_of front ++ p.task ∷ []
tasks_with [] p = refl
tasks_with (x ∷ xs) p = ap (λ ns. x.task ∷ ns) (tasks_with xs p)

same_tasks : (was now front again : List SeenPass) (p q : SeenPass) → was ≡ front ++ p ∷ [] → now ≡ again ++ q ∷ [] → map task_of again ≡ map task_of front → q.task ≡ p.task → map task_of now ≡ map task_of was
same_tasks was now front again p q e f same task =
    ap (map task_of) f ∙ (tasks_with again q ∙ (ap (λ ns. ns ++ q.task ∷ []) same ∙ (ap (λ n. map task_of front ++ n ∷ []) task ∙ (sym (tasks_with front p) ∙ sym (ap (map task_of) e)))))

-- The last two passes went on, and were put back.
pub two_again : (was mid front put now : List SeenPass) (p q a b : SeenPass) → was ≡ mid ++ q ∷ [] → mid ≡ front ++ p ∷ [] → put ≡ front ++ a ∷ [] → now ≡ put ++ b ∷ [] → a.task ≡ p.task → b.task ≡ q.task → map task_of now ≡ map task_of was
two_again was mid front put now p q a b e f g h one two =
    same_tasks was now mid put q b e h (same_tasks mid put front front p a f g refl one) two
