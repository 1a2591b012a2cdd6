-- How often a number stands in a list with one more, and how many steps a task made.
use Rattle.std.proofs.Common.{◌≡◌, ℕ, ◌+◌, ◌==◌, Bool, true, false, if◌then◌else◌, List, [], ◌∷◌, ◌++◌, length, refl, sym, zero-add, arith}
use Rattle.lw_calls.specs.declared.entry.Entry.{Entry}
use Rattle.lw_machine.specs.Desk.{Desk}
use Rattle.lw_machine.specs.Step.{after, reply}
use Rattle.lw_calls.specs.Entries.{count_of}
use Rattle.lw_machine.specs.History.{replies_of}
use Rattle.lw_calls.specs.Orders.{occurrences}

-- a number more stands once more
pub occurrences_push : (t : ℕ) (us : List ℕ) (u : ℕ) → occurrences t (us ++ u ∷ []) ≡ occurrences t us + occurrences t (u ∷ [])
occurrences_push t [] u = sym (zero-add (occurrences t (u ∷ [])))
occurrences_push t (x ∷ us) u = let h = occurrences_push t us u in omega (arith, h)

-- an element that comes first is counted
pub counted : {X : Type 0} (b : Bool) (x : X) (xs : List X) (n : ℕ) → length xs ≡ n → length (if b then x ∷ xs else xs) ≡ (if b then 1 else 0) + n
counted true x xs n h = omega (arith, h)
counted false x xs n h = omega (arith, h)

-- a task had as many replies as it made steps
pub length_replies_of : (d : Desk) (t : ℕ) (es : List Entry) → length (replies_of d t es) ≡ count_of t es
length_replies_of d t [] = refl
length_replies_of d t (x ∷ es) =
    counted (x.task == t) (reply d x.task x.call) _ _ (length_replies_of (after d x.task x.call) t es)
