-- What follows one read or write after another.
use Rattle.std.proofs.Common.{◌≡◌, ℕ, ◌+◌, ◌-◌, ◌≤◌, List, ◌++◌, length, Option, None, Some, refl, sym, ap, ◌∙◌, append_assoc, length-append, arith, take, drop}
use Rattle.std.proofs.Math.Seq.{take-add}
use Rattle.lw_io.specs.Streams.{bytes_before, bytes_after, TakesAtMost, TakesJust}

-- bytes before bytes are the joined bytes
pub bytes_before_bytes_before : (a b : List ℕ) (told : Option (List ℕ)) → bytes_before a (bytes_before b told) ≡ bytes_before (a ++ b) told
bytes_before_bytes_before a b None = refl
bytes_before_bytes_before a b (Some rest) = ap Some (sym (append_assoc a b rest))

-- bytes after bytes are the joined bytes
pub bytes_after_bytes_after : (told : Option (List ℕ)) (a b : List ℕ) → bytes_after (bytes_after told a) b ≡ bytes_after told (a ++ b)
bytes_after_bytes_after None a b = refl
bytes_after_bytes_after (Some start) a b = ap Some (append_assoc start a b)

-- a prefix of some bytes, and then a prefix of the rest, is a longer prefix
pub written_more : (at n : ℕ) (bytes rest : List ℕ) (before between after : Option (List ℕ)) → rest ≡ drop at bytes → between ≡ bytes_after before (take at bytes) → after ≡ bytes_after between (take n rest) → after ≡ bytes_after before (take (at + n) bytes)
written_more at n bytes rest before between after r e f =
    rw (f, e, r) (bytes_after_bytes_after before (take at bytes) (take n (drop at bytes)) ∙ ap (bytes_after before) (sym (take-add at n bytes)))

-- bytes that were taken one after another are at most so many together
pub TakesAtMost_from : (most had : ℕ) (bytes : List ℕ) (before between after : Option (List ℕ)) → had ≡ length bytes → had ≤ most → before ≡ bytes_before bytes between → TakesAtMost (most - had + 1) between after → TakesAtMost (most + 1) before after
TakesAtMost_from most had bytes before between after l h e t =
    let more : List ℕ = t.0 in
    (bytes ++ more, omega (arith, length-append bytes more), e ∙ ap (bytes_before bytes) t.2 ∙ bytes_before_bytes_before bytes more after)

pub TakesJust_from : (most had : ℕ) (bytes : List ℕ) (before between after : Option (List ℕ)) → had ≡ length bytes → had ≤ most → before ≡ bytes_before bytes between → TakesJust (most - had + 1) between after → TakesJust (most + 1) before after
TakesJust_from most had bytes before between after l h e t =
    let more : List ℕ = t.0 in
    (bytes ++ more, omega (arith, length-append bytes more, t.1), e ∙ ap (bytes_before bytes) t.2 ∙ bytes_before_bytes_before bytes more after)

-- how far a copy of some bytes to a sink has come, from the count of faults and what was written before it
pub record HasWritten (bytes : List ℕ) (at faults_before faults : ℕ) (before written : Option (List ℕ)) : Type 0 where
  pub in_range : at ≤ length bytes
  pub count : faults ≡ faults_before
  pub prefix : written ≡ bytes_after before (take at bytes)

-- how far a read of all that is left has come, from the count of faults and what was left before it
pub record HasRead (bytes : List ℕ) (limit faults_before faults : ℕ) (before left : Option (List ℕ)) : Type 0 where
  pub within : length bytes ≤ limit
  pub count : faults ≡ faults_before
  pub front : before ≡ bytes_before bytes left
