-- The first line of bytes, by the place of its line feed.
use Rattle.std.proofs.Common.{◌≡◌, ℕ, suc, ◌+◌, ◌-◌, ◌<◌, ◌≤◌, ◌==◌, Bool, true, false, not, cond, List, [], ◌∷◌, length, take, drop, Some, None, position, refl, sym, ap, subst, ◌∙◌, arith, one-add, length-drop, length-take-le}
use Rattle.std.specs.List.{onto_first, position_or_len}
use Rattle.lw_grammar.specs.Lines.{lines}
use Rattle.lw_words.specs.Cuts.{IsCutLine}
use Rattle.std.proofs.lemmas.List.{take_rest}
use Rattle.std.proofs.lemmas.Grind.{common_steps}
use Rattle.std.proofs.lemmas.Bool.Decides.{nat_tests}

-- where a byte was found
pub found_at : {X : Type 0} (p : X → Bool) (bs : List X) (i : ℕ) → position p bs ≡ Some i → (i < length bs) × (position_or_len p bs ≡ i)
found_at p bs i e = (grind (arith, common_steps), grind (arith, common_steps))

-- where no byte was found
pub found_none : {X : Type 0} (p : X → Bool) (bs : List X) → position p bs ≡ None → length bs ≤ position_or_len p bs
found_none p bs e = grind (arith, common_steps)

-- 1 + k + 1 as a successor
pub two_up : (k : ℕ) → (1 + k) + 1 ≡ suc (k + 1)
two_up k = omega arith

-- the first line with a byte put before it
lines_step : (b : ℕ) (bs : List ℕ) (c : Bool) (k : ℕ) → (k < length bs → lines bs ≡ take k bs ∷ lines (drop (k + 1) bs)) → cond (not c) (1 + k) 0 < suc (length bs) → cond c ([] ∷ lines bs) (onto_first b (lines bs)) ≡ take (cond (not c) (1 + k) 0) (b ∷ bs) ∷ lines (drop (cond (not c) (1 + k) 0 + 1) (b ∷ bs))
lines_step b bs true k h lt = refl
lines_step b bs false k h lt =
    let e : lines bs ≡ take k bs ∷ lines (drop (k + 1) bs) = h (omega arith) in
    let f : onto_first b (lines bs) ≡ (b ∷ take k bs) ∷ lines (drop (k + 1) bs) = ap (onto_first b) e in
    let P : ℕ → ℕ → Type 0 = λ i j. onto_first b (lines bs) ≡ take i (b ∷ bs) ∷ lines (drop j (b ∷ bs)) in
    let g : P (suc k) (suc (k + 1)) = f in
    let Q : ℕ → Type 0 = λ i. P i (suc (k + 1)) in
    let R : ℕ → Type 0 = λ j. P (1 + k) j in
    subst R (sym (two_up k)) (subst Q (sym (one-add k)) g)

-- the first line, by the place of its line feed
lines_at : (bs : List ℕ) → position_or_len (λ b. b == 10) bs < length bs → lines bs ≡ take (position_or_len (λ b. b == 10) bs) bs ∷ lines (drop (position_or_len (λ b. b == 10) bs + 1) bs)
lines_at [] h = absurd (omega arith)
lines_at (b ∷ bs) h = lines_step b bs (b == 10) (position_or_len (λ c. c == 10) bs) (lines_at bs) h

-- the first line, where a line feed ends it
pub first_line : (bs : List ℕ) (i : ℕ) → position (λ b. b == 10) bs ≡ Some i → lines bs ≡ take i bs ∷ lines (drop (i + 1) bs)
first_line bs i e =
    let f = found_at (λ b. b == 10) bs i e in
    let P : ℕ → Type 0 = λ k. k < length bs → lines bs ≡ take k bs ∷ lines (drop (k + 1) bs) in
    subst P f.1 (lines_at bs) f.0

-- the last line with a byte put before it
last_step : (b : ℕ) (bs : List ℕ) (c : Bool) (k : ℕ) → (length bs ≤ k → onto_first b (lines bs) ≡ (b ∷ bs) ∷ []) → suc (length bs) ≤ cond (not c) (1 + k) 0 → cond c ([] ∷ lines bs) (onto_first b (lines bs)) ≡ (b ∷ bs) ∷ []
last_step b bs true k h le = absurd (omega arith)
last_step b bs false k h le = h (omega arith)

-- the last line after a byte
onto_last : (b : ℕ) (bs : List ℕ) → length bs ≤ position_or_len (λ c. c == 10) bs → onto_first b (lines bs) ≡ (b ∷ bs) ∷ []
onto_last b [] h = refl
onto_last b (d ∷ ds) h =
    ap (onto_first b) (last_step d ds (d == 10) (position_or_len (λ c. c == 10) ds) (onto_last d ds) h)

-- the last line, where no line feed ends it
pub last_line : (bs : List ℕ) → 0 < length bs → position (λ b. b == 10) bs ≡ None → lines bs ≡ bs ∷ []
last_line [] lt e = absurd (omega arith)
last_line (b ∷ bs) lt e =
    last_step b bs (b == 10) (position_or_len (λ c. c == 10) bs) (onto_last b bs) (found_none (λ c. c == 10) (b ∷ bs) e)

-- the bytes after a line feed
pub cuts_line : (bs : List ℕ) (i : ℕ) → position (λ b. b == 10) bs ≡ Some i → IsCutLine bs (take i bs) (take (length bs - (i + 1)) (drop (i + 1) bs))
cuts_line bs i e =
    let f = (found_at (λ b. b == 10) bs i e).0 in
    let t : take (length bs - (i + 1)) (drop (i + 1) bs) ≡ drop (i + 1) bs = take_rest bs (i + 1) in
    let n : length (take i bs) ≡ i = length-take-le i bs (omega (arith, f)) in
    let P : List ℕ → Type 0 = λ r. IsCutLine bs (take i bs) r in
    subst P (sym t) (record {
      lines = first_line bs i e;
      left = omega (arith, length-drop (i + 1) bs, n);
      shorter = omega (arith, length-drop (i + 1) bs);
    })

-- the last line, where no line feed ends it, and nothing after it
pub whole_cut : (bs front back : List ℕ) → 0 < length bs → position (λ b. b == 10) bs ≡ None → front ≡ take (length bs) bs → back ≡ drop (length bs) bs → IsCutLine bs front back
whole_cut bs front back lt e f g =
    let x : take (length bs) bs ≡ bs = grind (arith, common_steps) in
    let y : drop (length bs) bs ≡ [] = grind (arith, common_steps) in
    let h : IsCutLine bs bs [] = record { lines = last_line bs lt e; left = omega arith; shorter = lt } in
    let Q : List ℕ → Type 0 = λ a. IsCutLine bs a [] in
    let R : List ℕ → Type 0 = λ b. IsCutLine bs front b in
    subst R (sym (g ∙ y)) (subst Q (sym (f ∙ x)) h)

-- bytes that aren't empty are some
pub some_bytes : (bs : List ℕ) (b : Bool) → b ≡ (length bs == 0) → b ≡ false → 0 < length bs
some_bytes bs b e f = grind (arith, nat_tests)
