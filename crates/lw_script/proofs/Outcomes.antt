-- The outcome of lines, a line at a time, and the place after the lines that were read.
use Rattle.std.proofs.Common.{◌≡◌, ℕ, ◌+◌, ◌-◌, ◌<◌, ◌≤◌, Bool, true, false, min, List, [], ◌∷◌, length, Result, Ok, Err, IfOk, ⊎_elim, ◌⊎◌, refl, sym, ap, subst, ◌∙◌, arith}
use Rattle.lw_grammar.specs.Told.{told, stands_for}
use Rattle.lw_grammar.specs.Script.{Setting, is_nothing_due, statements_with, may_end, ScriptInput, input_from, added, is_skipped, line_read}
use Rattle.lw_grammar.specs.Reading.{Reached, at_number, end_read, lines_read}
use Rattle.lw_grammar.specs.GoodLines.{AreGoodLines}
use Rattle.lw_grammar.specs.declared.reason.Reason.{Reason}
use Rattle.lw_grammar.specs.declared.reason.Reason.TheVariants.{Missing}
use Rattle.lw_grammar.specs.Demands.{◌>>=◌, demand}
use Rattle.lw_grammar.specs.Lines.{lines}
use Rattle.lw_grammar.specs.Statements.{Statement, Line}
use Rattle.lw_grammar.proofs.ScriptOutcome.{with_good}
use Rattle.lw_words.specs.Cuts.{IsCutLine}
use Rattle.lw_script.specs.declared.input.ScriptStop.{ScriptStop}
use Rattle.lw_script.specs.declared.input.ScriptStop.TheVariants.{Refused, Memory}
use Rattle.lw_reader.specs.declared.state.Reader.{Reader}
use Rattle.lw_script.specs.Answers.{Advances, Gives, Takes}
use Rattle.std.proofs.lemmas.Int.{clamps}

-- the statements with a further line are those of good lines
pub step_good : (s : Setting) (above : List Statement) (line : List ℕ) (statements : List Statement) → AreGoodLines s above → statements_with s above line ≡ Ok statements → AreGoodLines s statements
step_good s above line statements g e =
    let P : Result (List Statement) Reason → Type 0 = λ r. IfOk r (AreGoodLines s) in subst P e (with_good s above line g)

-- what they give at the end
pub at_end : (s : Setting) (p : Reached) (rest : List ℕ) → (is_nothing_due (told p.statements).section ≡ true) ⊎ (rest ≡ []) → lines_read s p (lines rest) ≡ end_read s p
at_end s p rest h =
    ⊎_elim (λ e. done (lines rest) e) (λ e. ap (λ bytes. lines_read s p (lines bytes)) e) h
  where
    done : (ls : List (List ℕ)) → is_nothing_due (told p.statements).section ≡ true → lines_read s p ls ≡ end_read s p
    done [] e = refl
    done (line ∷ ls) e = rw e refl

-- the place after a further line, or at the end of the bytes
pub place_next : (all place : ℕ) (rest line behind : List ℕ) → IsCutLine rest line behind → length rest ≤ all → min all place ≡ all - length rest → min all (place + (length line + 1)) ≡ all - length behind
place_next all place rest line behind cut short at = go (length rest) (length line) (length behind) short at cut.left cut.shorter
  where
    go : (r l b : ℕ) → r ≤ all → min all place ≡ all - r → b ≡ r - (l + 1) → b < r → min all (place + (l + 1)) ≡ all - b
    go r l b short at left less = omega (arith, clamps)

-- before the first line
pub none_left : (all : ℕ) → min all 0 ≡ all - all
none_left all = omega (arith, clamps)

-- what is given of what lines give
abbrev pub inputs_of : Setting → ℕ → Result Reached (ℕ × Reason) → Result ScriptInput (ℕ × Reason)
inputs_of s all r = r >>= (λ p. Ok (input_from s (told p.statements) (min all p.place)))

-- a line that stops the reading gives the outcome
pub stopped : (s : Setting) (new : Reader) (all n : ℕ) (p : Reached) (line : List ℕ) (ls : List (List ℕ)) (e : ScriptStop) → p.number ≡ n → is_nothing_due (told p.statements).section ≡ false → Advances s new n (Err e) (statements_with s p.statements line) → Gives (Err e) (inputs_of s all (lines_read s p (line ∷ ls)))
stopped s new all n p line ls (Refused l reason) same due k =
    let e : statements_with s p.statements line ≡ Err reason = k.1 in
    let first : inputs_of s all (lines_read s p (line ∷ ls)) ≡ Err (p.number, reason) = rw (due, e) refl in
    first ∙ ap (λ i. Err (i, reason)) (same ∙ sym k.0)
stopped s new all n p line ls Memory same due k = tt

-- what is given at the end of the lines
pub ended : (s : Setting) (all place : ℕ) (p : Reached) → min all p.place ≡ place → inputs_of s all (end_read s p) ≡ (end_read s p >>= (λ q. Ok (input_from s (told q.statements) place)))
ended s all place p e = go (may_end s.form (told p.statements).section) refl
  where
    Ends : Bool → Result Reached (ℕ × Reason)
    Ends b = at_number p.number (demand b Missing) >>= (λ _. Ok p)

    go : (b : Bool) → may_end s.form (told p.statements).section ≡ b → inputs_of s all (Ends b) ≡ (Ends b >>= (λ q. Ok (input_from s (told q.statements) place)))
    go true d = ap (λ n. Ok (input_from s (told p.statements) n)) e
    go false d = refl

-- a line that was taken goes on
pub advances : (s : Setting) (new : Reader) (above : List Statement) (n : ℕ) (answer : Result (Unit {0}) ScriptStop) (line : List ℕ) → is_skipped line ≡ false → Takes s new above n answer (line_read s (told above) line) → Advances s new n answer (statements_with s above line)
advances s new above n answer line e h = rw e (go answer h)
  where
    with_all : Result Line Reason → Result (List Statement) Reason
    with_all o = o >>= (λ l. Ok (added (stands_for (told above) l) above))

    go : (answer : Result (Unit {0}) ScriptStop) → Takes s new above n answer (line_read s (told above) line) → Advances s new n answer (with_all (line_read s (told above) line))
    go (Ok done) k = (added (stands_for (told above) k.0) above, ap with_all k.1, k.2)
    go (Err (Refused m reason)) k = (k.0, ap with_all k.1)
    go (Err Memory) k = tt
