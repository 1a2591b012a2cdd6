-- What reading a script answers, given that it gives the outcome of its bytes.
use Rattle.std.proofs.Common.{◌≡◌, ℕ, List, Result, Ok, Err, IfOk, sym, ap, subst, ◌∙◌}
use Rattle.lw_grammar.specs.declared.reason.Reason.{Reason}
use Rattle.lw_grammar.specs.Lines.{lines}
use Rattle.lw_grammar.specs.Script.{Setting, ScriptInput, SpellsInput, IsFirstBadIn}
use Rattle.lw_grammar.specs.Reading.{outcome_of}
use Rattle.lw_grammar.specs.Laws.{IsRunnableInput}
use Rattle.lw_grammar.proofs.ScriptOutcome.{outcome_spells, spells_outcome, refused_outcome, outcome_refused}
use Rattle.lw_grammar.proofs.ScriptRunnable.{spelled_runnable}
use Rattle.lw_script.specs.declared.input.Input.{Input}
use Rattle.lw_script.specs.declared.input.ScriptStop.{ScriptStop}
use Rattle.lw_script.specs.declared.input.ScriptStop.TheVariants.{Refused, Memory}
use Rattle.lw_script.specs.Answers.{input_meaning, Gives, GivesInput, RefusesAt}

-- an input that is answered is the one that the bytes spell
pub found : (s : Setting) (bytes : List ℕ) (r : Result Input ScriptStop) → Gives r (outcome_of s bytes) → IfOk r (λ input. SpellsInput s bytes (input_meaning input))
found s bytes (Ok input) g = outcome_spells s bytes (input_meaning input) g
found s bytes (Err (Refused line reason)) g = tt
found s bytes (Err Memory) g = tt

-- an input that is answered may be run
pub runnable : (s : Setting) (bytes : List ℕ) (r : Result Input ScriptStop) → Gives r (outcome_of s bytes) → IfOk r (λ input. IsRunnableInput s (input_meaning input))
runnable s bytes (Ok input) g = spelled_runnable s bytes (input_meaning input) (outcome_spells s bytes (input_meaning input) g)
runnable s bytes (Err (Refused line reason)) g = tt
runnable s bytes (Err Memory) g = tt

-- a refusal names the first bad line
pub refused : (s : Setting) (bytes : List ℕ) (r : Result Input ScriptStop) → Gives r (outcome_of s bytes) → (line : ℕ) (reason : Reason) → r ≡ Err (Refused line reason) → IsFirstBadIn s (lines bytes) line reason
refused s bytes r g line reason e =
    let G : Result Input ScriptStop → Type 0 = λ o. Gives o (outcome_of s bytes) in
    refused_outcome s bytes line reason (subst G e g)

-- an input that is the outcome is answered
read_at : (s : Setting) (bytes : List ℕ) (r : Result Input ScriptStop) → Gives r (outcome_of s bytes) → (input : ScriptInput) → outcome_of s bytes ≡ Ok input → GivesInput input r
read_at s bytes (Ok told) g input e =
    let both : Ok (input_meaning told) ≡ Ok input = sym g ∙ e in cc
read_at s bytes (Err (Refused line reason)) g input e =
    let both : Err (line, reason) ≡ Ok input = sym g ∙ e in absurd (cc)
read_at s bytes (Err Memory) g input e = tt

-- bytes that spell an input are answered by it
pub only_read : (s : Setting) (bytes : List ℕ) (r : Result Input ScriptStop) → Gives r (outcome_of s bytes) → (input : ScriptInput) → SpellsInput s bytes input → GivesInput input r
only_read s bytes r g input k = read_at s bytes r g input (spells_outcome s bytes input k)

-- a refusal that is the outcome is answered
refused_at : (s : Setting) (bytes : List ℕ) (r : Result Input ScriptStop) → Gives r (outcome_of s bytes) → (line : ℕ) (reason : Reason) → outcome_of s bytes ≡ Err (line, reason) → RefusesAt line reason r
refused_at s bytes (Ok input) g line reason e =
    let both : Ok (input_meaning input) ≡ Err (line, reason) = sym g ∙ e in absurd (cc)
refused_at s bytes (Err (Refused n why)) g line reason e =
    let both : Err (n, why) ≡ Err (line, reason) = sym g ∙ e in
    let same : (n, why) ≡ (line, reason) = cc in
    (ap (λ (p : ℕ × Reason). p.0) same, ap (λ (p : ℕ × Reason). p.1) same)
refused_at s bytes (Err Memory) g line reason e = tt

-- bytes with a first bad line are refused at it
pub only_refused : (s : Setting) (bytes : List ℕ) (r : Result Input ScriptStop) → Gives r (outcome_of s bytes) → (line : ℕ) (reason : Reason) → IsFirstBadIn s (lines bytes) line reason → RefusesAt line reason r
only_refused s bytes r g line reason b = refused_at s bytes r g line reason (outcome_refused s bytes line reason b)
