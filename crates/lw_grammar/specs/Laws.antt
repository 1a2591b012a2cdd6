-- Laws of the grammar: reading gives what bytes spell, and fails at a first bad line; bytes are decided; and what they spell may be
-- run.
use Rattle.std.specs.Prelude.{◌≡◌, ℕ, ◌≤◌, List, Ok, Err, ◌⊎◌, All}
use Rattle.lw_calls.specs.Plan.{IsPlan}
use Rattle.lw_grammar.specs.declared.reason.Reason.{Reason}
use Rattle.lw_grammar.specs.Lines.{lines}
use Rattle.lw_grammar.specs.Script.{Setting, ScriptInput, SpellsInput, IsFirstBadIn}
use Rattle.lw_grammar.specs.Reading.{outcome_of}

-- Reading bytes line by line gives an input exactly where they spell it.
abbrev pub ReadingGivesSpelledInputs : Type 0
ReadingGivesSpelledInputs =
    (s : Setting) (bytes : List ℕ) (input : ScriptInput)
    → (outcome_of s bytes ≡ Ok input → SpellsInput s bytes input)
    × (SpellsInput s bytes input → outcome_of s bytes ≡ Ok input)

-- Reading bytes line by line fails exactly where there is a first bad line, with its number and its first reason.
abbrev pub ReadingFailsAtFirstBadLines : Type 0
ReadingFailsAtFirstBadLines =
    (s : Setting) (bytes : List ℕ) (n : ℕ) (reason : Reason)
    → (outcome_of s bytes ≡ Err (n, reason) → IsFirstBadIn s (lines bytes) n reason)
    × (IsFirstBadIn s (lines bytes) n reason → outcome_of s bytes ≡ Err (n, reason))

-- Bytes either have a first bad line, with one number and one reason, or they spell an input, and one only.
pub record IsDecidedIn (s : Setting) (bytes : List ℕ) : Type 0 where
  pub either : ((n : ℕ) × (reason : Reason) × IsFirstBadIn s (lines bytes) n reason)
      ⊎ ((input : ScriptInput) × SpellsInput s bytes input)
  pub not_both : (n : ℕ) (reason : Reason) (input : ScriptInput)
      → IsFirstBadIn s (lines bytes) n reason → SpellsInput s bytes input → ⊥
  pub one_line : (m n : ℕ) (r q : Reason)
      → IsFirstBadIn s (lines bytes) m r → IsFirstBadIn s (lines bytes) n q → (m ≡ n) × (r ≡ q)
  pub one_input : (p q : ScriptInput) → SpellsInput s bytes p → SpellsInput s bytes q → p ≡ q

-- every input is decided
abbrev pub InputsAreDecided : Type 0
InputsAreDecided = (s : Setting) (bytes : List ℕ) → IsDecidedIn s bytes

-- An input whose plan may be run: `IsPlan` holds of it, it has the hooks that were handed in, and the order names numbers that
-- tasks may have.
pub record IsRunnableInput (s : Setting) (input : ScriptInput) : Type 0 where
  pub plan : IsPlan input.plan
  pub hooks : input.plan.sizes.hooks ≡ s.hooks
  pub order : All (λ task. task ≤ 15) input.order

-- every input that bytes spell may be run
abbrev pub SpelledInputsAreRunnable : Type 0
SpelledInputsAreRunnable =
    (s : Setting) (bytes : List ℕ) (input : ScriptInput) → SpellsInput s bytes input → IsRunnableInput s input
