-- What reading lines answers, and what reading a script answers.
use Rattle.std.specs.Prelude.{◌≡◌, ℕ, List, Result, Ok, Err}
use Rattle.lw_grammar.specs.declared.reason.Reason.{Reason}
use Rattle.lw_grammar.specs.Demands.{◌>>=◌}
use Rattle.lw_grammar.specs.Statements.{Statement, Line}
use Rattle.lw_grammar.specs.Told.{stands_for, told}
use Rattle.lw_grammar.specs.Script.{Setting, added, ScriptInput, input_from}
use Rattle.lw_grammar.specs.Reading.{Reached, end_read}
use Rattle.lw_script.specs.declared.input.Input.{Input}
use Rattle.lw_script.specs.declared.input.ScriptStop.{ScriptStop}
use Rattle.lw_script.specs.declared.input.ScriptStop.TheVariants.{Refused, Memory}
use Rattle.lw_reader.specs.declared.state.Reader.{Reader}
use Rattle.lw_reader.specs.Represents.{Represents}

-- what a script gives, as the grammar has it
abbrev pub input_meaning : Input → ScriptInput
input_meaning i = record { plan = i.plan; order = i.order; rest = i.rest }

-- After a line below lines with these statements the reader represents those too for which the line stands that the grammar
-- gives; or the line's number is told with the grammar's reason; or memory ran out.
abbrev pub Takes : Setting → Reader → List Statement → ℕ → Result (Unit {0}) ScriptStop → Result Line Reason → Type 0
Takes s new above n (Ok done) r = (line : Line) × (r ≡ Ok line) × Represents s new (added (stands_for (told above) line) above)
Takes s new above n (Err (Refused line reason)) r = (line ≡ n) × (r ≡ Err reason)
Takes s new above n (Err Memory) r = Unit {0}

-- After a further line, skipped or not, the reader represents the statements of the lines with it; or the line's number is told
-- with the grammar's reason; or memory ran out.
abbrev pub Advances : Setting → Reader → ℕ → Result (Unit {0}) ScriptStop → Result (List Statement) Reason → Type 0
Advances s new n (Ok done) r = (statements : List Statement) × (r ≡ Ok statements) × Represents s new statements
Advances s new n (Err (Refused line reason)) r = (line ≡ n) × (r ≡ Err reason)
Advances s new n (Err Memory) r = Unit {0}

-- The answer is the outcome, unless memory ran out.
abbrev pub Gives : Result Input ScriptStop → Result ScriptInput (ℕ × Reason) → Type 0
Gives (Ok input) o = o ≡ Ok (input_meaning input)
Gives (Err (Refused line reason)) o = o ≡ Err (line, reason)
Gives (Err Memory) o = Unit {0}

-- the outcome at the end of the lines, where what stands after them has this place
abbrev pub ended_with : Setting → ℕ → Reached → Result ScriptInput (ℕ × Reason)
ended_with s place p = do
  q ← end_read s p
  Ok (input_from s (told q.statements) place)

-- The answer is this input, and the answer is this refusal, unless memory ran out.
abbrev pub GivesInput : ScriptInput → Result Input ScriptStop → Type 0
GivesInput wanted (Ok input) = input_meaning input ≡ wanted
GivesInput wanted (Err (Refused line reason)) = ⊥
GivesInput wanted (Err Memory) = Unit {0}

abbrev pub RefusesAt : ℕ → Reason → Result Input ScriptStop → Type 0
RefusesAt n why (Ok input) = ⊥
RefusesAt n why (Err (Refused line reason)) = (line ≡ n) × (reason ≡ why)
RefusesAt n why (Err Memory) = Unit {0}
