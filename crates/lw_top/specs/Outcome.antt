-- The outcome of a command on an input, and what a command promises by it.
use Rattle.std.specs.Prelude.{◌≡◌, ◌≢◌, ◌⊎◌, ℕ, ◌+◌, ◌<◌, ◌≤◌, List, length}
use Rattle.lw_io.specs.Streams.{StreamChange, NoneLeft, TakesAtMost, Took, HasFailed}
use Rattle.lw_grammar.specs.declared.reason.Reason.{Reason}
use Rattle.lw_grammar.specs.Lines.{lines}
use Rattle.lw_grammar.specs.Script.{ScriptInput, SpellsInput, IsFirstBadIn}
use Rattle.lw_machine.specs.Hook.{Hook}
use Rattle.lw_top.specs.declared.status.Status.{Status}
use Rattle.lw_top.specs.declared.status.Status.TheVariants.{Done, Refused, ReadFault, NoMemory, TooLong, Differs, BadOrder}
use Rattle.lw_top.specs.declared.words.ScriptCommand.{ScriptCommand}
use Rattle.lw_top.specs.Bitmaps.{IsBitmapOutcome}
use Rattle.lw_top.specs.Commands.{Asked, OfScript, OfDemo, OfDisplay, OfBitmap, reads_with, IsTextFor, IsBadOrderFor}
use Rattle.lw_top.specs.Commands.{IsDifferenceFor}
use Rattle.lw_top.specs.Demo.{demo_text}
use Rattle.lw_top.specs.Displays.{IsDisplayOutcome}
use Rattle.lw_top.specs.Status.{Says, text_of, input_limit}

-- The outcome of a command on a script in an input, where these hooks are handed in: it is done, with the command's text; or the
-- order that it goes by has a first bad place; or the report behind the script isn't the machine's, from a place on.
abbrev pub IsOutcomeFor : List Hook → ScriptCommand → List ℕ → ScriptInput → Status → List ℕ → Type 0
IsOutcomeFor hooks command input script Done text = IsTextFor hooks command input script text
IsOutcomeFor hooks command input script (BadOrder place) text =
    IsBadOrderFor command input script place × (text ≡ text_of (BadOrder place))
IsOutcomeFor hooks command input script (Differs place) text =
    IsDifferenceFor hooks command input script place × (text ≡ text_of (Differs place))
IsOutcomeFor hooks command input script status text = ⊥

-- The line is the first bad one of an input, for its first reason, as a command reads it where so many hooks are handed in.
abbrev pub IsBadLineOf : List Hook → ScriptCommand → List ℕ → ℕ → Reason → Type 0
IsBadLineOf hooks command input line reason = IsFirstBadIn (reads_with (length hooks) command) (lines input) line reason

-- The outcome of a command on an input, where these hooks are handed in, which is the answer that is due and its text: more bytes
-- than the limit are too long; else the first bad line is refused for its first reason; else it is the outcome on the script that
-- the input spells.
abbrev pub IsOutcome : List Hook → ScriptCommand → List ℕ → Status → List ℕ → Type 0
IsOutcome hooks command input TooLong text = (input_limit < length input) × (text ≡ text_of TooLong)
IsOutcome hooks command input (Refused line reason) text =
    (length input ≤ input_limit) × IsBadLineOf hooks command input line reason × (text ≡ text_of (Refused line reason))
IsOutcome hooks command input status text =
    (length input ≤ input_limit) × (script : ScriptInput) × SpellsInput (reads_with (length hooks) command) input script
    × IsOutcomeFor hooks command input script status text

-- These bytes were taken from a source: all that it had left, which were no more than the limit, or one byte more than the limit.
pub record IsTaken (input : List ℕ) (source : StreamChange) : Type 0 where
  pub front : Took input source
  pub ended : ((length input ≤ input_limit) × NoneLeft source.new.bytes) ⊎ (length input ≡ input_limit + 1)

-- The outcomes on inputs: which answer is due, and which text with it.
abbrev pub Outcomes : Type 1
Outcomes = List ℕ → Status → List ℕ → Type 0

-- The answer is the outcome on what was taken from a source, and its text was written to a sink.
pub record Served (IsDueOn : Outcomes) (result : Status) (source sink : StreamChange) : Type 0 where
  pub input : List ℕ
  pub due : Status
  pub text : List ℕ
  pub taken : IsTaken input source
  pub outcome : IsDueOn input due text
  pub said : Says text due result sink

-- What a command that reads its input promises: the outcome, unless reading failed or memory ran out; and each answer other than
-- ReadFault comes only where no read failed.
pub record Answered (IsDueOn : Outcomes) (result : Status) (source sink : StreamChange) : Type 0 where
  pub outcome : Served IsDueOn result source sink ⊎ ((result ≡ ReadFault) × HasFailed source) ⊎ (result ≡ NoMemory)
  pub no_read_fault : result ≢ ReadFault → source.new.faults ≡ source.old.faults
  pub taken : TakesAtMost (input_limit + 1) source.old.bytes source.new.bytes
  pub source_count : source.old.faults ≤ source.new.faults
  pub sink_count : sink.old.faults ≤ sink.new.faults

-- What a demo promises: its text, unless memory runs out.
abbrev pub DemoSaid : ℕ → ℕ → Status → StreamChange → Type 0
DemoSaid number tasks result sink = Says (demo_text number tasks) Done result sink ⊎ (result ≡ NoMemory)

-- What the program promises of what is asked for where it is handed these hooks, which only a command on a script needs.
abbrev pub Promised : List Hook → Asked → Status → StreamChange → StreamChange → Type 0
Promised hooks (OfScript command) result source sink = Answered (IsOutcome hooks command) result source sink
Promised hooks (OfDemo number tasks) result source sink = DemoSaid number tasks result sink
Promised hooks OfDisplay result source sink = Answered IsDisplayOutcome result source sink
Promised hooks (OfBitmap name) result source sink = Answered (IsBitmapOutcome name) result source sink
