-- What follows from the promise of a command: an input has one outcome, and each answer tells what it should of the input.
use Rattle.std.specs.Prelude.{◌≡◌, ◌≢◌, ◌⊎◌, ℕ, ◌+◌, ◌<◌, ◌≤◌, Bool, true, false, IsTrue, List, length, Option, None, IfSome}
use Rattle.lw_io.specs.Streams.{StreamChange, NoneLeft, TakesJust, TakesAtMost, Took, Wrote, HasFailed}
use Rattle.lw_grammar.specs.declared.reason.Reason.{Reason}
use Rattle.lw_calls.specs.Orders.{is_legal}
use Rattle.lw_grammar.specs.Script.{ScriptInput, SpellsInput}
use Rattle.lw_machine.specs.Hook.{Hook}
use Rattle.lw_top.specs.declared.status.Status.{Status}
use Rattle.lw_top.specs.declared.status.Status.TheVariants.{Done, Refused, RefusedOrder, Usage, ReadFault, WriteFault, NoMemory}
use Rattle.lw_top.specs.declared.status.Status.TheVariants.{TooLong, Differs, BadOrder, BadPicture}
use Rattle.lw_top.specs.declared.words.ScriptCommand.{ScriptCommand}
use Rattle.lw_top.specs.declared.words.ScriptCommand.TheVariants.{Run, Check, Replay, Audit}
use Rattle.lw_top.specs.Audit.{IsMachineReport}
use Rattle.lw_top.specs.Bitmaps.{IsBitmapOutcome}
use Rattle.lw_top.specs.Commands.{Asked, OfScript, OfDemo, OfDisplay, OfBitmap, reads_input, reads_with, behind_script}
use Rattle.lw_top.specs.Commands.{IsTextFor, IsBadOrderFor, IsDifferenceFor}
use Rattle.lw_top.specs.Demo.{demo_text}
use Rattle.lw_top.specs.Displays.{IsDisplayOutcome}
use Rattle.lw_top.specs.Outcome.{IsBadLineOf, IsOutcome, IsTaken, Outcomes, Promised}
use Rattle.lw_top.specs.Status.{Says, text_of, input_limit}

-- A command has an outcome on an input, whatever hooks are handed in. Its answer is one only, and so is its text, but that a run
-- may have several legal orders, and a report for each.
pub record IsDecided (hooks : List Hook) (command : ScriptCommand) (input : List ℕ) : Type 0 where
  pub some : (status : Status) × (text : List ℕ) × IsOutcome hooks command input status text
  pub one : (s q : Status) (a b : List ℕ) → IsOutcome hooks command input s a → IsOutcome hooks command input q b
      → (s ≡ q) × ((a ≡ b) ⊎ ((command ≡ Run) × (s ≡ Done)))

abbrev pub OutcomesAreDecided : Type 0
OutcomesAreDecided = (hooks : List Hook) (command : ScriptCommand) (input : List ℕ) → IsDecided hooks command input

-- An input has an outcome, and one only.
pub record HasOneOutcome (IsDueOn : Outcomes) (input : List ℕ) : Type 0 where
  pub some : (status : Status) × (text : List ℕ) × IsDueOn input status text
  pub one : (s q : Status) (a b : List ℕ) → IsDueOn input s a → IsDueOn input q b → (s ≡ q) × (a ≡ b)

abbrev pub BitmapsAreDecided : Type 0
BitmapsAreDecided = (name input : List ℕ) → HasOneOutcome (IsBitmapOutcome name) input

abbrev pub DisplaysAreDecided : Type 0
DisplaysAreDecided = (input : List ℕ) → HasOneOutcome IsDisplayOutcome input

-- the text is what a command writes for the script that the input spells
abbrev pub IsTextOf : List Hook → ScriptCommand → List ℕ → List ℕ → Type 0
IsTextOf hooks command input text =
    (script : ScriptInput) × SpellsInput (reads_with (length hooks) command) input script
    × IsTextFor hooks command input script text

-- the place is the first bad one of the order in the script that the input spells
abbrev pub IsBadOrderOf : List Hook → ScriptCommand → List ℕ → ℕ → Type 0
IsBadOrderOf hooks command input place =
    (script : ScriptInput) × SpellsInput (reads_with (length hooks) command) input script
    × IsBadOrderFor command input script place

-- the place is that at which the report behind the script isn't the machine's
abbrev pub IsDifferenceOf : List Hook → ScriptCommand → List ℕ → ℕ → Type 0
IsDifferenceOf hooks command input place =
    (script : ScriptInput) × SpellsInput (reads_with (length hooks) command) input script
    × IsDifferenceFor hooks command input script place

-- a script in an input for which a command's text is due
abbrev pub IsDue : List Hook → ScriptCommand → List ℕ → ScriptInput → Type 0
IsDue hooks Run input script = Unit {0}
IsDue hooks Check input script = Unit {0}
IsDue hooks (Replay output) input script = is_legal script.plan script.order ≡ true
IsDue hooks Audit input script = IsMachineReport hooks script.plan (behind_script input script)

-- the answers that a stream's fault or running out of memory gives
abbrev pub is_stop : Status → Bool
is_stop ReadFault = true
is_stop WriteFault = true
is_stop NoMemory = true
is_stop status = false

-- The answer is the one that is due, or a fault or running out of memory came instead.
abbrev pub IsUnlessStopped : Status → Status → Type 0
IsUnlessStopped due result = (result ≡ due) ⊎ IsTrue (is_stop result)

-- Reading took all that a source had left, which is no more than the limit.
pub record IsInput (input : List ℕ) (source : StreamChange) : Type 0 where
  pub taken : Took input source
  pub end : NoneLeft source.new.bytes
  pub within : length input ≤ input_limit

-- The answer is the one that is due, and a text that is due with it was written whole.
pub record IsAnswer (IsDueOn : Outcomes) (input : List ℕ) (due result : Status) (sink : StreamChange) : Type 0 where
  pub text : List ℕ
  pub outcome : IsDueOn input due text
  pub same : result ≡ due
  pub written : Wrote text sink

-- What each answer tells of what was taken, and of what the source had left where it exposes that, where these are the outcomes.
pub record OutcomeTells (IsDueOn : Outcomes) (result : Status) (source sink : StreamChange) : Type 0 where
  -- an answer that neither a fault nor running out of memory gives is the outcome, and its text was written whole
  pub came : (due : Status) → is_stop due ≡ false → result ≡ due
      → (input : List ℕ) × IsTaken input source × IsAnswer IsDueOn input due result sink
  pub came_of_left : (due : Status) → is_stop due ≡ false → result ≡ due
      → IfSome source.old.bytes (λ input. IsAnswer IsDueOn input due result sink)
  pub read_fault : result ≡ ReadFault → HasFailed source
  pub write_fault : result ≡ WriteFault → HasFailed sink
  -- the outcome comes, unless a stream failed or memory ran out
  pub only : IfSome source.old.bytes (λ input. (due : Status) (text : List ℕ) → IsDueOn input due text
      → IsUnlessStopped due result)
  pub complete : ¬ HasFailed source → ¬ HasFailed sink
      → IfSome source.old.bytes (λ input. (due : Status) (text : List ℕ) → IsDueOn input due text
      → IsAnswer IsDueOn input due result sink ⊎ (result ≡ NoMemory))
  -- the text of each answer, whole
  pub text : result ≢ Done → result ≢ WriteFault → Wrote (text_of result) sink

-- What each answer to a command on a script tells of what was taken, and of what the source had left where it exposes that.
pub record AnswerTells (hooks : List Hook) (command : ScriptCommand) (result : Status) (source sink : StreamChange) : Type 0 where
  -- what was written with Done, and why each other answer came
  pub done : result ≡ Done
      → (input : List ℕ) × IsInput input source × (text : List ℕ) × IsTextOf hooks command input text × Wrote text sink
  pub done_of_left : result ≡ Done
      → IfSome source.old.bytes (λ input. (text : List ℕ) × IsTextOf hooks command input text × Wrote text sink)
  pub never_usage : result ≡ Usage → ⊥
  pub never_bad_picture : (place : ℕ) → result ≡ BadPicture place → ⊥
  pub never_refused_order : (line : ℕ) → result ≡ RefusedOrder line → ⊥
  pub read_fault : result ≡ ReadFault → HasFailed source
  pub too_long : result ≡ TooLong → TakesJust (input_limit + 1) source.old.bytes source.new.bytes
  pub too_long_of_left : result ≡ TooLong → IfSome source.old.bytes (λ input. input_limit < length input)
  pub refused : (line : ℕ) (reason : Reason) → result ≡ Refused line reason
      → (input : List ℕ) × IsInput input source × IsBadLineOf hooks command input line reason
  pub refused_of_left : (line : ℕ) (reason : Reason) → result ≡ Refused line reason
      → IfSome source.old.bytes (λ input. (length input ≤ input_limit) × IsBadLineOf hooks command input line reason)
  pub bad_order : (place : ℕ) → result ≡ BadOrder place
      → (input : List ℕ) × IsInput input source × IsBadOrderOf hooks command input place
  pub bad_order_of_left : (place : ℕ) → result ≡ BadOrder place
      → IfSome source.old.bytes (λ input. (length input ≤ input_limit) × IsBadOrderOf hooks command input place)
  pub differs : (place : ℕ) → result ≡ Differs place
      → (input : List ℕ) × IsInput input source × IsDifferenceOf hooks command input place
  pub differs_of_left : (place : ℕ) → result ≡ Differs place
      → IfSome source.old.bytes (λ input. (length input ≤ input_limit) × IsDifferenceOf hooks command input place)
  pub write_fault : result ≡ WriteFault → HasFailed sink
  -- that it comes, unless a stream failed or memory ran out
  pub only_too_long : IfSome source.old.bytes (λ input. input_limit < length input → IsUnlessStopped TooLong result)
  pub only_refused : IfSome source.old.bytes (λ input. length input ≤ input_limit
      → (line : ℕ) (reason : Reason) → IsBadLineOf hooks command input line reason → IsUnlessStopped (Refused line reason) result)
  pub only_bad_order : IfSome source.old.bytes (λ input. length input ≤ input_limit
      → (place : ℕ) → IsBadOrderOf hooks command input place → IsUnlessStopped (BadOrder place) result)
  pub only_differs : IfSome source.old.bytes (λ input. length input ≤ input_limit
      → (place : ℕ) → IsDifferenceOf hooks command input place → IsUnlessStopped (Differs place) result)
  pub only_done : IfSome source.old.bytes (λ input. length input ≤ input_limit
      → (script : ScriptInput) → SpellsInput (reads_with (length hooks) command) input script → IsDue hooks command input script
      → IsUnlessStopped Done result)
  pub complete : ¬ HasFailed source → ¬ HasFailed sink
      → IfSome source.old.bytes (λ input. (due : Status) (text : List ℕ) → IsOutcome hooks command input due text
      → IsAnswer (IsOutcome hooks command) input due result sink ⊎ (result ≡ NoMemory))
  -- the text of each answer, whole
  pub text : result ≢ Done → result ≢ WriteFault → Wrote (text_of result) sink

-- What each answer to a demo tells.
pub record DemoTells (number tasks : ℕ) (result : Status) (sink : StreamChange) : Type 0 where
  pub done : result ≡ Done → Wrote (demo_text number tasks) sink
  pub only : (result ≡ Done) ⊎ (result ≡ WriteFault) ⊎ (result ≡ NoMemory)
  -- that it is done, unless the sink failed or memory ran out
  pub complete : ¬ HasFailed sink → (result ≡ Done) ⊎ (result ≡ NoMemory)

-- What an answer tells of what was asked for.
abbrev pub CommandTells : List Hook → Asked → Status → StreamChange → StreamChange → Type 0
CommandTells hooks (OfScript command) result source sink = AnswerTells hooks command result source sink
CommandTells hooks (OfDemo number tasks) result source sink = DemoTells number tasks result sink
CommandTells hooks OfDisplay result source sink = OutcomeTells IsDisplayOutcome result source sink
CommandTells hooks (OfBitmap name) result source sink = OutcomeTells (IsBitmapOutcome name) result source sink

-- What an answer to the words of a command line tells, which ask for this, if they are a command.
pub record ToldOfWords (hooks : List Hook) (asked : Option Asked) (result : Status) (source sink : StreamChange) : Type 0 where
  pub told : IfSome asked (λ it. CommandTells hooks it result source sink)
  pub usage : result ≡ Usage → asked ≡ None
  pub only_usage : asked ≡ None → (result ≡ Usage) ⊎ (result ≡ WriteFault)
  pub write_fault : result ≡ WriteFault → HasFailed sink
  -- a stream's fault is answered, and not passed over
  pub no_read_fault : result ≢ ReadFault → source.new.faults ≡ source.old.faults
  pub no_write_fault : result ≢ WriteFault → sink.new.faults ≡ sink.old.faults
  -- the text of each answer, whole
  pub text : result ≢ Done → result ≢ WriteFault → Wrote (text_of result) sink
  pub taken : TakesAtMost (input_limit + 1) source.old.bytes source.new.bytes
  pub source_count : source.old.faults ≤ source.new.faults

-- What `layers` promises has all this in it: a command's promise, else the usage line; nothing read where the words ask for
-- nothing that reads the input; and nothing written after a fault of the source or running out of memory.
abbrev pub AnswersTell : Type 0
AnswersTell =
    (hooks : List Hook) (asked : Option Asked) (result : Status) (source sink : StreamChange)
    → IfSome asked (λ it. Promised hooks it result source sink)
    → (asked ≡ None → Says (text_of Usage) Usage result sink)
    → (reads_input asked ≡ false → source.new ≡ source.old)
    → ((result ≡ ReadFault) ⊎ (result ≡ NoMemory) → sink.new ≡ sink.old)
    → ToldOfWords hooks asked result source sink
