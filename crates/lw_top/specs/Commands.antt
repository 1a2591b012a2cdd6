-- The program's commands: which words each has, what it reads, and what it writes for a script.
use Rattle.std.specs.Prelude.{◌≡◌, ℕ, ◌≤◌, Bool, true, false, IsTrue, ◌&&◌, if◌then◌else◌, List, [], ◌∷◌, codes, bytes_eq, drop}
use Rattle.std.specs.Prelude.{pos, unsigned_abs, Option, Some, None}
use Rattle.std.specs.Option.{option_map}
use Rattle.std.specs.String.{string_bytes}
use Rattle.std.specs.declared.string.String.{String}
use Rattle.lw_region.specs.Rectangle.{within}
use Rattle.lw_grammar.specs.declared.form.Form.TheVariants.{Plain, Ordered, Audited}
use Rattle.lw_canonical.specs.Canonical.{canonical_text}
use Rattle.lw_calls.specs.Orders.{is_legal, IsBadPlace}
use Rattle.lw_calls.specs.Written.{line_of}
use Rattle.lw_machine.specs.Hook.{Hook}
use Rattle.lw_machine.specs.Report.{run_report}
use Rattle.lw_machine.specs.Finals.{run_final}
use Rattle.lw_calls.specs.Plan.{Plan}
use Rattle.lw_ilbm.specs.Pictures.{encoded}
use Rattle.lw_grammar.specs.Tokens.{Token, NumberToken, token_of, is_a_name}
use Rattle.lw_grammar.specs.Script.{Setting, ScriptInput, reading_with}
use Rattle.lw_top.specs.declared.words.Command.{Command}
use Rattle.lw_top.specs.declared.words.Command.TheVariants.{Script, Demo, Display, Bitmap}
use Rattle.lw_top.specs.declared.words.Output.{Output}
use Rattle.lw_top.specs.declared.words.Output.TheVariants.{Report, Picture}
use Rattle.lw_top.specs.declared.words.ScriptCommand.{ScriptCommand}
use Rattle.lw_top.specs.declared.words.ScriptCommand.TheVariants.{Run, Check, Replay, Audit}
use Rattle.lw_top.specs.Audit.{IsMachineReport, IsBadReportOrder, IsDifference}

-- the command on a script of this name
abbrev pub command_named : List ℕ → Option ScriptCommand
command_named word =
    if bytes_eq word (codes "run") then Some Run
    else (if bytes_eq word (codes "check") then Some Check
    else (if bytes_eq word (codes "replay") then Some (Replay Report)
    else (if bytes_eq word (codes "audit") then Some Audit
    else (if bytes_eq word (codes "ilbm") then Some (Replay Picture) else None))))

-- What the words ask for: something with the script in the input, the demo of a number with so many tasks, what the display in
-- the input shows, or the picture in the input as a bitmap of a name.
pub data Asked : Type 0 where
  OfScript : ScriptCommand → Asked
  OfDemo : ℕ → ℕ → Asked
  OfDisplay : Asked
  OfBitmap : List ℕ → Asked

-- what a command asks for
abbrev pub asked_by : Command → Asked
asked_by (Script command) = OfScript command
asked_by (Demo number tasks) = OfDemo number tasks
asked_by Display = OfDisplay
asked_by (Bitmap name) = OfBitmap name.now

-- what one word asks for: `display`, or a command on a script
abbrev pub asked_in_a_word : List ℕ → Option Asked
asked_in_a_word word =
    if bytes_eq word (codes "display") then Some OfDisplay else option_map (λ command. OfScript command) (command_named word)

-- the number that a word of a script is, if it is one from the least to the most
abbrev pub number_within : ℕ → ℕ → Token → Option ℕ
number_within least most (NumberToken word z) = if within (pos least) z (pos most) then Some (unsigned_abs z) else None
number_within least most token = None

-- the demo of this number with so many tasks, where both are there
abbrev pub demo_of : Option ℕ → Option ℕ → Option Asked
demo_of (Some number) (Some tasks) = Some (OfDemo number tasks)
demo_of number tasks = None

-- the bitmap of this name, where the first word asks for one and the second is a name
abbrev pub bitmap_of : List ℕ → List ℕ → Option Asked
bitmap_of word name = if bytes_eq word (codes "bitmap") && is_a_name name then Some (OfBitmap name) else None

-- What the words ask for, if they are a command: a command on a script, `display`, `demo` with a number of 32 bits and a number
-- of 1 to 16 tasks, both spelled as in a script, or `bitmap` with a name of a script.
abbrev pub command_of : {A : Type 0} → List (String A) → Option Asked
command_of [] = None
command_of (word ∷ []) = asked_in_a_word (string_bytes word)
command_of (word ∷ name ∷ []) = bitmap_of (string_bytes word) (string_bytes name)
command_of (word ∷ number ∷ tasks ∷ []) =
    if bytes_eq (string_bytes word) (codes "demo")
    then demo_of (number_within 0 4294967295 (token_of (string_bytes number)))
    (number_within 1 16 (token_of (string_bytes tasks)))
    else None
command_of (word ∷ number ∷ tasks ∷ other ∷ words) = None

-- A demo that is asked for has 1 to 16 tasks, and a bitmap a name.
abbrev pub IsInRange : Asked → Type 0
IsInRange (OfScript command) = Unit {0}
IsInRange (OfDemo number tasks) = (1 ≤ tasks) × (tasks ≤ 16)
IsInRange OfDisplay = Unit {0}
IsInRange (OfBitmap name) = IsTrue (is_a_name name)

-- The words ask for something that reads the input.
abbrev pub reads_input : Option Asked → Bool
reads_input None = false
reads_input (Some (OfDemo number tasks)) = false
reads_input (Some asked) = true

-- How a command reads its input, where so many hooks are handed in: as a script alone, or with an order or a report behind it.
abbrev pub reads_with : ℕ → ScriptCommand → Setting
reads_with count Run = reading_with count Plain
reads_with count Check = reading_with count Plain
reads_with count (Replay output) = reading_with count Ordered
reads_with count Audit = reading_with count Audited

-- what stands in an input behind its script: for `audit` the report
abbrev pub behind_script : List ℕ → ScriptInput → List ℕ
behind_script input script = drop script.rest input

-- what is written of the machine's run of a plan in an order, with these hooks: its report, or its screen as an ILBM file
abbrev pub output_of : Output → Plan → List Hook → List ℕ → List ℕ
output_of Report plan hooks order = run_report plan hooks order
output_of Picture plan hooks order = encoded (run_final plan hooks order).planes

-- The text that a command writes for a script in an input, where these hooks are handed in: the report of the machine's run of
-- its plan with them, in a legal order, which the report prints; or what is written of the run in the order that stands in the
-- script, which is legal then; or the plan's canonical text; or `same`, where the report behind the script is the machine's in
-- some legal order.
abbrev pub IsTextFor : List Hook → ScriptCommand → List ℕ → ScriptInput → List ℕ → Type 0
IsTextFor hooks Run input script text = IsMachineReport hooks script.plan text
IsTextFor hooks Check input script text = text ≡ canonical_text script.plan
IsTextFor hooks (Replay output) input script text =
    (is_legal script.plan script.order ≡ true) × (text ≡ output_of output script.plan hooks script.order)
IsTextFor hooks Audit input script text =
    IsMachineReport hooks script.plan (behind_script input script) × (text ≡ line_of (codes "same"))

-- The first bad place of the order that stands in a script, of which a replay speaks, or in a report, of which `audit` does.
abbrev pub IsBadOrderFor : ScriptCommand → List ℕ → ScriptInput → ℕ → Type 0
IsBadOrderFor Run input script place = ⊥
IsBadOrderFor Check input script place = ⊥
IsBadOrderFor (Replay output) input script place = IsBadPlace script.plan script.order place
IsBadOrderFor Audit input script place = IsBadReportOrder script.plan (behind_script input script) place

-- The place at which the report behind a script isn't the machine's, of which only `audit` speaks.
abbrev pub IsDifferenceFor : List Hook → ScriptCommand → List ℕ → ScriptInput → ℕ → Type 0
IsDifferenceFor hooks Run input script place = ⊥
IsDifferenceFor hooks Check input script place = ⊥
IsDifferenceFor hooks (Replay output) input script place = ⊥
IsDifferenceFor hooks Audit input script place = IsDifference hooks script.plan (behind_script input script) place
