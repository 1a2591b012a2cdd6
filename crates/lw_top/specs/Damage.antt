-- What the text of a command tells of damage.
use Rattle.std.specs.Prelude.{◌≡◌, ℕ, true, List, length, codes}
use Rattle.lw_calls.specs.Orders.{is_legal}
use Rattle.lw_calls.specs.Plan.{Plan}
use Rattle.lw_calls.specs.Written.{line_of}
use Rattle.lw_canonical.specs.Canonical.{canonical_text}
use Rattle.lw_machine.specs.Hook.{Hook}
use Rattle.lw_machine.specs.Report.{report}
use Rattle.lw_history.specs.ByHistory.{final_by_history}
use Rattle.lw_ilbm.specs.Pictures.{encoded}
use Rattle.lw_grammar.specs.Script.{ScriptInput, SpellsInput}
use Rattle.lw_top.specs.declared.words.ScriptCommand.{ScriptCommand}
use Rattle.lw_top.specs.declared.words.ScriptCommand.TheVariants.{Run, Check, Replay, Audit}
use Rattle.lw_top.specs.declared.words.Output.{Output}
use Rattle.lw_top.specs.declared.words.Output.TheVariants.{Report, Picture}
use Rattle.lw_top.specs.Commands.{reads_with, behind_script, IsTextFor}

-- what is written of a run, as `output_of` has it, but with the damage that is told by the history
abbrev pub output_by_history : Output → Plan → List Hook → List ℕ → List ℕ
output_by_history Report plan hooks order = report plan order (final_by_history plan hooks order)
output_by_history Picture plan hooks order = encoded (final_by_history plan hooks order).planes

-- The text that a command writes for a script, as `IsTextFor` has it, but that the report, written or audited, has of each simple
-- layer the damage which is told by the history of the order that it prints.
abbrev pub IsTextByHistory : List Hook → ScriptCommand → List ℕ → ScriptInput → List ℕ → Type 0
IsTextByHistory hooks Run input script text =
    (order : List ℕ) × (is_legal script.plan order ≡ true)
    × (text ≡ report script.plan order (final_by_history script.plan hooks order))
IsTextByHistory hooks Check input script text = text ≡ canonical_text script.plan
IsTextByHistory hooks (Replay output) input script text =
    (is_legal script.plan script.order ≡ true) × (text ≡ output_by_history output script.plan hooks script.order)
IsTextByHistory hooks Audit input script text =
    ((order : List ℕ) × (is_legal script.plan order ≡ true)
    × (behind_script input script ≡ report script.plan order (final_by_history script.plan hooks order)))
    × (text ≡ line_of (codes "same"))

-- A text that is due for a script which an input spells has the damage that the history tells.
abbrev pub TextsTellDamageByHistory : Type 0
TextsTellDamageByHistory =
    (hooks : List Hook) (command : ScriptCommand) (input : List ℕ) (script : ScriptInput) (text : List ℕ)
    → SpellsInput (reads_with (length hooks) command) input script → IsTextFor hooks command input script text
    → IsTextByHistory hooks command input script text
