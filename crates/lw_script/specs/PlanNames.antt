-- For private contracts.
-- The names of a plan and its windows of two layers, made at the end of the lines that were read.
use Rattle.std.specs.Prelude.{◌≡◌, ℕ, true, false, map, Result, Ok, Err}
use Rattle.lw_grammar.specs.declared.reason.Reason.TheVariants.{Missing}
use Rattle.lw_grammar.specs.Script.{may_end}
use Rattle.lw_words.specs.Cuts.{targets}
use Rattle.lw_statements.specs.SectionMeaning.{section_meaning}
use Rattle.lw_reader.specs.declared.state.Reader.{Reader}
use Rattle.lw_reader.specs.ReaderKnows.{placed}
use Rattle.lw_script.specs.declared.finish.PlanNames.{PlanNames}
use Rattle.lw_script.specs.declared.input.ScriptStop.{ScriptStop}
use Rattle.lw_script.specs.declared.input.ScriptStop.TheVariants.{Refused, Memory}

-- They are those that the reader knows.
pub record AreNames (r : Reader) (n : PlanNames) : Type 0 where
  pub slots : n.slot_names.items ≡ targets r.tasks.layer_names.keys
  pub tasks : n.task_names.items ≡ targets r.tasks.task_names.keys
  pub bitmaps : n.bitmap_names.items ≡ targets r.assets.names.keys
  pub windows : n.pairs.items ≡ map (placed (targets r.tasks.layer_names.keys)) r.tasks.pairs.items

-- They are, where the input may end below the lines; else the line that would be next is told with the reason `Missing`; or
-- memory ran out.
abbrev pub NamesAtEnd : Reader → ℕ → Result PlanNames ScriptStop → Type 0
NamesAtEnd r n (Ok names) = (may_end r.form (section_meaning r.section) ≡ true) × AreNames r names
NamesAtEnd r n (Err (Refused line reason)) =
    (may_end r.form (section_meaning r.section) ≡ false) × (line ≡ n) × (reason ≡ Missing)
NamesAtEnd r n (Err Memory) = Unit {0}
