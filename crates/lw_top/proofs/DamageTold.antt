-- A text that is due has the damage that the history tells.
use Rattle.std.proofs.Common.{length, ◌∙◌}
use Rattle.lw_history.proofs.RunTold.{runs_tell_damage}
use Rattle.lw_grammar.proofs.ScriptRunnable.{spelled_runnable}
use Rattle.lw_top.specs.declared.words.ScriptCommand.TheVariants.{Run, Check, Replay, Audit}
use Rattle.lw_top.specs.declared.words.Output.TheVariants.{Report, Picture}
use Rattle.lw_top.specs.Commands.{reads_with}
use Rattle.lw_top.specs.Damage.{TextsTellDamageByHistory}

pub texts_tell : TextsTellDamageByHistory
texts_tell hooks Run input script text spells is =
    let plan = (spelled_runnable (reads_with (length hooks) Run) input script spells).plan in
    (is.0, is.1, is.2 ∙ (runs_tell_damage script.plan hooks is.0 plan).text)
texts_tell hooks Check input script text spells is = is
texts_tell hooks (Replay Picture) input script text spells is = is
texts_tell hooks (Replay Report) input script text spells is =
    let plan = (spelled_runnable (reads_with (length hooks) (Replay Report)) input script spells).plan in
    (is.0, is.1 ∙ (runs_tell_damage script.plan hooks script.order plan).text)
texts_tell hooks Audit input script text spells is =
    let plan = (spelled_runnable (reads_with (length hooks) Audit) input script spells).plan in
    ((is.0.0, is.0.1, is.0.2 ∙ (runs_tell_damage script.plan hooks is.0.0 plan).text), is.1)
