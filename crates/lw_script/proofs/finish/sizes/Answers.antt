use Rattle.std.proofs.Common.{◌≤◌, length, arith}
use Rattle.lw_calls.specs.Limits.{limits_of}
use Rattle.lw_calls.proofs.LimitLaws.{names_at_most}
use Rattle.lw_grammar.specs.Told.{told}
use Rattle.lw_grammar.proofs.ScriptSizes.{counted}
use Rattle.lw_script.proofs.ReadPlans.{names_fit}
use Rattle.lw_script.proofs.finish.sizes.Goals as goal

pub overflow_cast-result : goal.overflow_cast-result
overflow_cast-result c =
    let h = c.requires in
    let few : length (told h.1).names ≤ (limits_of (told h.1).version).names = (counted h.0 h.1 h.3).names in
    names_fit c.args.reader.now.tasks.layer_names.keys _ c.len.result c.len.ensures.len h.2.tasks.names (omega (arith, few, names_at_most (told h.1).version))

pub overflow_cast-result-2 : goal.overflow_cast-result-2
overflow_cast-result-2 c =
    let h = c.requires in
    let few : length (told h.1).tasks ≤ 16 = (counted h.0 h.1 h.3).tasks in
    names_fit c.args.reader.now.tasks.task_names.keys _ c.len-2.result c.len-2.ensures.len h.2.tasks.tasks (omega (arith, few))

pub overflow_cast-result-3 : goal.overflow_cast-result-3
overflow_cast-result-3 c =
    let h = c.requires in
    let few : length (told h.1).bitmap_names ≤ 16 = (counted h.0 h.1 h.3).bitmaps in
    names_fit c.args.reader.now.assets.names.keys _ c.len-3.result c.len-3.ensures.len h.2.assets.names (omega (arith, few))
