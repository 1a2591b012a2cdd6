use Rattle.std.proofs.Common.{arith}
use Rattle.lw_grammar.specs.declared.form.Form.TheVariants.{Ordered}
use Rattle.lw_grammar.specs.Script.{reading_with}
use Rattle.lw_grammar.specs.Reading.{outcome_of}
use Rattle.lw_script.specs.Answers.{input_meaning}
use Rattle.lw_grammar.proofs.ScriptOutcome.{outcome_spells}
use Rattle.lw_grammar.proofs.OrderFew.{order_few}
use Rattle.lw_display.proofs.SceneSteps.{counted_ok}
use Rattle.lw_display.proofs.scene.end_script.Goals as goal

pub in_legal_order-requires : goal.in_legal_order-requires
in_legal_order-requires c =
    let bytes = c.args.bytes.now in
    let input = input_meaning c.in-Ok.input in
    let spelled = counted_ok c.args.above (outcome_of (reading_with 0 Ordered) bytes) input c.in-Ok.ensures in
    let few = order_few (reading_with 0 Ordered) bytes input (outcome_spells (reading_with 0 Ordered) bytes input spelled) in
    let short = c.requires.short in
    omega (arith, few, short)
